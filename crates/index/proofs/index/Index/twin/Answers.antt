use Rattle.index.proofs.Meanings.{twin_found}
use Rattle.index.proofs.index.Index.twin.Goals as goal

pub returns : goal.returns
returns c = twin_found c.args.self.now c.args.place c.next.result c.requires c.next.ensures _ _ c.key-from.ensures c.key-to.ensures c.find.result c.find.ensures
