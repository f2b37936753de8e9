use Rattle.solid.proofs.Places.{onward_from}
use Rattle.index.specs.Closed.{faces_in}
use Rattle.index.proofs.index.closed.ClosedIndex.onward.Goals as goal

pub returns : goal.returns
returns c = onward_from (faces_in c.args.self.now) c.args.place c.reverse.result c.next.result c.reverse.ensures c.next.ensures
