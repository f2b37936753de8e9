use Rattle.hull.proofs.Laws.{asked}
use Rattle.hull.proofs.hull.Hull.edge_count.Goals as goal

pub returns : goal.returns
returns c = record { value = c.edge_count.ensures; law = asked c.args.self.now }
