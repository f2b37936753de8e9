use Rattle.hull.proofs.Laws.{asked}
use Rattle.hull.proofs.Props.{counted_out}
use Rattle.hull.proofs.hull.Hull.open_edge_count.Goals as goal

pub returns : goal.returns
returns c = let h = c.args.self.now in record { value = (counted_out h.counted).open_count; law = asked h }
