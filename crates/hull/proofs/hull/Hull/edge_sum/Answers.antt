use Rattle.std.proofs.Common.{refl}
use Rattle.hull.proofs.Laws.{asked}
use Rattle.hull.proofs.Props.{counted_out}
use Rattle.hull.proofs.hull.Hull.edge_sum.Goals as goal

pub returns : goal.returns
returns c = let h = c.args.self.now in record { value = ((counted_out h.counted).edge_sum, refl); law = asked h }
