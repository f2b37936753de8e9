-- That the counts are those of the faces has one proof at most, so it comes out of the truncation in which a ghost field has it.
use mathlib.Core.HLevel.{hedberg}
use Rattle.std.proofs.Common.{ℕ, List, ℤ}
use mathlib.Core.Logic.{∥∥₁_elim}
use native.Mathlib.Decide.{ℕ_discrete}
use lib.IntN.{ℤ_set}
use Rattle.solid.specs.Faces.{Ring}
use Rattle.solid.proofs.Props.{vector_one}
use Rattle.hull.specs.Counts.{Counted}

counted_one : (fs : List Ring) (opens : ℕ) (volume : ℤ) (sum : List ℤ) → IsProp (Counted fs opens volume sum)
counted_one fs opens volume sum p q = λ i. record {
  open_count = hedberg ℕ_discrete _ _ p.open_count q.open_count i;
  kept_volume = ℤ_set _ _ p.kept_volume q.kept_volume i;
  edge_sum = vector_one _ _ p.edge_sum q.edge_sum i;
}

pub counted_out : {fs : List Ring} {opens : ℕ} {volume : ℤ} {sum : List ℤ} → ∥ Counted fs opens volume sum ∥₁ → Counted fs opens volume sum
counted_out {fs} {opens} {volume} {sum} t = ∥∥₁_elim t (counted_one fs opens volume sum) (λ k. k)
