-- How large the vectors are that the tests compute.
use Rattle.std.proofs.Common.{◌≡◌, sym, subst}
use Rattle.algebra.specs.Vector.{V3, cross, Small, Large}
use Rattle.algebra.proofs.Bounds.{◌∷ᵛ◌, vector_within}
use Rattle.algebra.proofs.Machine.{done}
use Rattle.algebra.proofs.Vectors.{𝐚, 𝐛, crossᴱ}

-- r is a cross product of two vectors within ±100000
pub cross_large : {r a b : V3} → r ≡ cross a b → Small a → Small b → Large r
cross_large e p q = subst Large (sym e) (vector_within (p ∷ᵛ q ∷ᵛ done) (crossᴱ 𝐚 𝐛) tt)
