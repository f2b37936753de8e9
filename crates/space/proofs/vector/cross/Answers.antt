-- Each step of the cross product fits 64 bits, by the bound that `Machine` computes from ±100000, and three of them are the answer.
use Rattle.std.proofs.Common.{w64}
use Rattle.algebra.proofs.Bounds.{◌∷ᵛ◌}
use Rattle.algebra.proofs.Machine.{done, fits, stored}
use Rattle.algebra.proofs.Ring.{◌⊗◌}
use Rattle.algebra.proofs.Vectors.{𝐚, 𝐛, crossᴱ, V3-path}
use Rattle.space.proofs.vector.cross.Goals as goal

pub overflow_mul-result : goal.overflow_mul-result
overflow_mul-result c = fits w64 (c.requires.0 ∷ᵛ c.requires.1 ∷ᵛ done) (𝐚.y ⊗ 𝐛.z) tt

pub overflow_mul-result-2 : goal.overflow_mul-result-2
overflow_mul-result-2 c = fits w64 (c.requires.0 ∷ᵛ c.requires.1 ∷ᵛ done) (𝐚.z ⊗ 𝐛.y) tt

pub overflow_sub-result : goal.overflow_sub-result
overflow_sub-result c = fits w64 (c.requires.0 ∷ᵛ c.requires.1 ∷ᵛ done) (crossᴱ 𝐚 𝐛).x tt

pub overflow_mul-result-3 : goal.overflow_mul-result-3
overflow_mul-result-3 c = fits w64 (c.requires.0 ∷ᵛ c.requires.1 ∷ᵛ done) (𝐚.z ⊗ 𝐛.x) tt

pub overflow_mul-result-4 : goal.overflow_mul-result-4
overflow_mul-result-4 c = fits w64 (c.requires.0 ∷ᵛ c.requires.1 ∷ᵛ done) (𝐚.x ⊗ 𝐛.z) tt

pub overflow_sub-result-2 : goal.overflow_sub-result-2
overflow_sub-result-2 c = fits w64 (c.requires.0 ∷ᵛ c.requires.1 ∷ᵛ done) (crossᴱ 𝐚 𝐛).y tt

pub overflow_mul-result-5 : goal.overflow_mul-result-5
overflow_mul-result-5 c = fits w64 (c.requires.0 ∷ᵛ c.requires.1 ∷ᵛ done) (𝐚.x ⊗ 𝐛.y) tt

pub overflow_mul-result-6 : goal.overflow_mul-result-6
overflow_mul-result-6 c = fits w64 (c.requires.0 ∷ᵛ c.requires.1 ∷ᵛ done) (𝐚.y ⊗ 𝐛.x) tt

pub overflow_sub-result-3 : goal.overflow_sub-result-3
overflow_sub-result-3 c = fits w64 (c.requires.0 ∷ᵛ c.requires.1 ∷ᵛ done) (crossᴱ 𝐚 𝐛).z tt

pub returns : goal.returns
returns c =
    V3-path (stored w64 (c.requires.0 ∷ᵛ c.requires.1 ∷ᵛ done) (crossᴱ 𝐚 𝐛).x tt) (stored w64 (c.requires.0 ∷ᵛ c.requires.1 ∷ᵛ done) (crossᴱ 𝐚 𝐛).y tt) (stored w64 (c.requires.0 ∷ᵛ c.requires.1 ∷ᵛ done) (crossᴱ 𝐚 𝐛).z tt)
