use Rattle.std.proofs.Common.{w64}
use Rattle.algebra.proofs.Bounds.{◌∷ᵛ◌}
use Rattle.algebra.proofs.Machine.{done, stored}
use Rattle.algebra.proofs.Vectors.{𝐚, 𝐛, ◌+ᴱ◌, V3-path}
use Rattle.space.proofs.vector.plus.Goals as goal

pub returns : goal.returns
returns c =
    let fits = c.requires.0 ∷ᵛ c.requires.1 ∷ᵛ done in
    V3-path (stored w64 fits (𝐚 +ᴱ 𝐛).x tt) (stored w64 fits (𝐚 +ᴱ 𝐛).y tt) (stored w64 fits (𝐚 +ᴱ 𝐛).z tt)
