-- The difference of two coordinates within ±50,000 fits 64 bits.
use Rattle.std.proofs.Common.{◌∙◌, ap₂, w64}
use Rattle.algebra.specs.Vector.{◌-ᵛ◌}
use Rattle.algebra.proofs.Bounds.{◌∷ᵛ◌}
use Rattle.algebra.proofs.Machine.{done, stored}
use Rattle.algebra.proofs.Vectors.{𝐚, 𝐛, ◌-ᴱ◌, V3-path}
use Rattle.space.proofs.vector.difference.Goals as goal

pub returns-clause-is : goal.returns-clause-is
returns-clause-is c =
    let fits = c.wide-p.ensures.small ∷ᵛ c.wide-q.ensures.small ∷ᵛ done in
    V3-path (stored w64 fits (𝐚 -ᴱ 𝐛).x tt) (stored w64 fits (𝐚 -ᴱ 𝐛).y tt) (stored w64 fits (𝐚 -ᴱ 𝐛).z tt) ∙ ap₂ ◌-ᵛ◌ c.wide-p.ensures.is c.wide-q.ensures.is
