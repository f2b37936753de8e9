-- Turning every ring of some faces round negates D of each face, the edge sum and the kept volume.
use Rattle.std.specs.Prelude.{◌≡◌, List, reverse, ℤ, neg_ℤ}
use Rattle.algebra.specs.Vector.{V3, negᵛ}
use Rattle.solid.specs.Lists.{In}
use Rattle.solid.specs.Faces.{Ring, D, kept_volume_of, edge_sum_of, reversed}

-- for faces with this kept volume and this edge sum
pub record Negates (fs : List Ring) (kept : ℤ) (sum : V3) : Type 0 where
  pub normals : (r : Ring) → In r fs → D (reverse r) ≡ negᵛ (D r)
  pub edge_sum : edge_sum_of (reversed fs) ≡ negᵛ sum
  pub volume : kept_volume_of (reversed fs) ≡ neg_ℤ kept
