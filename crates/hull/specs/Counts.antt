-- The counts that a hull keeps up to date with its faces.
use Rattle.std.specs.Prelude.{◌≡◌, ℕ, List, length, ℤ}
use Rattle.algebra.specs.Vector.{vector}
use Rattle.solid.specs.Faces.{Ring, open_edges_of, kept_volume_of, edge_sum_of}

pub record Counted (fs : List Ring) (opens : ℕ) (volume : ℤ) (sum : List ℤ) : Type 0 where
  pub open_count : opens ≡ length (open_edges_of fs)
  pub kept_volume : volume ≡ kept_volume_of fs
  pub edge_sum : vector sum ≡ edge_sum_of fs
