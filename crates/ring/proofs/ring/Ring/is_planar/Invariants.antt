use Rattle.std.proofs.Common.{◌≡◌, ℕ, ◌<◌, pos}
use Rattle.algebra.specs.Vector.{◌-ᵛ◌, dot}
use Rattle.solid.specs.Corners.{ring_of}
use Rattle.solid.specs.Faces.{start, D}
use Rattle.ring.specs.Places.{corner}
use Rattle.ring.proofs.ring.Ring.is_planar.Given as goal

abbrev pub invariant-loop-corner : goal.invariant-loop-corner
invariant-loop-corner l = (i : ℕ) → i < l.corner-index → dot ((corner l.self.corners.now i).position -ᵛ start (ring_of l.self.corners.now)) (D (ring_of l.self.corners.now)) ≡ pos 0
