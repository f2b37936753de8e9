use Rattle.std.proofs.Common.{length}
use Rattle.algebra.specs.Vector.{vector}
use Rattle.ring.proofs.Planes.{SoFar}
use Rattle.ring.proofs.ring.Ring.new.Given as goal

abbrev pub invariant-loop-from : goal.invariant-loop-from
invariant-loop-from l = SoFar l.corners (length l.yielded) (vector l.normal)
