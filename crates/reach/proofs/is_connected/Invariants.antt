use Rattle.std.proofs.Common.{ℕ, ◌+◌, ◌-◌, ◌*◌}
use Rattle.arrayvec.specs.ArrayVec.{array_vec_len}
use Rattle.index.specs.Closed.{faces_in}
use Rattle.index.proofs.Meanings.{consistent}
use Rattle.marks.specs.Bits.{members, ones_of}
use Rattle.solid.proofs.Reaching.{Reaching}
use Rattle.reach.specs.Sets.{Has, Waits}
use Rattle.reach.proofs.is_connected.Given as goal

abbrev pub invariant-loop-face : goal.invariant-loop-face
invariant-loop-face l = Reaching (faces_in l.closed) (consistent l.closed.index.now) (Has l.reached) l.reached.waiting.items × ((g : ℕ) → Waits l.reached g → Has l.reached g)

-- a face is taken up, and each new one in the set may wait
abbrev pub decreases-loop-face : goal.decreases-loop-face
decreases-loop-face l = 2 * (512 - ones_of (members l.reached.marks.words)) + array_vec_len l.reached.waiting
