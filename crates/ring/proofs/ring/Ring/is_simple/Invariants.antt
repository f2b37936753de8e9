use Rattle.std.proofs.Common.{◌≡◌, ℕ, ◌<◌, length, true}
use Rattle.ring.specs.Places.{Clear, edge}
use Rattle.ring.proofs.Places.{AllClear}
use Rattle.ring.proofs.ring.Ring.is_simple.Given as goal

-- the edges so far are clear of each other
abbrev pub invariant-pairs : goal.invariant-pairs
invariant-pairs l = (l.simple ≡ true) × AllClear l.self.corners.now (length l.yielded)

-- the edges so far are clear of edge i
abbrev pub invariant-loop-f : goal.invariant-loop-f
invariant-loop-f l = (l.simple ≡ true) × ((q : ℕ) → q < length l.yielded → Clear (edge l.self.corners.now q) (edge l.self.corners.now l.i))
