use Rattle.std.proofs.Common.{◌≡◌, ◌*◌, ◌≤◌, take}
use Rattle.marks.specs.Bits.{members, ones_of}
use Rattle.marks.proofs.Marks.count.Given as goal

abbrev pub invariant-loop-w : goal.invariant-loop-w
invariant-loop-w g l = (l.n ≡ ones_of (members (take l.w-index l.self.words))) × (l.n ≤ 64 * l.w-index)
