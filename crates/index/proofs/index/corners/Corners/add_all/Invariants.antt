use Rattle.std.proofs.Common.{take}
use Rattle.std.specs.Ordering.{nat_cmp}
use Rattle.tracking.specs.Growth.{Grows}
use Rattle.tracking.specs.Tables.{position_cmp, key_pairs, position_pairs}
use Rattle.index.proofs.index.corners.Corners.add_all.Given as goal

abbrev pub invariant-loop-c : goal.invariant-loop-c
invariant-loop-c l = Grows nat_cmp l.initial.self.positions (key_pairs (take l.c-index l.corners)) l.self.positions × Grows position_cmp l.initial.self.keys (position_pairs (take l.c-index l.corners)) l.self.keys
