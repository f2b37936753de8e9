use Rattle.std.proofs.Common.{rules}
use borrow.Author.Differences.{ints}
use Rattle.space.proofs.segment.is_shared.Goals as goal
use Rattle.space.proofs.segment.is_shared.Goals.{then-height-eq0, else-height-eq0}

pub returns-then-is_part : goal.returns-then-is_part
returns-then-is_part c = elim c.if-height-eq0.branch [ then-height-eq0 w ↦ search (rules, ints) | else-height-eq0 w ↦ search (rules, ints) ]
