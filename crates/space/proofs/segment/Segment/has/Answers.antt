use Rattle.std.proofs.Common.{◌≡◌, [], ◌∷◌, pos, Decides, rules, refl}
use borrow.Author.Differences.{ints}
use Rattle.algebra.specs.Vector.{vector, null}
use Rattle.algebra.proofs.Arrays.{same_vector}
use Rattle.space.proofs.segment.Segment.has.Goals as goal
use Rattle.space.proofs.segment.Segment.has.Goals.{After-eq}

on_line : (c : After-eq) → Decides c.eq.result (vector c.cross.result ≡ null)
on_line c = same_vector c.cross.result (pos 0 ∷ pos 0 ∷ pos 0 ∷ []) c.eq.result (search rules) refl c.eq.ensures

pub returns-then-eq : goal.returns-then-eq
returns-then-eq c = let line = on_line (goal.at.returns-then-eq c).After-eq in search (rules, ints)

pub returns-else-eq : goal.returns-else-eq
returns-else-eq c = let line = on_line (goal.at.returns-else-eq c).After-eq in search rules
