-- Corners and edges of a ring by their places in the program's list.
use Rattle.std.specs.Prelude.{ℕ, ◌+◌, cond, List, [], length, nat_lt, slice_index_or}
use Rattle.solid.specs.Corners.{corner_of}
use Rattle.solid.specs.Faces.{Corner, Edge}
use Rattle.solid.specs.Rules.{NoCrossing}
use Rattle.solid.specs.declared.Corner.{Corner as StoredCorner}

-- what stands past the end of a ring
abbrev pub blank : StoredCorner
blank = record { key = 0; position = [] }

abbrev pub corner : List StoredCorner → ℕ → Corner
corner r i = corner_of (slice_index_or r i blank)

-- the place in a ring of k corners after the place i
abbrev pub following : ℕ → ℕ → ℕ
following k i = cond (nat_lt (i + 1) k) (i + 1) 0

abbrev pub edge : List StoredCorner → ℕ → Edge
edge r i = (corner r i, corner r (following (length r) i))

-- an edge of the code, in the words of the rules
abbrev pub edge_of : StoredCorner × StoredCorner → Edge
edge_of e = (corner_of e.0, corner_of e.1)

-- two edges that are clear of each other both ways round
pub record Clear (e f : Edge) : Type 0 where
  pub there : NoCrossing e f
  pub back : NoCrossing f e
