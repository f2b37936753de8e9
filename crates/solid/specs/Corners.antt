-- Corners of the code, in the words of the rules.
use Rattle.std.specs.Prelude.{List, map}
use Rattle.algebra.specs.Vector.{vector}
use Rattle.solid.specs.Faces.{Corner, Ring}
use Rattle.solid.specs.declared.Corner.{Corner as StoredCorner}

abbrev pub corner_of : StoredCorner → Corner
corner_of c = record { key = c.key; position = vector c.position }

abbrev pub ring_of : List StoredCorner → Ring
ring_of cs = map corner_of cs
