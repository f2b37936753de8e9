-- What a hull means: its faces in order of entry, and the two numbers that its questions answer by what it keeps.
use Rattle.std.specs.Prelude.{List, ℤ}
use Rattle.algebra.specs.Vector.{V3, vector}
use Rattle.index.specs.Meaning.{faces_of as indexed}
use Rattle.solid.specs.Faces.{Ring}
use Rattle.hull.specs.declared.hull.Hull.{Hull}

abbrev pub faces_of : Hull → List Ring
faces_of h = indexed h.index

-- the kept volume and the edge sum as the questions answer them
abbrev pub answered_volume : Hull → ℤ
answered_volume h = h.volume

abbrev pub answered_edge_sum : Hull → V3
answered_edge_sum h = vector h.edge_sum
