-- What an index means: its faces in order of entry, and the places of their edges in rising order of the keys at which the edges begin.
use Rattle.std.specs.Prelude.{ℕ, List}
use Rattle.faces.specs.Held.{rings}
use Rattle.solid.specs.Faces.{Ring}
use Rattle.std.specs.FinMap.{values}
use Rattle.table.specs.Seen.{map_of}
use Rattle.tracking.specs.Tables.{edge_cmp}
use Rattle.index.specs.declared.index.Index.{Index}

abbrev pub faces_of : Index → List Ring
faces_of x = rings x.faces

abbrev pub places_by_key : Index → List ℕ
places_by_key x = values (map_of edge_cmp x.edges)
