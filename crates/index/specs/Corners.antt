-- Keys and their positions.
use Rattle.std.specs.Prelude.{◌≡◌}
use Rattle.std.specs.FinMap.{empty}
use Rattle.std.specs.Ordering.{nat_cmp}
use Rattle.table.specs.Seen.{map_of}
use Rattle.tracking.specs.Tables.{position_cmp}
use Rattle.index.specs.declared.index.corners.Corners.{Corners}

abbrev pub NoCorners : Corners → Type 0
NoCorners c = (map_of nat_cmp c.positions ≡ empty) × (map_of position_cmp c.keys ≡ empty)
