-- The corners of a plate.
use Rattle.std.specs.Prelude.{ℕ, ◌+◌, ◌*◌, List, [], ◌∷◌, map, pos}
use Rattle.std.specs.List.{range_with_len}
use Rattle.solid.specs.declared.Corner.{Corner}

abbrev pub plate_corners : ℕ → ℕ → ℕ → List Corner
plate_corners first z count = map (λ i. record { key = first + i; position = pos i ∷ pos (i * i) ∷ pos z ∷ [] }) (range_with_len 0 count)
