-- The corners of the tetrahedron of 6 mm.
use Rattle.std.specs.Prelude.{ℕ, List, [], ◌∷◌, pos}
use Rattle.solid.specs.declared.Corner.{Corner}

abbrev pub corner : ℕ → ℕ → ℕ → ℕ → Corner
corner key x y z = record { key = key; position = pos x ∷ pos y ∷ pos z ∷ [] }

abbrev pub tetrahedron_corners : List Corner
tetrahedron_corners = corner 1 0 0 0 ∷ corner 2 600 0 0 ∷ corner 3 0 600 0 ∷ corner 4 0 0 600 ∷ []
