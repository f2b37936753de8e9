-- What a list of faces stands for: its rings in order, and its room.
use Rattle.std.specs.Prelude.{◌≡◌, ℕ, ◌+◌, ◌<◌, ◌≤◌, cond, Result, is_ok, IsOk, ⊤, List, [], ◌∷◌, ◌++◌, map, length, vec_items, vec_capacity, slice_index_or}
use Rattle.solid.specs.Corners.{ring_of}
use Rattle.solid.specs.Faces.{Ring}
use Rattle.solid.specs.declared.Corner.{Corner as StoredCorner}
use Rattle.table.specs.declared.NoRoom.{NoRoom}
use Rattle.faces.specs.Cuts.{cut}
use Rattle.faces.specs.declared.held.Faces.{Faces}

-- the corners of all rings, one ring after the other
abbrev pub stored_corners : Faces → List StoredCorner
stored_corners f = vec_items f.corners

-- the key of the corner at a place
abbrev pub stored_key : Faces → ℕ → ℕ
stored_key f p = (slice_index_or (stored_corners f) p (record { key = 0; position = [] })).key

abbrev pub stored_rings : Faces → List (List StoredCorner)
stored_rings f = cut 0 (vec_items f.corners) (vec_items f.ends)

-- the rings, in the words of the rules
abbrev pub rings : Faces → List Ring
rings f = map ring_of (stored_rings f)

-- there is room for this many faces, with this many corners in all, with no new memory
abbrev pub Room : Faces → ℕ → ℕ → Type 0
Room f faces corners = (faces ≤ vec_capacity f.ends) × (corners ≤ vec_capacity f.corners)

-- what pushing a ring answers, and what it leaves
pub record Pushed (f : Faces) (ring : List StoredCorner) (g : Faces) (r : Result ⊤ NoRoom) : Type 0 where
  -- it refuses only where there is no room
  pub answer : (faces corners : ℕ) → Room f faces corners → length (stored_rings f) < faces → length (stored_corners f) + length ring ≤ corners → IsOk r
  -- and takes in only where there is
  pub fits : IsOk r → Room f (length (stored_rings f) + 1) (length (stored_corners f) + length ring)
  pub rings : stored_rings g ≡ cond (is_ok r) (stored_rings f ++ ring ∷ []) (stored_rings f)
  pub corners : stored_corners g ≡ cond (is_ok r) (stored_corners f ++ ring) (stored_corners f)
  pub room : (faces corners : ℕ) → Room f faces corners → Room g faces corners
