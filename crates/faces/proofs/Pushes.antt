-- What a list of faces holds after one face more, and its sizes.
use Rattle.std.proofs.Common.{◌≡◌, ℕ, ◌+◌, ◌≤◌, true, List, [], ◌∷◌, ◌++◌, map, length, vec_items, vec_len, sym, refl, ap, ◌∙◌, ap₂, arith}
use Rattle.std.proofs.lemmas.List.{map-append}
use Rattle.solid.specs.Corners.{corner_of, ring_of}
use Rattle.solid.specs.Rules.{corners}
use Rattle.solid.specs.declared.Corner.{Corner as StoredCorner}
use Rattle.faces.specs.Cuts.{ends_rise, cut}
use Rattle.faces.specs.Held.{stored_corners, stored_rings, rings}
use Rattle.faces.specs.declared.held.Faces.{Faces}
use Rattle.faces.proofs.Cuts.{joined, ends_push, length_cut, joined-cut, cut_push}

pub whole : (f : Faces) → ends_rise 0 (vec_items f.ends) (0 + length (vec_items f.corners)) ≡ true
whole f = let n : 0 + length (vec_items f.corners) ≡ vec_len f.corners = omega (arith, f.corners.ok.0) in ap (ends_rise 0 (vec_items f.ends)) n ∙ f.rise

pub face_count : (f : Faces) → length (stored_rings f) ≡ vec_len f.ends
face_count f = length_cut 0 (vec_items f.corners) (vec_items f.ends) ∙ omega (arith, f.ends.ok.0)

pub corner_count : (f : Faces) → length (stored_corners f) ≡ vec_len f.corners
corner_count f = omega (arith, f.corners.ok.0)

pub rings_push : (f : Faces) (ring xs : List StoredCorner) (es : List ℕ) (m : ℕ) → xs ≡ vec_items f.corners ++ ring → es ≡ vec_items f.ends ++ m ∷ [] → m ≡ vec_len f.corners + length ring → cut 0 xs es ≡ stored_rings f ++ ring ∷ []
rings_push f ring xs es m p q e = ap₂ (cut 0) p q ∙ cut_push 0 (vec_items f.corners) ring (vec_items f.ends) m (whole f) (omega (arith, f.corners.ok.0))

pub rise_more : (f : Faces) (es : List ℕ) (m n : ℕ) → es ≡ vec_items f.ends ++ m ∷ [] → m ≡ n → vec_len f.corners ≤ m → ends_rise 0 es n ≡ true
rise_more f es m n q e l = ap₂ (ends_rise 0) q (sym e) ∙ ends_push 0 (vec_items f.ends) (vec_len f.corners) m f.rise l

-- the corners of the rings are those held
corners_joined : (rs : List (List StoredCorner)) → corners (map ring_of rs) ≡ ring_of (joined rs)
corners_joined [] = refl
corners_joined (r ∷ rs) = ap (λ t. ring_of r ++ t) (corners_joined rs) ∙ sym (map-append corner_of r (joined rs))

pub corners_held : (f : Faces) → corners (rings f) ≡ ring_of (stored_corners f)
corners_held f = corners_joined (stored_rings f) ∙ ap ring_of (joined-cut 0 (vec_items f.corners) (vec_items f.ends) (whole f))
