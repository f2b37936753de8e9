-- What the tables find, said of the faces' corners.
use Rattle.std.proofs.Common.{◌≡◌, ℕ, Bool, not, List, [], ◌∷◌, ℤ, is_some, Some, None, Decides, Option, sym, refl, ap, ◌∙◌, subst, inl, inr, true≢false}
use Rattle.std.specs.Ordering.{nat_cmp}
use Rattle.std.specs.Cmp.{nat_cmp_total}
use Rattle.std.specs.FinMap.{find, nat_cmp-IsAntisymmetric}
use Rattle.algebra.specs.Vector.{V3, vector, coordinates}
use Rattle.faces.specs.Held.{stored_corners, rings}
use Rattle.faces.specs.declared.held.Faces.{Faces}
use Rattle.faces.proofs.Pushes.{corners_held}
use Rattle.solid.specs.Corners.{corner_of, ring_of}
use Rattle.solid.specs.Faces.{Corner}
use Rattle.solid.specs.Lists.{In}
use Rattle.solid.specs.Rules.{corners, Consistent}
use Rattle.solid.specs.declared.Corner.{Corner as StoredCorner}
use Rattle.solid.proofs.Members.{in_map}
use Rattle.tracking.specs.Tables.{position_cmp, key_pairs, position_pairs}
use Rattle.tracking.specs.Tests.{AgreesWith}
use Rattle.tracking.proofs.Orders.{position_cmp_total, position_cmp_tells}
use Rattle.tracking.proofs.Pairs.{lookup_in, lookup_out}

-- ---- the corners that the faces hold
module _ (f : Faces) where
  pub held_in : (s : StoredCorner) → In s (stored_corners f) → In (corner_of s) (corners (rings f))
  held_in s i = subst (In (corner_of s)) (sym (corners_held f)) (in_map corner_of s (stored_corners f) i)

  pub in_held : (d : Corner) → In d (corners (rings f)) → (s : StoredCorner) × In s (stored_corners f) × (d ≡ corner_of s)
  in_held d i = unmap (stored_corners f) (subst (In d) (corners_held f) i)
    where
      unmap : (ss : List StoredCorner) → In d (ring_of ss) → (s : StoredCorner) × In s ss × (d ≡ corner_of s)
      unmap [] i = absurd i
      unmap (s ∷ ss) (inl e) = (s, inl refl, e)
      unmap (s ∷ ss) (inr i) = let k = unmap ss i in (k.0, inr k.1, k.2)

-- ---- positions by their coordinates
pub coordinates_tell : (v w : V3) → coordinates v ≡ coordinates w → v ≡ w
coordinates_tell v w e = ap vector e

-- ---- whether a corner agrees with the faces
module _ (f : Faces) (consistent : Consistent (rings f)) (c : StoredCorner) where
  -- its key is there, at the position p
  pub agrees_some : (p : List ℤ) (r : Bool) → find nat_cmp c.key (key_pairs (stored_corners f)) ≡ Some p → Decides r (vector p ≡ vector c.position) → Decides r (AgreesWith (rings f) (corner_of c))
  agrees_some p r found same =
      let k = lookup_in (λ (s : StoredCorner). s.key) (λ s. s.position) nat_cmp-IsAntisymmetric (stored_corners f) c.key p found in
      let d = corner_of k.0 in
      let d-in = held_in f k.0 k.1 in
      let d-at : d.position ≡ vector p = ap vector k.3 in (
        λ t e i. (
            let a = consistent.agree d e d-in i in
            let here = sym (same.0 t) in
            (λ key. here ∙ sym d-at ∙ a.0 (k.2 ∙ key), λ place. sym k.2 ∙ a.1 (d-at ∙ sym here ∙ place))
            ),
        λ agree. same.1 (sym d-at ∙ sym ((agree d d-in).0 (sym k.2))),
      )

  -- its key is not there
  pub agrees_none : find nat_cmp c.key (key_pairs (stored_corners f)) ≡ None → (o : Option ℕ) → o ≡ find position_cmp (coordinates (vector c.position)) (position_pairs (stored_corners f)) → Decides (not (is_some o)) (AgreesWith (rings f) (corner_of c))
  agrees_none absent (Some k) found =
      let s = lookup_in (λ (s : StoredCorner). coordinates (vector s.position)) (λ s. s.key) position_cmp_tells (stored_corners f) (coordinates (vector c.position)) k (sym found) in
      let d-in = held_in f s.0 s.1 in (
        λ t. absurd (true≢false (sym t)),
        λ agree. absurd (lookup_out (λ (s : StoredCorner). s.key) (λ s. s.position) nat_cmp_total (stored_corners f) c.key absent s.0 s.1
            (sym ((agree (corner_of s.0) d-in).1 (sym (coordinates_tell (vector s.0.position) (vector c.position) s.2))))),
      )
  agrees_none absent None found = (
    λ t d i.
        let s = in_held f d i in
        let no_key : c.key ≡ d.key → ⊥ = λ e. lookup_out (λ (s : StoredCorner). s.key) (λ s. s.position) nat_cmp_total (stored_corners f) c.key absent s.0 s.1 (sym (e ∙ ap (λ (x : Corner). x.key) s.2)) in
        let no_place : vector c.position ≡ d.position → ⊥ = λ e. lookup_out (λ (s : StoredCorner). coordinates (vector s.position)) (λ s. s.key) position_cmp_total (stored_corners f) (coordinates (vector c.position)) (sym found) s.0 s.1 (ap coordinates (sym (e ∙ ap (λ (x : Corner). x.position) s.2))) in
        (λ e. absurd (no_key e), λ e. absurd (no_place e)),
    λ _. refl,
  )
