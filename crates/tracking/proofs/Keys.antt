-- How many keys the faces have, and how many a ring adds to them.
use Rattle.std.proofs.Common.{◌≡◌, ℕ, zero, suc, ◌+◌, ◌<◌, ◌≤◌, Bool, true, false, not, cond, eqb, List, [], ◌∷◌, ◌++◌, map, filter, length, get_or, take, is_some, sym, refl, ap, ◌∙◌, subst, ap₂, inl, inr, true≢false, append_assoc, append-nil, arith, length-append}
use mathlib.Core.List.{map-append}
use Rattle.std.specs.Ordering.{nat_cmp}
use Rattle.std.specs.Cmp.{nat_cmp_total}
use Rattle.std.specs.FinMap.{find, from_entries, len}
use Rattle.std.proofs.lemmas.List.{take_more, length-map}
use Rattle.std.proofs.lemmas.List.Filters.{length-filter_more}
use Rattle.faces.specs.Held.{stored_corners, stored_rings, rings}
use Rattle.faces.specs.declared.held.Faces.{Faces}
use Rattle.faces.proofs.Pushes.{corners_held}
use Rattle.solid.specs.Corners.{corner_of, ring_of}
use Rattle.solid.specs.Faces.{Corner, Ring, edges, all_edges}
use Rattle.solid.specs.Lists.{In, Distinct, has, kinds}
use Rattle.solid.specs.Rules.{corners, key_count_of}
use Rattle.solid.specs.declared.Corner.{Corner as StoredCorner}
use Rattle.solid.proofs.Cancel.{in_from_has, has_from_in, has_not}
use Rattle.solid.proofs.Members.{in_append, in_left, edges_length, all_edges_more, corners_more}
use Rattle.solid.proofs.Perms.{kinds_push}
use Rattle.solid.proofs.Tests.{number_tells}
use Rattle.ring.specs.Places.{blank}
use Rattle.tracking.specs.Tables.{key_pairs}
use Rattle.tracking.proofs.Orders.{number_test}
use Rattle.tracking.proofs.Pairs.{firsts_of, firsts, found_pair, size_of_pairs}

pub keys_held : (f : Faces) → map (λ (c : Corner). c.key) (corners (rings f)) ≡ map (λ (s : StoredCorner). s.key) (stored_corners f)
keys_held f = ap (map (λ (c : Corner). c.key)) (corners_held f) ∙ stored (stored_corners f)
  where
    stored : (ss : List StoredCorner) → map (λ (c : Corner). c.key) (ring_of ss) ≡ map (λ (s : StoredCorner). s.key) ss
    stored [] = refl
    stored (s ∷ ss) = ap (λ t. s.key ∷ t) (stored ss)

pub stored_keys : (f : Faces) → map (λ (s : StoredCorner). s.key) (stored_corners f) ≡ map (λ (c : Corner). c.key) (corners (rings f))
stored_keys f = sym (keys_held f)

pub found_key : (f : Faces) (q : ℕ) → is_some (find nat_cmp q (key_pairs (stored_corners f))) ≡ has eqb q (map (λ (c : Corner). c.key) (corners (rings f)))
found_key f q =
    found_pair nat_cmp (key_pairs (stored_corners f)) q
    ∙ ap (λ t. has t q (firsts_of (key_pairs (stored_corners f)))) number_test
    ∙ ap (has eqb q) (firsts (λ (s : StoredCorner). s.key) (λ s. s.position) (stored_corners f) ∙ stored_keys f)

-- ---- different numbers, put to others one by one
module _ (ks ns : List ℕ) (once : Distinct ns) where
  -- the number at i is not one of those before it
  new_at : (i : ℕ) → i < length ns → In (get_or ns i 0) (take i ns) → ⊥
  new_at i l h = apart ns i once l h
    where
      apart : (ns : List ℕ) (i : ℕ) → Distinct ns → i < length ns → In (get_or ns i 0) (take i ns) → ⊥
      apart [] i d l h = omega arith
      apart (n ∷ ns) zero d l h = h
      apart (n ∷ ns) (suc i) d l (inl e) = d.0 (subst (λ m. In m ns) e (at ns i (omega arith)))
        where
          at : (ns : List ℕ) (i : ℕ) → i < length ns → In (get_or ns i 0) ns
          at [] i l = absurd (omega arith)
          at (n ∷ ns) zero l = inl refl
          at (n ∷ ns) (suc i) l = inr (at ns i (omega arith))
      apart (n ∷ ns) (suc i) d l (inr h) = apart ns i d.1 (omega arith) h

  pub kinds_more : (i : ℕ) → i < length ns → kinds eqb (ks ++ take (i + 1) ns) ≡ cond (has eqb (get_or ns i 0) ks) (kinds eqb (ks ++ take i ns)) (suc (kinds eqb (ks ++ take i ns)))
  kinds_more i l =
      ap (λ t. kinds eqb (ks ++ t)) (take_more ns i 0 l)
      ∙ ap (kinds eqb) (sym (append_assoc ks (take i ns) (get_or ns i 0 ∷ [])))
      ∙ kinds_push eqb number_tells (ks ++ take i ns) (get_or ns i 0)
      ∙ ap (λ b. cond b (kinds eqb (ks ++ take i ns)) (suc (kinds eqb (ks ++ take i ns)))) (same (has eqb (get_or ns i 0) ks) refl)
    where
      same : (b : Bool) → has eqb (get_or ns i 0) ks ≡ b → has eqb (get_or ns i 0) (ks ++ take i ns) ≡ b
      same true e = has_from_in eqb number_tells (get_or ns i 0) (ks ++ take i ns) (in_left (get_or ns i 0) ks (take i ns) (in_from_has eqb number_tells (get_or ns i 0) ks e))
      same false e = has_not eqb number_tells (get_or ns i 0) (ks ++ take i ns) (λ h. elim (in_append (get_or ns i 0) ks (take i ns) h) [
        | inl j ↦ true≢false (sym (has_from_in eqb number_tells (get_or ns i 0) ks j) ∙ e)
        | inr j ↦ new_at i l j
      ])

  -- those that are new are counted
  pub kinds_all : (i : ℕ) → i ≤ length ns → kinds eqb (ks ++ take i ns) ≡ kinds eqb ks + length (filter (λ n. not (has eqb n ks)) (take i ns))
  kinds_all zero l = ap (kinds eqb) (append-nil ks) ∙ omega arith
  kinds_all (suc i) l =
      let new : ℕ → Bool = λ n. not (has eqb n ks) in
      let n = get_or ns i 0 in
      let next : i + 1 ≡ suc i = omega arith in
      ap (λ k. kinds eqb (ks ++ take k ns)) (sym next)
      ∙ kinds_more i (omega arith)
      ∙ ap (λ m. cond (has eqb n ks) m (suc m)) (kinds_all i (omega arith))
      ∙ one_more (has eqb n ks) (kinds eqb ks) (length (filter new (take i ns)))
      ∙ ap (λ m. kinds eqb ks + m) (sym (length-filter_more new ns i 0 (omega arith)))
      ∙ ap (λ k. kinds eqb ks + length (filter new (take k ns))) next
    where
      one_more : (b : Bool) (a m : ℕ) → cond b (a + m) (suc (a + m)) ≡ a + (m + cond (not b) 1 0)
      one_more true a m = omega arith
      one_more false a m = omega arith

-- the keys of the faces with one ring more
pub key_count_more : (fs : List Ring) (r : Ring) → key_count_of (fs ++ r ∷ []) ≡ kinds eqb (map (λ (c : Corner). c.key) (corners fs) ++ map (λ (c : Corner). c.key) r)
key_count_more fs r = ap (λ (cs : List Corner). kinds eqb (map (λ (c : Corner). c.key) cs)) (corners_more fs r) ∙ ap (kinds eqb) (map-append (λ (c : Corner). c.key) (corners fs) r)

-- ---- by places in the program's ring
pub keys_length : (r : List StoredCorner) → length (map (λ (c : Corner). c.key) (ring_of r)) ≡ length r
keys_length [] = refl
keys_length (s ∷ r) = ap suc (keys_length r)

pub key_at_lem : (r : List StoredCorner) (i : ℕ) → i < length r → get_or (map (λ (c : Corner). c.key) (ring_of r)) i 0 ≡ (get_or r i blank).key
key_at_lem [] i l = absurd (omega arith)
key_at_lem (s ∷ r) zero l = refl
key_at_lem (s ∷ r) (suc i) l = key_at_lem r i (omega arith)

-- ---- sizes of what is held
pub key_size : (f : Faces) → len (from_entries {R = nat_cmp} (key_pairs (stored_corners f))) ≡ key_count_of (rings f)
key_size f =
    size_of_pairs nat_cmp_total (key_pairs (stored_corners f))
    ∙ ap (λ t. kinds t (firsts_of (key_pairs (stored_corners f)))) number_test
    ∙ ap (kinds eqb) (firsts (λ (s : StoredCorner). s.key) (λ s. s.position) (stored_corners f) ∙ stored_keys f)

edges_are_corners : (fs : List Ring) → length (all_edges fs) ≡ length (corners fs)
edges_are_corners [] = refl
edges_are_corners (r ∷ rs) = length-append (edges r) (all_edges rs) ∙ ap₂ ◌+◌ (edges_length r) (edges_are_corners rs) ∙ sym (length-append r (corners rs))

pub edge_total : (f : Faces) → length (all_edges (rings f)) ≡ length (stored_corners f)
edge_total f = edges_are_corners (rings f) ∙ ap length (corners_held f) ∙ length-map (stored_corners f) corner_of

pub face_total : (f : Faces) → length (rings f) ≡ length (stored_rings f)
face_total f = length-map (stored_rings f) ring_of

pub edges_more : (fs : List Ring) (r : Ring) → length (all_edges (fs ++ r ∷ [])) ≡ length (all_edges fs) + length r
edges_more fs r = ap length (all_edges_more fs r) ∙ length-append (all_edges fs) (edges r) ∙ ap (λ n. length (all_edges fs) + n) (edges_length r)
