-- With one face more the tables are kept in step.
use Rattle.std.proofs.Common.{◌≡◌, ℕ, suc, ◌+◌, Bool, true, false, cond, ◌||◌, eqb, List, [], ◌∷◌, ◌++◌, map, length, ℤ, Result, IsOk, sym, refl, ap, ◌∙◌, subst, ap₂, inl, inr, true≢false, arith}
use mathlib.Core.List.{map-append}
use Rattle.std.specs.Bool.{⊤}
use Rattle.std.specs.Ordering.{nat_cmp, eq_by_cmp}
use Rattle.std.specs.FinMap.{from_entries, len}
use Rattle.std.proofs.lemmas.List.{length-map, length_push}
use Rattle.algebra.specs.Vector.{vector, coordinates}
use Rattle.faces.specs.Held.{stored_corners, stored_rings, rings, Pushed}
use Rattle.faces.specs.declared.held.Faces.{Faces}
use Rattle.solid.specs.Corners.{corner_of, ring_of}
use Rattle.solid.specs.Faces.{Edge, edges, all_edges}
use Rattle.solid.specs.Lists.{In, has, kinds}
use Rattle.solid.specs.Rules.{key_count_of, Enterable, Consistent}
use Rattle.solid.specs.declared.Corner.{Corner as StoredCorner}
use Rattle.solid.proofs.Cancel.{Tells}
use Rattle.solid.proofs.Tests.{number_tells}
use Rattle.solid.proofs.Members.{all_edges_more}
use Rattle.solid.proofs.Perms.{kinds_most}
use Rattle.solid.proofs.Rolls.{consistent_more}
use Rattle.table.specs.declared.NoRoom.{NoRoom}
use Rattle.table.specs.declared.Table.{Table}
use Rattle.tracking.specs.Growth.{Grows}
use Rattle.tracking.specs.Tables.{position_cmp, edge_cmp, key_pairs, position_pairs, edge_pairs, Tracks, Kept}
use Rattle.tracking.proofs.Finds.{held_in, coordinates_tell}
use Rattle.tracking.proofs.Grows.{edge_pairs-append}
use Rattle.tracking.proofs.Orders.{position_cmp_total, edge_cmp_total, position_test}
use Rattle.tracking.proofs.Pairs.{firsts_of, firsts, size_of_pairs}
use Rattle.tracking.proofs.Keys.{stored_keys, key_size, edge_total, face_total, edges_more}

-- ---- as many positions as keys
module _ {X A B : Type 0} (f : X → A) (g : X → B) {s : A → A → Bool} {t : B → B → Bool} (s-tells : Tells s) (t-tells : Tells t) where
  has_same : (x : X) (xs : List X) → ((y : X) → In y xs → f x ≡ f y → g x ≡ g y) → ((y : X) → In y xs → g x ≡ g y → f x ≡ f y) → has s (f x) (map f xs) ≡ has t (g x) (map g xs)
  has_same x [] p q = refl
  has_same x (y ∷ ys) p q = ap₂ ◌||◌ (test (s (f x) (f y)) (t (g x) (g y)) refl refl) (has_same x ys (λ z i. p z (inr i)) (λ z i. q z (inr i)))
    where
      test : (a b : Bool) → s (f x) (f y) ≡ a → t (g x) (g y) ≡ b → a ≡ b
      test true true u v = refl
      test true false u v = absurd (true≢false (sym (t-tells.itself (g x)) ∙ ap (λ w. t (g x) w) (p y (inl refl) (s-tells.equal (f x) (f y) u)) ∙ v))
      test false true u v = absurd (true≢false (sym (s-tells.itself (f x)) ∙ ap (λ w. s (f x) w) (q y (inl refl) (t-tells.equal (g x) (g y) v)) ∙ u))
      test false false u v = refl

  kinds_same : (xs : List X) → ((x y : X) → In x xs → In y xs → f x ≡ f y → g x ≡ g y) → ((x y : X) → In x xs → In y xs → g x ≡ g y → f x ≡ f y) → kinds s (map f xs) ≡ kinds t (map g xs)
  kinds_same [] p q = refl
  kinds_same (x ∷ xs) p q =
      ap₂ (λ b k. cond b k (suc k)) (has_same x xs (λ y i. p x y (inl refl) (inr i)) (λ y i. q x y (inl refl) (inr i)))
      (kinds_same xs (λ y z i j. p y z (inr i) (inr j)) (λ y z i j. q y z (inr i) (inr j)))

pub position_size : (f : Faces) → Consistent (rings f) → len (from_entries {R = position_cmp} (position_pairs (stored_corners f))) ≡ key_count_of (rings f)
position_size f h =
    size_of_pairs position_cmp_total (position_pairs (stored_corners f))
    ∙ ap (kinds (eq_by_cmp position_cmp)) (firsts (λ (s : StoredCorner). coordinates (vector s.position)) (λ s. s.key) (stored_corners f))
    ∙ kinds_same (λ (s : StoredCorner). coordinates (vector s.position)) (λ s. s.key) position_test number_tells (stored_corners f)
    (λ s t i j e. (h.agree (corner_of s) (corner_of t) (held_in f s i) (held_in f t j)).1 (coordinates_tell (vector s.position) (vector t.position) e))
    (λ s t i j e. ap coordinates ((h.agree (corner_of s) (corner_of t) (held_in f s i) (held_in f t j)).0 e))
    ∙ ap (kinds eqb) (stored_keys f)

-- ---- one face more
module _ (f g : Faces) (ring : List StoredCorner) (positions positions' : Table ℕ (List ℤ)) (keys keys' : Table (List ℤ) ℕ) (edges-in edges' : Table (ℕ × ℕ) ℕ) (r : Result ⊤ NoRoom) (kept : Kept f positions keys edges-in) (may : Enterable (rings f) (ring_of ring)) (pushed : Pushed f ring g r) where
  -- the faces had room
  done : IsOk r
  done =
      pushed.answer 512 3072 kept.face_room
      (omega (arith, may.limits.faces, length_push (rings f) (ring_of ring), face_total f))
      (omega (arith, may.limits.edges, edges_more (rings f) (ring_of ring), edge_total f, length-map ring corner_of))

  pub rings_grown : rings g ≡ rings f ++ ring_of ring ∷ []
  rings_grown = ap (map ring_of) (pushed.rings ∙ ap (λ (b : Bool). cond b (stored_rings f ++ ring ∷ []) (stored_rings f)) done) ∙ map-append ring_of (stored_rings f) (ring ∷ [])

  corners_grown : stored_corners g ≡ stored_corners f ++ ring
  corners_grown = pushed.corners ∙ ap (λ b. cond b (stored_corners f ++ ring) (stored_corners f)) done

  consistent_grown : Consistent (rings g)
  consistent_grown = subst Consistent (sym rings_grown) (consistent_more (rings f) (ring_of ring) kept.consistent may)

  all_edges_grown : all_edges (rings g) ≡ all_edges (rings f) ++ edges (ring_of ring)
  all_edges_grown = ap all_edges rings_grown ∙ all_edges_more (rings f) (ring_of ring)

  module _ (p : Grows nat_cmp positions (key_pairs ring) positions') (k : Grows position_cmp keys (position_pairs ring) keys') (e : Grows edge_cmp edges-in (edge_pairs (length (stored_corners f)) (edges (ring_of ring))) edges') where
    positions_grown : Tracks nat_cmp positions' (key_pairs (stored_corners g))
    positions_grown =
        let whole : key_pairs (stored_corners f) ++ key_pairs ring ≡ key_pairs (stored_corners g) = sym (ap key_pairs corners_grown ∙ map-append (λ (s : StoredCorner). (s.key, s.position)) (stored_corners f) ring) in
        subst (Tracks nat_cmp positions') whole (p.0 (key_pairs (stored_corners f)) kept.positions_held
        (omega (arith, ap (λ (ps : List (ℕ × List ℤ)). len (from_entries {R = nat_cmp} ps)) whole, key_size g, consistent_grown.limits.keys, kept.table_room.0)))

    keys_grown : Tracks position_cmp keys' (position_pairs (stored_corners g))
    keys_grown =
        let whole : position_pairs (stored_corners f) ++ position_pairs ring ≡ position_pairs (stored_corners g) = sym (ap position_pairs corners_grown ∙ map-append (λ (s : StoredCorner). (coordinates (vector s.position), s.key)) (stored_corners f) ring) in
        subst (Tracks position_cmp keys') whole (k.0 (position_pairs (stored_corners f)) kept.keys_held
        (omega (arith, ap (λ (ps : List (List ℤ × ℕ)). len (from_entries {R = position_cmp} ps)) whole, position_size g consistent_grown, consistent_grown.limits.keys, kept.table_room.1)))

    edges_length_of : (n : ℕ) (es : List Edge) → length (firsts_of (edge_pairs n es)) ≡ length es
    edges_length_of n [] = refl
    edges_length_of n (e ∷ es) = ap suc (edges_length_of (n + 1) es)

    edges_grown : Tracks edge_cmp edges' (edge_pairs 0 (all_edges (rings g)))
    edges_grown =
        let first : 0 + length (all_edges (rings f)) ≡ length (stored_corners f) = omega (arith, edge_total f) in
        let whole : edge_pairs 0 (all_edges (rings f)) ++ edge_pairs (length (stored_corners f)) (edges (ring_of ring)) ≡ edge_pairs 0 (all_edges (rings g)) =
        sym (ap (edge_pairs 0) all_edges_grown ∙ edge_pairs-append 0 (all_edges (rings f)) (edges (ring_of ring)) ∙ ap (λ n. edge_pairs 0 (all_edges (rings f)) ++ edge_pairs n (edges (ring_of ring))) first) in
        subst (Tracks edge_cmp edges') whole (e.0 (edge_pairs 0 (all_edges (rings f))) kept.edges_held
        (omega (arith, ap (λ (ps : List ((ℕ × ℕ) × ℕ)). len (from_entries {R = edge_cmp} ps)) whole, size_of_pairs edge_cmp_total (edge_pairs 0 (all_edges (rings g))), kinds_most (eq_by_cmp edge_cmp) (firsts_of (edge_pairs 0 (all_edges (rings g)))), edges_length_of 0 (all_edges (rings g)), consistent_grown.limits.edges, kept.table_room.2)))

    pub grown : Kept g positions' keys' edges'
    grown = record {
      consistent = consistent_grown;
      positions_held = positions_grown;
      keys_held = keys_grown;
      edges_held = edges_grown;
      face_room = pushed.room 512 3072 kept.face_room;
      table_room = (omega (arith, kept.table_room.0, p.1), omega (arith, kept.table_room.1, k.1), omega (arith, kept.table_room.2, e.1));
    }
