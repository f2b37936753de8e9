-- The corners and edges of a ring by their places in the program's list.
use Rattle.std.proofs.Common.{◌≡◌, ℕ, zero, suc, ◌+◌, ◌<◌, ◌≤◌, ltb, List, [], ◌∷◌, ◌++◌, map, length, get_or, drop, sym, refl, ap, ◌∙◌, subst, inl, inr, add-one, arith}
use Rattle.std.proofs.lemmas.List.{get_or_append_left, get_or_push, get_or-map, length-map, at_drop_more, drop_all}
use Rattle.std.proofs.lemmas.Bool.{cases_lt, cases_order, cond-true, cond-false, cond_both, lt-ltb, le-ltb, ltb-true, ltb-false}
use Rattle.std.proofs.lemmas.Bool.Decides.{nat_tests}
use Rattle.algebra.specs.Vector.{Inside}
use Rattle.solid.specs.Places.{no_edge}
use Rattle.solid.specs.declared.Corner.{Corner as StoredCorner}
use Rattle.solid.proofs.Members.{in_at, at_in}
use Rattle.ring.specs.Places.{blank, corner, following, edge, Clear}
use Rattle.solid.specs.Corners.{corner_of, ring_of}
use Rattle.solid.specs.Faces.{Corner, Edge, flip, steps, edges}
use Rattle.solid.specs.Lists.{In, Distinct}
use Rattle.solid.specs.Rules.{NoCrossing, Simple, Tidy}

-- ---- what holds of the plain ring, by the places of the program's
pub corner_at : (r : List StoredCorner) (d : Corner) (i : ℕ) → i < length r → get_or (ring_of r) i d ≡ corner r i
corner_at r d i l = get_or-map corner_of r i blank d l

pub least_at : (r : List StoredCorner) → Tidy (ring_of r) → 3 ≤ length r
least_at r tidy = subst (λ n. 3 ≤ n) (length-map r corner_of) tidy.sized.0

pub few_at : (r : List StoredCorner) → Tidy (ring_of r) → length r ≤ 64
few_at r tidy = subst (λ n. n ≤ 64) (length-map r corner_of) tidy.sized.1

pub corner_in : (r : List StoredCorner) (i : ℕ) → i < length r → In (corner r i) (ring_of r)
corner_in r i l = subst (λ c. In c (ring_of r)) (corner_at r (corner_of blank) i l) (in_at (ring_of r) (corner_of blank) i (omega (arith, length-map r corner_of)))

pub corner_from : (r : List StoredCorner) (c : Corner) → In c (ring_of r) → (i : ℕ) × (i < length r) × (c ≡ corner r i)
corner_from r c h =
    let t = at_in (ring_of r) (corner_of blank) c h in
    let l : t.0 < length r = omega (arith, t.1, length-map r corner_of) in
    (t.0, l, t.2 ∙ corner_at r (corner_of blank) t.0 l)

pub inside_at : (r : List StoredCorner) → Tidy (ring_of r) → (i : ℕ) → i < length r → Inside (corner r i).position
inside_at r tidy i l = (tidy.valid (corner r i) (corner_in r i l)).position

-- ---- the edges
steps_length : (a : Corner) (bs : List StoredCorner) (z : Corner) → length (steps a (ring_of bs) z) ≡ suc (length bs)
steps_length a [] z = refl
steps_length a (b ∷ bs) z = ap suc (steps_length (corner_of b) bs z)

pub edges_length : (r : List StoredCorner) → length (edges (ring_of r)) ≡ length r
edges_length [] = refl
edges_length (c ∷ cs) = steps_length (corner_of c) cs (corner_of c)

steps_at : (a : StoredCorner) (bs : List StoredCorner) (z : StoredCorner) (d : Edge) (i : ℕ) → i ≤ length bs → get_or (steps (corner_of a) (ring_of bs) (corner_of z)) i d ≡ (corner (a ∷ bs) i, corner (bs ++ z ∷ []) i)
steps_at a [] z d zero h = refl
steps_at a [] z d (suc i) h = absurd (omega arith)
steps_at a (b ∷ bs) z d zero h = refl
steps_at a (b ∷ bs) z d (suc i) h = steps_at b bs z d i (omega arith)

-- what follows in a ring that begins with c
next_at : (c : StoredCorner) (cs : List StoredCorner) (i : ℕ) → i ≤ length cs → corner (cs ++ c ∷ []) i ≡ corner (c ∷ cs) (following (suc (length cs)) i)
next_at c cs i h = elim (cases_lt i (length cs)) [
  | inl l ↦ ap corner_of (get_or_append_left cs (c ∷ []) blank i l) ∙ sym (ap (corner (c ∷ cs)) (cond-true (ltb (i + 1) (suc (length cs))) (i + 1) 0 (lt-ltb (i + 1) (suc (length cs)) (omega arith)) ∙ add-one i))
  | inr l ↦ ap corner_of (get_or_push cs c blank i (omega arith)) ∙ sym (ap (corner (c ∷ cs)) (cond-false (ltb (i + 1) (suc (length cs))) (i + 1) 0 (le-ltb (i + 1) (suc (length cs)) (omega arith))))
]

pub edges_at : (r : List StoredCorner) (d : Edge) (i : ℕ) → i < length r → get_or (edges (ring_of r)) i d ≡ edge r i
edges_at [] d i h = absurd (omega arith)
edges_at (c ∷ cs) d i h = steps_at c cs c d i (omega arith) ∙ ap (λ x. (corner (c ∷ cs) i, x)) (next_at c cs i (omega arith))

pub edge_in : (r : List StoredCorner) (i : ℕ) → i < length r → In (edge r i) (edges (ring_of r))
edge_in r i h = subst (λ e. In e (edges (ring_of r))) (edges_at r no_edge i h) (in_at (edges (ring_of r)) no_edge i (omega (arith, edges_length r)))

pub edge_from : (r : List StoredCorner) (e : Edge) → In e (edges (ring_of r)) → (i : ℕ) × (i < length r) × (e ≡ edge r i)
edge_from r e h =
    let t = at_in (edges (ring_of r)) no_edge e h in
    let l : t.0 < length r = omega (arith, t.1, edges_length r) in
    (t.0, l, t.2 ∙ edges_at r no_edge t.0 l)

-- ---- the edges from a place on
pub left_at : (r : List StoredCorner) (i n : ℕ) → i < length r → n ≡ following (length r) i → drop i (edges (ring_of r)) ≡ (corner r i, corner r n) ∷ drop (i + 1) (edges (ring_of r))
left_at r i n l e =
    at_drop_more (λ es. es) (edges (ring_of r)) i no_edge (omega (arith, edges_length r))
    ∙ ap (λ (f : Edge). f ∷ drop (i + 1) (edges (ring_of r))) (edges_at r no_edge i l ∙ ap (λ m. (corner r i, corner r m)) (sym e))

pub none_left : (r : List StoredCorner) (i : ℕ) → length r ≤ i → drop i (edges (ring_of r)) ≡ []
none_left r i l = drop_all i (edges (ring_of r)) (omega (arith, edges_length r))

-- ---- different keys
abbrev keys_of : List StoredCorner → List ℕ
keys_of r = map (λ c. c.key) (ring_of r)

in_keys : (r : List StoredCorner) (i k : ℕ) → i < length r → k ≡ (corner r i).key → In k (keys_of r)
in_keys [] i k h e = absurd (omega arith)
in_keys (c ∷ cs) zero k h e = inl e
in_keys (c ∷ cs) (suc i) k h e = inr (in_keys cs i k (omega arith) e)

distinct_at : (r : List StoredCorner) → Distinct (keys_of r) → (i j : ℕ) → i < j → j < length r → (corner r i).key ≡ (corner r j).key → ⊥
distinct_at [] h i j l m e = omega arith
distinct_at (c ∷ cs) h i zero l m e = omega arith
distinct_at (c ∷ cs) h zero (suc j) l m e = h.0 (in_keys cs j c.key (omega arith) e)
distinct_at (c ∷ cs) h (suc i) (suc j) l m e = distinct_at cs h.1 i j (omega arith) (omega arith) e

module _ (r : List StoredCorner) (tidy : Tidy (ring_of r)) (i j : ℕ) (i-in : i < length r) (j-in : j < length r) where
  key_place : (corner r i).key ≡ (corner r j).key → i ≡ j
  key_place e = elim (cases_order i j) [
    | inl same ↦ same
    | inr (inl l) ↦ absurd (distinct_at r tidy.keys i j l j-in e)
    | inr (inr l) ↦ absurd (distinct_at r tidy.keys j i l i-in (sym e))
  ]

  pub same_key : (corner r i).key ≡ (corner r j).key → corner r i ≡ corner r j
  same_key e = ap (corner r) (key_place e)

  pub apart_at : i < j → corner r i ≡ corner r j → ⊥
  apart_at l e = distinct_at r tidy.keys i j l j-in (ap (λ c. c.key) e)

following_apart : (k i : ℕ) → 2 ≤ k → i < k → following k i ≡ i → ⊥
following_apart k i h l = cond_both (ltb (i + 1) k) (i + 1) 0 (λ n. n ≡ i → ⊥) (λ _ e. omega arith) (λ e z. omega (arith, ltb-false (i + 1) k e))

pub following_within : (k i : ℕ) → i < k → following k i < k
following_within k i l = cond_both (ltb (i + 1) k) (i + 1) 0 (λ n. n < k) (λ e. ltb-true (i + 1) k e) (λ _. omega arith)

-- ---- edges of which the place is known
module _ (r : List StoredCorner) (tidy : Tidy (ring_of r)) where
  pub edge_inside : (i : ℕ) → i < length r → (e : Edge) → e ≡ edge r i → Inside e.0.position × Inside e.1.position
  edge_inside i l e p =
      subst (λ (f : Edge). Inside f.0.position × Inside f.1.position) (sym p) (inside_at r tidy i l, inside_at r tidy (following (length r) i) (following_within (length r) i l))

  pub starts_apart : (i j : ℕ) → j < length r → i < j → (e f : Edge) → e ≡ edge r i → f ≡ edge r j → e.0 ≡ f.0 → ⊥
  starts_apart i j j-in l e f p q same =
      apart_at r tidy i j (omega (arith, l, j-in)) j-in l (ap (λ (x : Edge). x.0) (sym p) ∙ same ∙ ap (λ (x : Edge). x.0) q)

  pub ends_meet : (i j : ℕ) → i < length r → j < length r → (e f : Edge) → e ≡ edge r i → f ≡ edge r j → e.1.key ≡ f.0.key → e.1 ≡ f.0
  ends_meet i j i-in j-in e f p q same =
      ap (λ (x : Edge). x.1) p
      ∙ same_key r tidy (following (length r) i) j (following_within (length r) i i-in) j-in (ap (λ (x : Edge). x.1.key) (sym p) ∙ same ∙ ap (λ (x : Edge). x.0.key) q)
      ∙ ap (λ (x : Edge). x.0) (sym q)

-- no edge of a ring is the reverse of another: from the end of an edge the ring does not go straight back
pub no_reverse : (r : List StoredCorner) → Tidy (ring_of r) → (e : Edge) → In e (edges (ring_of r)) → In (flip e) (edges (ring_of r)) → ⊥
no_reverse r tidy e h k =
    let i = edge_from r e h in
    let j = edge_from r (flip e) k in
    let next = key_place r tidy j.0 (following (length r) i.0) j.1 (following_within (length r) i.0 i.1) (ap (λ (f : Edge). f.0.key) (sym j.2 ∙ ap flip i.2)) in
    let back = key_place r tidy (following (length r) j.0) i.0 (following_within (length r) j.0 j.1) i.1 (ap (λ (f : Edge). f.1.key) (sym j.2 ∙ ap flip i.2)) in
    around (length r) i.0 (least_at r tidy) i.1 (ap (following (length r)) (sym next) ∙ back)
  where
    around : (k i : ℕ) → 3 ≤ k → i < k → following k (following k i) ≡ i → ⊥
    around k i h l = grind (arith, nat_tests)

-- ---- all pairs by places, each once, of the edges before the place n
abbrev pub AllClear : List StoredCorner → ℕ → Type 0
AllClear r n = (p q : ℕ) → q < p → p < n → Clear (edge r q) (edge r p)

-- an edge and itself
alone : (r : List StoredCorner) → Tidy (ring_of r) → (i : ℕ) → i < length r → NoCrossing (edge r i) (edge r i)
alone r tidy i l = record {
  apart = λ n _ _ _. n refl;
  joined = λ same _. absurd (following_apart (length r) i (omega (arith, least_at r tidy)) l (same_place same));
}
  where
    same_place : corner r (following (length r) i) ≡ corner r i → following (length r) i ≡ i
    same_place e = key_place r tidy (following (length r) i) i (following_within (length r) i l) l (ap (λ c. c.key) e)

pub simple_from : (r : List StoredCorner) → Tidy (ring_of r) → AllClear r (length r) → Simple (ring_of r)
simple_from r tidy all e f e-in f-in =
    let i = edge_from r e e-in in
    let j = edge_from r f f-in in
    subst (λ x. NoCrossing x f) (sym i.2) (subst (λ x. NoCrossing (edge r i.0) x) (sym j.2) (by_place i.0 j.0 i.1 j.1))
  where
    by_place : (i j : ℕ) → i < length r → j < length r → NoCrossing (edge r i) (edge r j)
    by_place i j i-in j-in = elim (cases_order i j) [
      | inl same ↦ subst (λ k. NoCrossing (edge r i) (edge r k)) same (alone r tidy i i-in)
      | inr (inl l) ↦ (all j i l j-in).there
      | inr (inr l) ↦ (all i j l i-in).back
    ]

pub pair_from : (r : List StoredCorner) → Simple (ring_of r) → (i j : ℕ) → i < length r → j < length r → Clear (edge r i) (edge r j)
pair_from r simple i j i-in j-in = record {
  there = simple (edge r i) (edge r j) (edge_in r i i-in) (edge_in r j j-in);
  back = simple (edge r j) (edge r i) (edge_in r j j-in) (edge_in r i i-in);
}
