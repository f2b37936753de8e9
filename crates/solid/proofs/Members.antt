-- Membership and no repeats, in lists put together.
use Rattle.std.proofs.Common.{◌≡◌, ℕ, zero, suc, ◌<◌, ◌⊎◌, List, [], ◌∷◌, ◌++◌, map, length, get_or, sym, refl, ap, ◌∙◌, subst, inl, inr, append_assoc, append-nil, arith}
use Rattle.solid.specs.Lists.{In, Distinct}
use Rattle.solid.specs.Faces.{Corner, Ring, Edge, steps, edges, all_edges}
use Rattle.solid.specs.Rules.{corners}

module _ {X : Type 0} where
  pub in_append : (x : X) (xs ys : List X) → In x (xs ++ ys) → In x xs ⊎ In x ys
  in_append x [] ys i = inr i
  in_append x (y ∷ xs) ys (inl e) = inl (inl e)
  in_append x (y ∷ xs) ys (inr i) = elim (in_append x xs ys i) [ inl j ↦ inl (inr j) | inr j ↦ inr j ]

  pub in_left : (x : X) (xs ys : List X) → In x xs → In x (xs ++ ys)
  in_left x [] ys i = absurd i
  in_left x (y ∷ xs) ys (inl e) = inl e
  in_left x (y ∷ xs) ys (inr i) = inr (in_left x xs ys i)

  pub in_right : (x : X) (xs ys : List X) → In x ys → In x (xs ++ ys)
  in_right x [] ys i = i
  in_right x (y ∷ xs) ys i = inr (in_right x xs ys i)

  pub distinct_append : (xs ys : List X) → Distinct xs → Distinct ys → ((x : X) → In x xs → In x ys → ⊥) → Distinct (xs ++ ys)
  distinct_append [] ys d e apart = e
  distinct_append (x ∷ xs) ys d e apart =
      (λ i. elim (in_append x xs ys i) [ inl j ↦ d.0 j | inr j ↦ apart x (inl refl) j ], distinct_append xs ys d.1 e (λ y i j. apart y (inr i) j))

  pub distinct_apart : (xs ys : List X) → Distinct (xs ++ ys) → (x : X) → In x xs → In x ys → ⊥
  distinct_apart [] ys d x i j = i
  distinct_apart (y ∷ xs) ys d x (inl e) j = d.0 (in_right y xs ys (subst (λ t. In t ys) e j))
  distinct_apart (y ∷ xs) ys d x (inr i) j = distinct_apart xs ys d.1 x i j

  pub distinct_left : (xs ys : List X) → Distinct (xs ++ ys) → Distinct xs
  distinct_left [] ys d = tt
  distinct_left (x ∷ xs) ys d = (λ i. d.0 (in_left x xs ys i), distinct_left xs ys d.1)

  pub distinct_right : (xs ys : List X) → Distinct (xs ++ ys) → Distinct ys
  distinct_right [] ys d = d
  distinct_right (x ∷ xs) ys d = distinct_right xs ys d.1

-- ---- membership by places
pub in_at : {X : Type 0} (xs : List X) (d : X) (i : ℕ) → i < length xs → In (get_or xs i d) xs
in_at [] d i h = absurd (omega arith)
in_at (x ∷ xs) d zero h = inl refl
in_at (x ∷ xs) d (suc i) h = inr (in_at xs d i (omega arith))

pub at_in : {X : Type 0} (xs : List X) (d x : X) → In x xs → (i : ℕ) × (i < length xs) × (x ≡ get_or xs i d)
at_in [] d x h = absurd h
at_in (y ∷ ys) d x (inl e) = (0, omega arith, e)
at_in (y ∷ ys) d x (inr h) = let t = at_in ys d x h in (suc t.0, omega (arith, t.1), t.2)

module _ {X Y : Type 0} (f : X → Y) where
  pub in_map : (x : X) (xs : List X) → In x xs → In (f x) (map f xs)
  in_map x [] i = absurd i
  in_map x (y ∷ ys) (inl e) = inl (ap f e)
  in_map x (y ∷ ys) (inr i) = inr (in_map x ys i)

  pub distinct_from_map : (xs : List X) → Distinct (map f xs) → Distinct xs
  distinct_from_map [] d = tt
  distinct_from_map (x ∷ xs) d = (λ i. d.0 (in_map x xs i), distinct_from_map xs d.1)

-- ---- rings
-- an edge begins at each corner
pub key_starts : (c : Corner) (cs : List Corner) (z : Corner) → map (λ (e : Edge). e.0.key) (steps c cs z) ≡ map (λ (d : Corner). d.key) (c ∷ cs)
key_starts c [] z = refl
key_starts c (b ∷ bs) z = ap (λ t. c.key ∷ t) (key_starts b bs z)

pub edges_once : (r : Ring) → Distinct (map (λ (c : Corner). c.key) r) → Distinct (edges r)
edges_once [] d = tt
edges_once (c ∷ cs) d = distinct_from_map (λ (e : Edge). e.0.key) (steps c cs c) (subst Distinct (sym (key_starts c cs c)) d)

pub some_step : (c : Corner) (cs : List Corner) (z : Corner) → (e : Edge) × In e (steps c cs z)
some_step c [] z = ((c, z), inl refl)
some_step c (b ∷ bs) z = ((c, b), inl refl)

pub edges_length : (r : Ring) → length (edges r) ≡ length r
edges_length [] = refl
edges_length (c ∷ cs) = go c cs c
  where
    go : (a : Corner) (bs : List Corner) (z : Corner) → length (steps a bs z) ≡ suc (length bs)
    go a [] z = refl
    go a (b ∷ bs) z = ap suc (go b bs z)

-- the ends of an edge are corners
starts : (a : Corner) (cs : List Corner) (z : Corner) (e : Edge) → In e (steps a cs z) → In e.0 (a ∷ cs)
starts a [] z e (inl p) = inl (ap (λ (f : Edge). f.0) p)
starts a [] z e (inr n) = absurd n
starts a (b ∷ bs) z e (inl p) = inl (ap (λ (f : Edge). f.0) p)
starts a (b ∷ bs) z e (inr i) = inr (starts b bs z e i)

pub edge_from : (r : Ring) (e : Edge) → In e (edges r) → In e.0 r
edge_from [] e i = i
edge_from (a ∷ cs) e i = starts a cs a e i

ends : (a : Corner) (cs : List Corner) (z : Corner) (e : Edge) → In e (steps a cs z) → In e.1 cs ⊎ (e.1 ≡ z)
ends a [] z e (inl p) = inr (ap (λ (f : Edge). f.1) p)
ends a [] z e (inr n) = absurd n
ends a (b ∷ bs) z e (inl p) = inl (inl (ap (λ (f : Edge). f.1) p))
ends a (b ∷ bs) z e (inr i) = elim (ends b bs z e i) [ inl j ↦ inl (inr j) | inr q ↦ inr q ]

pub edge_to : (r : Ring) (e : Edge) → In e (edges r) → In e.1 r
edge_to [] e i = i
edge_to (a ∷ cs) e i = elim (ends a cs a e i) [ inl j ↦ inr j | inr q ↦ inl q ]

-- ---- faces
pub face_of : (e : Edge) (fs : List Ring) → In e (all_edges fs) → (r : Ring) × In r fs × In e (edges r)
face_of e [] i = absurd i
face_of e (f ∷ fs) i = elim (in_append e (edges f) (all_edges fs) i) [ inl j ↦ (f, inl refl, j) | inr j ↦ (let k = face_of e fs j in (k.0, inr k.1, k.2)) ]

pub in_corners : (c : Corner) (r : Ring) (fs : List Ring) → In r fs → In c r → In c (corners fs)
in_corners c r [] i j = i
in_corners c r (f ∷ fs) (inl p) j = in_left c f (corners fs) (subst (In c) p j)
in_corners c r (f ∷ fs) (inr i) j = in_right c f (corners fs) (in_corners c r fs i j)

-- a corner of some faces is a corner of one of them
pub ring_of_lem : (c : Corner) (fs : List Ring) → In c (corners fs) → (r : Ring) × In r fs × In c r
ring_of_lem c [] i = absurd i
ring_of_lem c (f ∷ fs) i = elim (in_append c f (corners fs) i) [ inl j ↦ (f, inl refl, j) | inr j ↦ (let k = ring_of_lem c fs j in (k.0, inr k.1, k.2)) ]

-- the ends of an edge of some faces are corners of them
pub ends_in_corners : (e : Edge) (fs : List Ring) → In e (all_edges fs) → In e.0 (corners fs) × In e.1 (corners fs)
ends_in_corners e fs i =
    let r = face_of e fs i in
    (in_corners e.0 r.0 fs r.1 (edge_from r.0 e r.2), in_corners e.1 r.0 fs r.1 (edge_to r.0 e r.2))

pub in_all_edges : (e : Edge) (r : Ring) (fs : List Ring) → In r fs → In e (edges r) → In e (all_edges fs)
in_all_edges e r [] i j = i
in_all_edges e r (f ∷ fs) (inl p) j = in_left e (edges f) (all_edges fs) (subst (λ (t : Ring). In e (edges t)) p j)
in_all_edges e r (f ∷ fs) (inr i) j = in_right e (edges f) (all_edges fs) (in_all_edges e r fs i j)

-- faces that have an edge in common are one face
pub same_face : (fs : List Ring) → Distinct (all_edges fs) → (r s : Ring) → In r fs → In s fs → (e : Edge) → In e (edges r) → In e (edges s) → r ≡ s
same_face [] d r s i j e k l = absurd i
same_face (f ∷ fs) d r s (inl p) (inl q) e k l = p ∙ sym q
same_face (f ∷ fs) d r s (inl p) (inr j) e k l = absurd (distinct_apart (edges f) (all_edges fs) d e (subst (λ (t : Ring). In e (edges t)) p k) (in_all_edges e s fs j l))
same_face (f ∷ fs) d r s (inr i) (inl q) e k l = absurd (distinct_apart (edges f) (all_edges fs) d e (subst (λ (t : Ring). In e (edges t)) q l) (in_all_edges e r fs i k))
same_face (f ∷ fs) d r s (inr i) (inr j) e k l = same_face fs (distinct_right (edges f) (all_edges fs) d) r s i j e k l

pub all_edges-append : (fs gs : List Ring) → all_edges (fs ++ gs) ≡ all_edges fs ++ all_edges gs
all_edges-append [] gs = refl
all_edges-append (f ∷ fs) gs = ap (λ t. edges f ++ t) (all_edges-append fs gs) ∙ sym (append_assoc (edges f) (all_edges fs) (all_edges gs))

pub corners-append : (fs gs : List Ring) → corners (fs ++ gs) ≡ corners fs ++ corners gs
corners-append [] gs = refl
corners-append (f ∷ fs) gs = ap (λ t. f ++ t) (corners-append fs gs) ∙ sym (append_assoc f (corners fs) (corners gs))

-- one face more
pub all_edges_more : (fs : List Ring) (r : Ring) → all_edges (fs ++ r ∷ []) ≡ all_edges fs ++ edges r
all_edges_more fs r = all_edges-append fs (r ∷ []) ∙ ap (λ t. all_edges fs ++ t) (append-nil (edges r))

pub corners_more : (fs : List Ring) (r : Ring) → corners (fs ++ r ∷ []) ≡ corners fs ++ r
corners_more fs r = corners-append fs (r ∷ []) ∙ ap (λ t. corners fs ++ t) (append-nil r)
