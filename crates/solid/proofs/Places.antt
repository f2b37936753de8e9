-- Edges by their places, and the faces that have them.
use Rattle.std.proofs.Common.{◌≡◌, ℕ, zero, suc, ◌+◌, ◌-◌, ◌<◌, ◌≤◌, List, [], ◌∷◌, length, get_or, sym, ap, ◌∙◌, subst, inl, inr, arith, length-append}
use Rattle.std.proofs.lemmas.List.{get_or_append_left, get_or-append_right}
use Rattle.std.proofs.lemmas.Bool.{cases_order}
use Rattle.solid.specs.Lists.{In, Distinct}
use Rattle.solid.specs.Faces.{Ring, Edge, edges, all_edges}
use Rattle.solid.specs.Places.{no_edge, edge_at, face_at, first_place, Home, Twin, Follows, Onward}
use Rattle.solid.proofs.Members.{in_at, at_in, edges_length}

-- ---- elements that do not repeat
distinct_at : {X : Type 0} (xs : List X) (d : X) → Distinct xs → (i j : ℕ) → i < j → j < length xs → get_or xs i d ≡ get_or xs j d → ⊥
distinct_at [] d h i j l m e = omega arith
distinct_at (x ∷ xs) d h i zero l m e = omega arith
distinct_at (x ∷ xs) d h zero (suc j) l m e = h.0 (subst (λ y. In y xs) (sym e) (in_at xs d j (omega arith)))
distinct_at (x ∷ xs) d h (suc i) (suc j) l m e = distinct_at xs d h.1 i j (omega arith) (omega arith) e

pub place_one : {X : Type 0} (xs : List X) (d : X) → Distinct xs → (i j : ℕ) → i < length xs → j < length xs → get_or xs i d ≡ get_or xs j d → i ≡ j
place_one xs d h i j l m e = elim (cases_order i j) [
  | inl same ↦ same
  | inr (inl a) ↦ absurd (distinct_at xs d h i j a m e)
  | inr (inr b) ↦ absurd (distinct_at xs d h j i b l (sym e))
]

-- ---- places
pub place_of : (fs : List Ring) (e : Edge) → In e (all_edges fs) → (p : ℕ) × (p < length (all_edges fs)) × (e ≡ edge_at fs p)
place_of fs e i = at_in (all_edges fs) no_edge e i

pub edge_among : (fs : List Ring) (p : ℕ) → p < length (all_edges fs) → In (edge_at fs p) (all_edges fs)
edge_among fs p l = in_at (all_edges fs) no_edge p l

pub next_first : (fs : List Ring) (f : ℕ) → f < length fs → first_place fs (suc f) ≡ first_place fs f + length (face_at fs f)
next_first [] f l = absurd (omega arith)
next_first (r ∷ rs) zero l = omega arith
next_first (r ∷ rs) (suc f) l = let h = next_first rs f (omega arith) in omega arith

all_length : (r : Ring) (rs : List Ring) → length (all_edges (r ∷ rs)) ≡ length r + length (all_edges rs)
all_length r rs = omega (arith, length-append (edges r) (all_edges rs), edges_length r)

pub first_within : (fs : List Ring) (f : ℕ) → f < length fs → first_place fs (suc f) ≤ length (all_edges fs)
first_within [] f l = absurd (omega arith)
first_within (r ∷ rs) zero l = omega (arith, all_length r rs)
first_within (r ∷ rs) (suc f) l = let h = first_within rs f (omega arith) in omega (arith, all_length r rs)

-- the edge at the place i of face f
pub face_edge : (fs : List Ring) (f i : ℕ) → f < length fs → i < length (face_at fs f) → edge_at fs (first_place fs f + i) ≡ get_or (edges (face_at fs f)) i no_edge
face_edge [] f i l m = absurd (omega arith)
face_edge (r ∷ rs) zero i l m =
    let z : 0 + i ≡ i = omega arith in
    ap (edge_at (r ∷ rs)) z ∙ get_or_append_left (edges r) (all_edges rs) no_edge i (omega (arith, edges_length r))
face_edge (r ∷ rs) (suc f) i l m =
    let z : length r + first_place rs f + i - length r ≡ first_place rs f + i = omega arith in
    get_or-append_right (edges r) (all_edges rs) (length r) (length r + first_place rs f + i) no_edge (edges_length r) (omega arith)
    ∙ ap (edge_at rs) z ∙ face_edge rs f i (omega arith) m

module _ (fs : List Ring) (p f : ℕ) (h : Home fs p f) where
  pub home_within : p < length (all_edges fs)
  home_within = omega (arith, h.below, first_within fs f h.face)

  -- the place within the ring
  pub home_inner : p - first_place fs f < length (face_at fs f)
  home_inner = omega (arith, h.from, h.below, next_first fs f h.face)

  pub home_edge : edge_at fs p ≡ get_or (edges (face_at fs f)) (p - first_place fs f) no_edge
  home_edge =
      let z : first_place fs f + (p - first_place fs f) ≡ p = omega (arith, h.from) in
      sym (ap (edge_at fs) z) ∙ face_edge fs f (p - first_place fs f) h.face home_inner

  pub home_in : In (edge_at fs p) (edges (face_at fs f))
  home_in = subst (λ (e : Edge). In e (edges (face_at fs f))) (sym home_edge) (in_at (edges (face_at fs f)) no_edge (p - first_place fs f) (omega (arith, home_inner, edges_length (face_at fs f))))

  pub home_among : In (face_at fs f) fs
  home_among = in_at fs [] f h.face

-- each edge of face f has its place there
pub inner_place : (fs : List Ring) (f : ℕ) → f < length fs → (e : Edge) → In e (edges (face_at fs f)) → (p : ℕ) × Home fs p f × (e ≡ edge_at fs p)
inner_place fs f l e i =
    let t = at_in (edges (face_at fs f)) no_edge e i in
    let m : t.0 < length (face_at fs f) = omega (arith, t.1, edges_length (face_at fs f)) in
    (first_place fs f + t.0, record { face = l; from = omega arith; below = omega (arith, m, next_first fs f l) }, t.2 ∙ sym (face_edge fs f t.0 l m))

-- a place has one home
rising : (fs : List Ring) (f g : ℕ) → f < g → g ≤ length fs → first_place fs (suc f) ≤ first_place fs g
rising fs f zero l m = absurd (omega arith)
rising fs f (suc g) l m = elim (cases_order f g) [
  | inl e ↦ subst (λ k. first_place fs (suc f) ≤ first_place fs (suc k)) e (omega arith)
  | inr (inl a) ↦ (let h = rising fs f g a (omega arith) in omega (arith, h, next_first fs g (omega arith)))
  | inr (inr b) ↦ absurd (omega arith)
]

pub home_one : (fs : List Ring) (p f g : ℕ) → Home fs p f → Home fs p g → f ≡ g
home_one fs p f g h k = elim (cases_order f g) [
  | inl e ↦ e
  | inr (inl a) ↦ (let r = rising fs f g a (omega (arith, k.face)) in absurd (omega (arith, r, h.below, k.from)))
  | inr (inr b) ↦ (let r = rising fs g f b (omega (arith, h.face)) in absurd (omega (arith, r, k.below, h.from)))
]

-- round the start of an edge: across to its reverse, and on along that ring
pub onward_from : (fs : List Ring) (p r q : ℕ) → Twin fs p r → Follows fs r q → Onward fs p q
onward_from fs p r q twin follows = record {
  within = follows.within;
  same = follows.joined ∙ ap (λ (e : Edge). e.1) twin.reverse;
  face = face_at fs follows.face;
  among = home_among fs r follows.face follows.here;
  reverse = subst (λ (e : Edge). In e (edges (face_at fs follows.face))) twin.reverse (home_in fs r follows.face follows.here);
  out = home_in fs q follows.face follows.there;
}
