-- Reaching faces over shared edges, by the numbers of faces: a set of faces that no edge leaves has every face that one of them reaches.
use Rattle.std.proofs.Common.{◌≡◌, ℕ, ◌<◌, ◌≤◌, ◌⊎◌, ◌↔◌, List, [], ◌∷◌, ◌++◌, length, sym, refl, ◌∙◌, subst, inl, inr, arith}
use Rattle.solid.specs.Lists.{In}
use Rattle.solid.specs.Faces.{Ring, Edge, flip, edges, all_edges}
use Rattle.solid.specs.Rules.{Consistent}
use Rattle.solid.specs.Soundness.{Walk, here, next, Touch, FromFirst}
use Rattle.solid.specs.Places.{no_edge, edge_at, face_at, Home, Across}
use Rattle.solid.proofs.Members.{in_append, in_at, at_in, some_step}
use Rattle.solid.proofs.Places.{place_one, home_one, home_within, home_in, inner_place}

from_first_all : (fs : List Ring) → ((g : ℕ) → g < length fs → Walk Touch fs (face_at fs 0) (face_at fs g)) → FromFirst fs
from_first_all [] h = tt
from_first_all (r ∷ rs) h = λ s i. let k = at_in (r ∷ rs) [] s i in subst (Walk Touch (r ∷ rs) r) (sym k.2) (h k.0 k.1)

module _ (fs : List Ring) (st : Consistent fs) where
  -- an edge is in one face, by number
  edge_home : (e : Edge) (f g : ℕ) → f < length fs → g < length fs → In e (edges (face_at fs f)) → In e (edges (face_at fs g)) → f ≡ g
  edge_home e f g l m i j =
      let p = inner_place fs f l e i in
      let q = inner_place fs g m e j in
      let same = place_one (all_edges fs) no_edge st.once p.0 q.0 (home_within fs p.0 f p.1) (home_within fs q.0 g q.1) (sym p.2 ∙ q.2) in
      home_one fs q.0 f g (subst (λ t. Home fs t f) same p.1) q.1

  -- so the edge at a place has one face across it
  pub across_one : (p f g : ℕ) → Across fs p f → Across fs p g → f ≡ g
  across_one p f g a b = edge_home (flip (edge_at fs p)) f g a.face b.face a.reverse b.reverse

  some_edge : (r : Ring) → 3 ≤ length r → (e : Edge) × In e (edges r)
  some_edge [] h = absurd (omega arith)
  some_edge (c ∷ cs) h = some_step c cs c

  face_one : (f g : ℕ) → f < length fs → g < length fs → face_at fs f ≡ face_at fs g → f ≡ g
  face_one f g l m same =
      let e = some_edge (face_at fs f) (st.proper (face_at fs f) (in_at fs [] f l)).tidy.sized.0 in
      edge_home e.0 f g l m e.1 (subst (λ (r : Ring). In e.0 (edges r)) same e.1)

  -- no edge leaves a set of faces
  abbrev pub NoEdgeLeaves : (ℕ → Type 0) → Type 0
  NoEdgeLeaves M = (f p g : ℕ) → M f → Home fs p f → Across fs p g → M g

  module _ (M : ℕ → Type 0) (some : 0 < length fs) (first : M 0) (stays : NoEdgeLeaves M) where
    walk_in : {t : Ring} → Walk Touch fs (face_at fs 0) t → In t fs
    walk_in here = in_at fs [] 0 some
    walk_in (next w i touch) = i

    walk_reached : {t : Ring} → Walk Touch fs (face_at fs 0) t → (g : ℕ) → g < length fs → face_at fs g ≡ t → M g
    walk_reached here g l e = subst M (face_one 0 g some l (sym e)) first
    walk_reached (next {s = s} w i touch) g l e =
        let k = at_in fs [] s (walk_in w) in
        let m = walk_reached w k.0 k.1 (sym k.2) in
        let p = inner_place fs k.0 k.1 touch.0 (subst (λ (r : Ring). In touch.0 (edges r)) k.2 touch.1) in
        stays k.0 p.0 g m p.1 (record { face = l; reverse = subst (λ (d : Edge). In (flip d) (edges (face_at fs g))) p.2 (subst (λ (r : Ring). In (flip touch.0) (edges r)) (sym e) touch.2) })

  from_first_reached : (M : ℕ → Type 0) → 0 < length fs → M 0 → NoEdgeLeaves M → FromFirst fs → (g : ℕ) → g < length fs → M g
  from_first_reached M some first stays from g l = walk_reached M some first stays (walked fs from g l) g l refl
    where
      walked : (gs : List Ring) → FromFirst gs → (g : ℕ) → g < length gs → Walk Touch gs (face_at gs 0) (face_at gs g)
      walked [] from g l = absurd (omega arith)
      walked (r ∷ rs) from g l = from (face_at (r ∷ rs) g) (in_at (r ∷ rs) [] g l)

  -- a face across an edge of one that the first reaches
  walk_across : (f p g : ℕ) → Walk Touch fs (face_at fs 0) (face_at fs f) → Home fs p f → Across fs p g → Walk Touch fs (face_at fs 0) (face_at fs g)
  walk_across f p g w h a = next w (in_at fs [] g a.face) (edge_at fs p, home_in fs p f h, a.reverse)

  -- the faces in a set are reached from the first, and an edge leaves it only from a face that waits
  pub record Reaching (M : ℕ → Type 0) (waiting : List ℕ) : Type 0 where
    pub first : M 0
    pub walk : (g : ℕ) → M g → (g < length fs) × Walk Touch fs (face_at fs 0) (face_at fs g)
    pub through : (f : ℕ) → M f → In f waiting ⊎ ((p g : ℕ) → Home fs p f → Across fs p g → M g)

  pub reaching_none : (M : ℕ → Type 0) (waiting : List ℕ) → 0 < length fs → M 0 → ((g : ℕ) → M g → (g ≡ 0) × In g waiting) → Reaching M waiting
  reaching_none M waiting some first only = record {
    first = first;
    walk = λ g m. (subst (λ n. n < length fs) (sym (only g m).0) some, subst (λ n. Walk Touch fs (face_at fs 0) (face_at fs n)) (sym (only g m).0) here);
    through = λ f m. inl (only f m).1;
  }

  -- a face waits no more: all across its edges are in the set, and those that are new there wait
  pub reaching_more : (M N : ℕ → Type 0) (waiting longer : List ℕ) (face : ℕ) → Reaching M (waiting ++ face ∷ []) → M face → ((g : ℕ) → M g → N g) → ((g : ℕ) → In g waiting → In g longer) → ((p g : ℕ) → Home fs p face → Across fs p g → N g) → ((g : ℕ) → N g → M g ⊎ (In g longer × ((p : ℕ) × Home fs p face × Across fs p g))) → Reaching N longer
  reaching_more M N waiting longer face h m keeps stays all only = record {
    first = keeps 0 h.first;
    walk = λ g n. elim (only g n) [
      | inl old ↦ h.walk g old
      | inr new ↦ (new.1.2.face, walk_across face new.1.0 g (h.walk face m).1 new.1.1 new.1.2)
    ];
    through = λ f n. elim (only f n) [
      | inl old ↦ elim (h.through f old) [
        | inl waits ↦ elim (in_append f waiting (face ∷ []) waits) [
          | inl a ↦ inl (stays f a)
          | inr b ↦ inr (λ p g home across. all p g (subst (Home fs p) (in_one f face b) home) across)
        ]
        | inr gone ↦ inr (λ p g home across. keeps g (gone p g home across))
      ]
      | inr new ↦ inl new.0
    ];
  }
    where
      in_one : (x y : ℕ) → In x (y ∷ []) → x ≡ y
      in_one x y (inl e) = e
      in_one x y (inr none) = absurd none

  -- no face waits: the first face reaches every face exactly where the set has all
  pub reaching_all : (M : ℕ → Type 0) → 0 < length fs → Reaching M [] → FromFirst fs ↔ ((g : ℕ) → g < length fs → M g)
  reaching_all M some h = (
    λ from g l. from_first_reached M some h.first (λ f p g m home across. elim (h.through f m) [ inl none ↦ absurd none | inr gone ↦ gone p g home across ]) from g l,
    λ all. from_first_all fs (λ g l. (h.walk g (all g l)).1),
  )
