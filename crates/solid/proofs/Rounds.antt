-- Round a key the steps form one cycle: where one face's steps visit all faces with the key, each face's do.
use Rattle.std.proofs.Common.{◌≡◌, ℕ, ◌⊎◌, List, [], ◌∷◌, map, sym, refl, ap, ◌∙◌, subst, inl, inr}
use Rattle.solid.specs.Lists.{In, Distinct}
use Rattle.solid.specs.Faces.{Corner, Ring, Edge, flip, steps, edges, all_edges}
use Rattle.solid.specs.Rules.{Consistent}
use Rattle.solid.specs.Soundness.{Closed, Walk, here, next, Step, HasKey, Round}
use Rattle.solid.proofs.Members.{in_map, in_all_edges, same_face, key_starts, edge_from, face_of, ends_in_corners}
use Rattle.solid.proofs.Walks.{walk_join}

-- ---- edges at a corner
-- two edges that begin at one key are one
same_start : (es : List Edge) → Distinct (map (λ (e : Edge). e.0.key) es) → (e f : Edge) → In e es → In f es → e.0.key ≡ f.0.key → e ≡ f
same_start [] d e f i j k = absurd i
same_start (g ∷ es) d e f (inl p) (inl q) k = p ∙ sym q
same_start (g ∷ es) d e f (inl p) (inr j) k =
    absurd (d.0 (subst (λ t. In t (map (λ (h : Edge). h.0.key) es)) (sym k ∙ ap (λ (h : Edge). h.0.key) p) (in_map (λ (h : Edge). h.0.key) f es j)))
same_start (g ∷ es) d e f (inr i) (inl q) k =
    absurd (d.0 (subst (λ t. In t (map (λ (h : Edge). h.0.key) es)) (k ∙ ap (λ (h : Edge). h.0.key) q) (in_map (λ (h : Edge). h.0.key) e es i)))
same_start (g ∷ es) d e f (inr i) (inr j) k = same_start es d.1 e f i j k

pub one_out : (r : Ring) → Distinct (map (λ (c : Corner). c.key) r) → (e f : Edge) → In e (edges r) → In f (edges r) → e.0.key ≡ f.0.key → e ≡ f
one_out [] d e f i j k = absurd i
one_out (c ∷ cs) d e f i j k = same_start (steps c cs c) (subst Distinct (sym (key_starts c cs c)) d) e f i j k

-- each corner after the first, and the last, ends an edge
ending : (a : Corner) (cs : List Corner) (z : Corner) (c : Corner) → In c cs ⊎ (c ≡ z) → (e : Edge) × In e (steps a cs z) × (e.1 ≡ c)
ending a [] z c (inl i) = absurd i
ending a [] z c (inr e) = ((a, z), inl refl, sym e)
ending a (b ∷ bs) z c (inl (inl e)) = ((a, b), inl refl, sym e)
ending a (b ∷ bs) z c (inl (inr i)) = let k = ending b bs z c (inl i) in (k.0, inr k.1, k.2)
ending a (b ∷ bs) z c (inr e) = let k = ending b bs z c (inr e) in (k.0, inr k.1, k.2)

pub edge_into : (r : Ring) (c : Corner) → In c r → (e : Edge) × In e (edges r) × (e.1 ≡ c)
edge_into [] c i = absurd i
edge_into (a ∷ cs) c (inl e) = ending a cs a c (inr e)
edge_into (a ∷ cs) c (inr i) = ending a cs a c (inl i)

-- ---- steps
module _ (fs : List Ring) (st : Consistent fs) (closed : Closed fs) (v : ℕ) where
  -- a face has one next
  pub one_next : (r s t : Ring) → In r fs → In s fs → In t fs → Step v r s → Step v r t → s ≡ t
  one_next r s t i j k p q =
      let same : p.0 ≡ q.0 = one_out r (st.proper r i).tidy.keys p.0 q.0 p.2 q.2 (p.1 ∙ sym q.1) in
      same_face fs st.once s t j k (flip q.0) (subst (λ (e : Edge). In (flip e) (edges s)) same p.3) q.3

  -- and one before it
  before : (r : Ring) → In r fs → HasKey v r → (p : Ring) × In p fs × HasKey v p × Step v p r
  before r i h =
      let e = edge_into r h.0 h.2 in
      let o = face_of (flip e.0) fs (closed e.0 (in_all_edges e.0 r fs i e.1)) in
      let at : e.0.1.key ≡ v = ap (λ (c : Corner). c.key) e.2 ∙ h.1 in
      (o.0, o.1, (e.0.1, at, edge_from o.0 (flip e.0) o.2), (flip e.0, at, o.2, e.1))

  -- a walk of at least one step, by its first
  Onward : Ring → Ring → Type 0
  Onward r s = (t : Ring) × In t fs × Step v r t × Walk (Step v) fs t s

  onward : {r s : Ring} (t : Ring) → Walk (Step v) fs r s → In t fs → Step v s t → Onward r t
  unfolding Onward
  onward t here i step = (t, i, step, here)
  onward t (next {s = s} {t = u} w j k) i step = let o = onward u w j k in (o.0, o.1, o.2, next o.3 i step)

  module _ (r : Ring) (i : In r fs) (again : Onward r r) where
    -- from each face on the way round, the way goes on to r
    home : {s : Ring} → Walk (Step v) fs r s → In s fs × Onward s r
    unfolding Onward
    home here = (i, again)
    home (next {s = s} {t = t} w j step) =
        let h = home w in
        let o = h.1 in
        let rest : Walk (Step v) fs t r = subst (λ (u : Ring). Walk (Step v) fs u r) (one_next s o.0 t h.0 o.1 j o.2 step) o.3 in
        (j, first rest)
      where
        first : {t : Ring} → Walk (Step v) fs t r → Onward t r
        first here = again
        first (next {s = s} w j step) = onward r w j step

-- among closed faces, where the steps round v visit all faces with v from one of them, they do so from each
pub any_round : (fs : List Ring) → Consistent fs → Closed fs → (v : ℕ) → Round fs v → (r s : Ring) → In r fs → In s fs → HasKey v r → HasKey v s → Walk (Step v) fs r s
unfolding Onward
any_round fs st closed v o s t i j hs ht =
    let r = o.0 in
    let p = before fs st closed v r o.1 o.2 in
    let round = onward fs st closed v r (o.3 p.0 p.1 p.2) o.1 p.3 in
    let back = (home fs st closed v r o.1 round (o.3 s i hs)).1 in
    walk_join (Step v) fs (walk_join (Step v) fs (next here back.1 back.2) back.3) (o.3 t j ht)

-- ---- edges by their keys
-- in consistent faces, two edges with the same keys are one
pub keys_tell : (fs : List Ring) → Consistent fs → (e f : Edge) → In e (all_edges fs) → In f (all_edges fs) → e.0.key ≡ f.0.key → e.1.key ≡ f.1.key → e ≡ f
keys_tell fs st e f i j k l =
    let c = ends_in_corners e fs i in
    let d = ends_in_corners f fs j in
    let p = (st.agree e.0 f.0 c.0 d.0).0 k in
    let q = (st.agree e.1 f.1 c.1 d.1).0 l in
    λ t. (record { key = k t; position = p t }, record { key = l t; position = q t })
