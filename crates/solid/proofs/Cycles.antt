-- The faces round a key form one cycle exactly where the steps from one edge out of the key reach every edge out of it.
use Rattle.std.proofs.Common.{◌≡◌, ℕ, ◌<◌, List, [], ◌∷◌, length, sym, refl, ap, ◌∙◌, subst, inl, inr}
use Rattle.solid.specs.Lists.{In}
use Rattle.solid.specs.Faces.{Corner, Ring, Edge, flip, steps, edges, all_edges}
use Rattle.solid.specs.Rules.{Consistent}
use Rattle.solid.specs.Soundness.{Closed, Walk, here, next, Step, HasKey, Round}
use Rattle.solid.specs.Places.{no_edge, edge_at, key_at, Onward}
use Rattle.solid.specs.Cycles.{Goes, stay, step, NoStepLeaves}
use Rattle.solid.proofs.Members.{in_all_edges, face_of, same_face, edge_from, edge_to}
use Rattle.solid.proofs.Rounds.{one_out, any_round}
use Rattle.solid.proofs.Places.{place_one, place_of, edge_among}

-- each corner begins an edge
starting : (a : Corner) (cs : List Corner) (z : Corner) (c : Corner) → In c (a ∷ cs) → (e : Edge) × In e (steps a cs z) × (e.0 ≡ c)
starting a [] z c (inl e) = ((a, z), inl refl, sym e)
starting a [] z c (inr i) = absurd i
starting a (b ∷ bs) z c (inl e) = ((a, b), inl refl, sym e)
starting a (b ∷ bs) z c (inr i) = let k = starting b bs z c i in (k.0, inr k.1, k.2)

pub edge_out : (r : Ring) (c : Corner) → In c r → (e : Edge) × In e (edges r) × (e.0 ≡ c)
edge_out [] c i = absurd i
edge_out (a ∷ cs) c i = starting a cs a c i

module _ (fs : List Ring) (st : Consistent fs) where
  -- the edge at p is one of the face s
  abbrev pub Of : ℕ → Ring → Type 0
  Of p s = In s fs × In (edge_at fs p) (edges s)

  pub owner : (p : ℕ) → p < length (all_edges fs) → (s : Ring) × Of p s
  owner p l = let k = face_of (edge_at fs p) fs (edge_among fs p l) in (k.0, (k.1, k.2))

  -- edges of one face that begin at one key have one place
  pub out_place : (p q : ℕ) → p < length (all_edges fs) → q < length (all_edges fs) → (s : Ring) → Of p s → Of q s → key_at fs p ≡ key_at fs q → p ≡ q
  out_place p q l m s i j e = place_one (all_edges fs) no_edge st.once p q l m (one_out s (st.proper s i.0).tidy.keys (edge_at fs p) (edge_at fs q) i.1 j.1 e)

  -- a step goes to one place
  pub onward_one : (p q r : ℕ) → Onward fs p q → Onward fs p r → q ≡ r
  onward_one p q r a b =
      let same = same_face fs st.once a.face b.face a.among b.among (flip (edge_at fs p)) a.reverse b.reverse in
      out_place q r a.within b.within a.face (a.among, a.out) (a.among, subst (λ (s : Ring). In (edge_at fs r) (edges s)) (sym same) b.out)
      (ap (λ (c : Corner). c.key) (a.same ∙ sym b.same))

  -- steps by places are steps from face to face
  pub goes_walk : (p : ℕ) (s : Ring) → Of p s → {q : ℕ} → Goes fs p q → (t : Ring) × Of q t × Walk (Step (key_at fs p)) fs s t × (key_at fs q ≡ key_at fs p)
  goes_walk p s i stay = (s, i, here, refl)
  goes_walk p s i (step {q = q} {r = r} g o) =
      let k = goes_walk p s i g in
      (o.face, (o.among, o.out), next k.2 o.among (edge_at fs q, k.3, k.1.1, o.reverse), ap (λ (c : Corner). c.key) o.same ∙ k.3)

  -- a face with a key has a place from which an edge leaves it
  pub key_place : (v : ℕ) (s : Ring) → In s fs → HasKey v s → (p : ℕ) × (p < length (all_edges fs)) × Of p s × (key_at fs p ≡ v)
  key_place v s i h =
      let e = edge_out s h.0 h.2 in
      let p = place_of fs e.0 (in_all_edges e.0 s fs i e.1) in
      (p.0, p.1, (i, subst (λ (f : Edge). In f (edges s)) p.2 e.1), ap (λ (f : Edge). f.0.key) (sym p.2) ∙ ap (λ (c : Corner). c.key) e.2 ∙ h.1)

  place_key : (p : ℕ) (s : Ring) → Of p s → HasKey (key_at fs p) s
  place_key p s i = ((edge_at fs p).0, refl, edge_from s (edge_at fs p) i.1)

  -- where from one edge steps reach every edge out of its key, the faces round the key form one cycle
  pub round_from : (p : ℕ) → p < length (all_edges fs) → ((q : ℕ) → q < length (all_edges fs) → key_at fs q ≡ key_at fs p → Goes fs p q) → Round fs (key_at fs p)
  round_from p l all =
      let o = owner p l in (
        o.0,
        o.1.0,
        place_key p o.0 o.1,
        λ s i h. (
            let k = key_place (key_at fs p) s i h in
            let w = goes_walk p o.0 o.1 (all k.0 k.1 k.3) in
            subst (Walk (Step (key_at fs p)) fs o.0) (same_face fs st.once w.0 s w.1.0 i (edge_at fs k.0) w.1.1 k.2.1) w.2
            ),
      )

  module _ (M : ℕ → Type 0) (stays : NoStepLeaves fs M) where
    -- a walk round a key, from a face whose edge out of it is in a set that no step leaves, ends at such a face
    walk_held : (p : ℕ) → p < length (all_edges fs) → M p → (s : Ring) → Of p s → {t : Ring} → Walk (Step (key_at fs p)) fs s t → (q : ℕ) × M q × (q < length (all_edges fs)) × Of q t × (key_at fs q ≡ key_at fs p)
    walk_held p l m s i here = (p, m, l, i, refl)
    walk_held p l m s i (next {s = u} {t = t} w j k) =
        let h = walk_held p l m s i w in
        let q = h.0 in
        let same : k.0 ≡ edge_at fs q = one_out u (st.proper u h.3.0).tidy.keys k.0 (edge_at fs q) k.2 h.3.1 (k.1 ∙ sym h.4) in
        let f = edge_out t k.0.0 (edge_to t (flip k.0) k.3) in
        let r = place_of fs f.0 (in_all_edges f.0 t fs j f.1) in
        let start : (edge_at fs r.0).0 ≡ (edge_at fs q).0 = ap (λ (e : Edge). e.0) (sym r.2) ∙ f.2 ∙ ap (λ (e : Edge). e.0) same in
        let out : In (edge_at fs r.0) (edges t) = subst (λ (e : Edge). In e (edges t)) r.2 f.1 in
        let onward : Onward fs q r.0 = record { within = r.1; same = start; face = t; among = j; reverse = subst (λ (e : Edge). In (flip e) (edges t)) same k.3; out = out } in
        (r.0, stays q r.0 h.1 onward, r.1, (j, out), ap (λ (c : Corner). c.key) start ∙ h.4)

    -- where such a set has one edge out of a key and not another, the faces round the key do not form one cycle
    pub not_round : Closed fs → (p q : ℕ) → p < length (all_edges fs) → q < length (all_edges fs) → key_at fs q ≡ key_at fs p → M p → (M q → ⊥) → Round fs (key_at fs p) → ⊥
    not_round closed p q l m e has out round =
        let s = owner p l in
        let t = owner q m in
        let w = any_round fs st closed (key_at fs p) round s.0 t.0 s.1.0 t.1.0 (place_key p s.0 s.1) (subst (λ v. HasKey v t.0) e (place_key q t.0 t.1)) in
        let h = walk_held p l has s.0 s.1 w in
        out (subst M (out_place h.0 q h.2 m t.0 h.3 t.1 (h.4 ∙ sym e)) h.1)
