-- Going round every key in rising order: what is known after some of the edges, and what the first edge that was not come by says.
use Rattle.std.proofs.Common.{◌≡◌, ℕ, suc, ◌+◌, ◌<◌, ◌≤◌, ◌⊎◌, List, length, get_or, Option, None, Some, sym, refl, ap, ◌∙◌, subst, inl, inr, arith, below_more}
use Rattle.std.proofs.lemmas.Bool.{cases_order}
use Rattle.solid.specs.Lists.{In}
use Rattle.solid.specs.Faces.{Corner, Ring, all_edges}
use Rattle.solid.specs.Rules.{Consistent, corners}
use Rattle.solid.specs.Soundness.{Closed, Round, AllRound}
use Rattle.solid.specs.Certifying.{LeastNotRound}
use Rattle.solid.specs.Places.{edge_at, key_at, Onward}
use Rattle.solid.specs.Cycles.{Goes, stay, step, NoStepLeaves, ByKey, GoneRound}
use Rattle.solid.proofs.Members.{in_map, ring_of_lem, ends_in_corners}
use Rattle.solid.proofs.Places.{edge_among}
use Rattle.solid.proofs.Cycles.{onward_one, key_place, round_from, not_round}

goes_key : {fs : List Ring} {p q : ℕ} → Goes fs p q → key_at fs q ≡ key_at fs p
goes_key stay = refl
goes_key (step g o) = ap (λ (c : Corner). c.key) o.same ∙ goes_key g

pub goes_on : {fs : List Ring} {p q r : ℕ} → Goes fs p q → Goes fs q r → Goes fs p r
goes_on g stay = g
goes_on g (step h o) = step (goes_on g h) o

module _ (fs : List Ring) (order : List ℕ) where
  abbrev pub placed : ℕ → ℕ
  placed i = get_or order i 0

  abbrev pub keyed : ℕ → ℕ
  keyed i = key_at fs (placed i)

  -- the first of the edges that begin at its key
  abbrev pub Opens : ℕ → Type 0
  Opens j = (k : ℕ) → k < j → keyed k < keyed j

  -- the key of the last of the first i edges, where there is one
  abbrev pub Latest : ℕ → Option ℕ → Type 0
  Latest i None = i ≡ 0
  Latest i (Some v) = (j : ℕ) × (i ≡ suc j) × (keyed j ≡ v)

  -- the first i edges are come by, from the first edge of each key on
  pub record Rounds (M : ℕ → Type 0) (i : ℕ) (last : Option ℕ) : Type 0 where
    pub met : (j : ℕ) → j < i → M (placed j)
    pub stays : NoStepLeaves fs M
    pub roots : (p : ℕ) → M p → (j : ℕ) × (j < i) × Opens j × Goes fs (placed j) p
    pub latest : Latest i last

  pub rounds_none : (M : ℕ → Type 0) → ((p : ℕ) → M p → ⊥) → Rounds M 0 None
  rounds_none M none = record { met = λ j l. absurd (omega arith); stays = λ p q m o. absurd (none p m); roots = λ p m. absurd (none p m); latest = refl }

  module _ (st : Consistent fs) (by : ByKey fs order) where
    opens_new : (i : ℕ) (last : Option ℕ) → i < length order → Latest i last → (last ≡ Some (keyed i) → ⊥) → Opens i
    opens_new i None l z new k m = absurd (omega (arith, z))
    opens_new i (Some v) l (j, next, at) new k m =
        let up : keyed j ≤ keyed i = by.rising j i (omega (arith, next)) l in
        let low : keyed k ≤ keyed j = elim (cases_order k j) [
          | inl same ↦ omega (arith, ap keyed same)
          | inr (inl a) ↦ by.rising k j a (omega (arith, next))
          | inr (inr b) ↦ absurd (omega (arith, next))
        ] in
        elim (cases_order (keyed j) (keyed i)) [ inl same ↦ absurd (new (ap Some (sym at ∙ same))) | inr (inl a) ↦ omega arith | inr (inr b) ↦ absurd (omega arith) ]

    -- the next edge begins at a new key, and going round from it
    pub rounds_new : (M N : ℕ → Type 0) (i : ℕ) (last : Option ℕ) → i < length order → (last ≡ Some (keyed i) → ⊥) → Rounds M i last → GoneRound fs (placed i) M N → Rounds N (i + 1) (Some (keyed i))
    rounds_new M N i last l new h g = record {
      met = below_more (λ j. N (placed j)) i (λ j m. g.keeps (placed j) (h.met j m)) g.first;
      stays = g.stays;
      roots = λ p n. elim (g.adds p n) [
        | inl m ↦ (let r = h.roots p m in (r.0, omega (arith, r.1), r.2, r.3))
        | inr go ↦ (i, omega arith, opens_new i last l h.latest new, go)
      ];
      latest = (i, omega arith, refl);
    }

    -- the next edge begins at the last key, and was come by
    pub rounds_same : (M : ℕ → Type 0) (i : ℕ) (last : Option ℕ) → last ≡ Some (keyed i) → M (placed i) → Rounds M i last → Rounds M (i + 1) last
    rounds_same M i last e m h = record {
      met = below_more (λ j. M (placed j)) i h.met m;
      stays = h.stays;
      roots = λ p n. (let r = h.roots p n in (r.0, omega (arith, r.1), r.2, r.3));
      latest = subst (Latest (i + 1)) (sym e) (i, omega arith, refl);
    }

    module _ (M : ℕ → Type 0) (i : ℕ) (last : Option ℕ) (few : i ≤ length order) (h : Rounds M i last) where
      -- where all edges out of a key are come by, its faces form one cycle
      whole : (p : ℕ) → p < length (all_edges fs) → ((q : ℕ) → q < length (all_edges fs) → key_at fs q ≡ key_at fs p → M q) → Round fs (key_at fs p)
      whole p l all =
          let r = h.roots p (all p l refl) in
          let same = goes_key r.3 in
          subst (Round fs) (sym same) (round_from fs st (placed r.0) (by.within r.0 (omega (arith, r.1))) (λ q m e. (
          let t = h.roots q (all q m (e ∙ sym same)) in
          subst (λ j. Goes fs (placed j) q) (one t.0 r.0 t.2 r.2 (sym (goes_key t.3) ∙ e)) t.3
          )))
        where
          one : (j k : ℕ) → Opens j → Opens k → keyed j ≡ keyed k → j ≡ k
          one j k a b e = elim (cases_order j k) [ inl s ↦ s | inr (inl l) ↦ absurd (omega (arith, b j l, e)) | inr (inr l) ↦ absurd (omega (arith, a k l, e)) ]

      -- so do those of a corner whose edges are all among the first i
      round_met : (c : Corner) → In c (corners fs) → ((k : ℕ) → k < length order → keyed k ≡ c.key → k < i) → Round fs c.key
      round_met c j before =
          let s = ring_of_lem c fs j in
          let p = key_place fs st c.key s.0 s.1 (c, refl, s.2) in
          subst (Round fs) p.3 (whole p.0 p.1 (λ q l e. (
          let k = by.every q l in
          subst M k.2 (h.met k.0 (before k.0 k.1 (ap (key_at fs) k.2 ∙ e ∙ p.3)))
          )))

      -- after the last edge every key is gone round
      pub rounds_all : length order ≤ i → AllRound fs
      rounds_all l c j = round_met c j (λ k m e. omega arith)

      -- an edge at the last key that was not come by: its key is the least that fails
      pub rounds_fail : Closed fs → i < length order → last ≡ Some (keyed i) → (M (placed i) → ⊥) → LeastNotRound fs (keyed i)
      rounds_fail closed l e out = record {
        some = in_map (λ (c : Corner). c.key) (edge_at fs (placed i)).0 (corners fs) (ends_in_corners (edge_at fs (placed i)) fs (edge_among fs (placed i) (by.within i l))).0;
        fails = λ round. (
            let (j, next, same) = subst (Latest i) e h.latest in
            not_round fs st M h.stays closed (placed j) (placed i) (by.within j (omega (arith, next))) (by.within i l) (sym same) (h.met j (omega (arith, next))) out (subst (Round fs) (sym same) round)
            );
        least = λ c j less. round_met c j (λ k m same. elim (cases_order k i) [
          | inl k-is ↦ absurd (omega (arith, ap keyed k-is, same, less))
          | inr (inl before) ↦ before
          | inr (inr after) ↦ absurd (omega (arith, by.rising i k after m, same, less))
        ]);
      }

-- ---- going round from one place, until a place that was come by
module _ (fs : List Ring) (st : Consistent fs) (start : ℕ) where
  -- the set M has become N, and the next place is `at`
  pub record Going (M N : ℕ → Type 0) (at : ℕ) : Type 0 where
    pub keeps : (p : ℕ) → M p → N p
    pub adds : (p : ℕ) → N p → M p ⊎ Goes fs start p
    pub to : Goes fs start at
    pub nearly : (p q : ℕ) → N p → Onward fs p q → N q ⊎ (q ≡ at)
    pub first : N start ⊎ (at ≡ start)

  pub going_none : (M : ℕ → Type 0) → NoStepLeaves fs M → Going M M start
  going_none M stays = record { keeps = λ p m. m; adds = λ p m. inl m; to = stay; nearly = λ p q m o. inl (stays p q m o); first = inr refl }

  pub going_more : (M N O : ℕ → Type 0) (at next : ℕ) → Onward fs at next → ((p : ℕ) → N p → O p) → O at → ((p : ℕ) → O p → (p ≡ at) ⊎ N p) → Going M N at → Going M O next
  going_more M N O at next onward more here only h = record {
    keeps = λ p m. more p (h.keeps p m);
    adds = λ p o. elim (only p o) [ inl e ↦ inr (subst (Goes fs start) (sym e) h.to) | inr n ↦ h.adds p n ];
    to = step h.to onward;
    nearly = λ p q o k. elim (only p o) [
      | inl e ↦ inr (onward_one fs st at q next (subst (λ t. Onward fs t q) e k) onward)
      | inr n ↦ elim (h.nearly p q n k) [ inl m ↦ inl (more q m) | inr e ↦ inl (subst O (sym e) here) ]
    ];
    first = elim h.first [ inl m ↦ inl (more start m) | inr e ↦ inl (subst O e here) ];
  }

  pub going_done : (M N : ℕ → Type 0) (at : ℕ) → N at → Going M N at → GoneRound fs start M N
  going_done M N at n h = record {
    keeps = h.keeps;
    adds = h.adds;
    first = elim h.first [ inl m ↦ m | inr e ↦ subst N e n ];
    stays = λ p q m o. elim (h.nearly p q m o) [ inl k ↦ k | inr e ↦ subst N (sym e) n ];
  }
