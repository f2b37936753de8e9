-- The edges of faces by their places, as the flat memory and the table of edges have them.
use Rattle.std.proofs.Common.{◌≡◌, ℕ, suc, ◌+◌, ◌-◌, ◌<◌, ◌≤◌, Bool, true, false, cond, List, [], ◌∷◌, ◌++◌, map, length, get_or, is_some, Some, None, Option, sym, refl, ap, ◌∙◌, subst, inl, inr, true≢false, arith, MatchOption}
use mathlib.Core.List.{map-append}
use Rattle.std.proofs.lemmas.List.{length-map, get_or-map}
use Rattle.std.specs.Ordering.{eq_by_cmp}
use Rattle.std.specs.FinMap.{FinMap, find, get, entries, len, len-entries, values}
use Rattle.faces.specs.Held.{stored_corners, stored_rings, rings}
use Rattle.faces.specs.declared.held.Faces.{Faces}
use Rattle.faces.proofs.Pushes.{corners_held}
use Rattle.solid.specs.Corners.{corner_of, ring_of}
use Rattle.solid.specs.Cycles.{ByKey}
use Rattle.solid.specs.Faces.{Corner, Ring, Edge, flip, steps, edges, all_edges, same_edge}
use Rattle.solid.specs.Lists.{In, Distinct, kinds}
use Rattle.solid.specs.Places.{no_edge, edge_at, face_at, first_place, Home, Twin, Follows}
use Rattle.solid.specs.Rules.{corners, Consistent}
use Rattle.solid.proofs.Cancel.{has_from_in, has_not}
use Rattle.solid.proofs.Members.{ends_in_corners}
use Rattle.solid.proofs.Places.{place_one, edge_among, next_first, face_edge, home_within}
use Rattle.solid.proofs.Tests.{edge_tells}
use Rattle.ring.specs.Places.{blank, corner, edge, following}
use Rattle.ring.proofs.Places.{edges_at, following_within}
use Rattle.table.specs.Seen.{map_of}
use Rattle.table.specs.declared.Table.{Table}
use Rattle.table.proofs.Orders.{keys_rise, value_found, value_place}
use Rattle.tracking.specs.Tables.{edge_cmp, end_keys, edge_pairs, Tracks}
use Rattle.tracking.proofs.Edges.{found_is, end_keys_tell}
use Rattle.tracking.proofs.Keys.{edge_total, face_total}
use Rattle.tracking.proofs.Orders.{edge_cmp_total, edge_cmp_first, ends_test}
use Rattle.tracking.proofs.Pairs.{firsts_of, size_of_pairs, tracked}

-- ---- an edge begins at the corner of its place
step_starts : (a : Corner) (cs : List Corner) (z : Corner) → map (λ (e : Edge). e.0) (steps a cs z) ≡ a ∷ cs
step_starts a [] z = refl
step_starts a (b ∷ bs) z = ap (λ t. a ∷ t) (step_starts b bs z)

ring_starts : (r : Ring) → map (λ (e : Edge). e.0) (edges r) ≡ r
ring_starts [] = refl
ring_starts (c ∷ cs) = step_starts c cs c

all_starts : (fs : List Ring) → map (λ (e : Edge). e.0) (all_edges fs) ≡ corners fs
all_starts [] = refl
all_starts (r ∷ rs) = map-append (λ (e : Edge). e.0) (edges r) (all_edges rs) ∙ ap (λ (t : List Corner). t ++ map (λ (e : Edge). e.0) (all_edges rs)) (ring_starts r) ∙ ap (λ (t : List Corner). r ++ t) (all_starts rs)

pub start_held : (f : Faces) (p : ℕ) → p < length (stored_corners f) → (edge_at (rings f) p).0 ≡ corner_of (get_or (stored_corners f) p blank)
start_held f p l =
    sym (get_or-map (λ (e : Edge). e.0) (all_edges (rings f)) p no_edge no_edge.0 (omega (arith, edge_total f)))
    ∙ ap (λ (t : List Corner). get_or t p no_edge.0) (all_starts (rings f) ∙ corners_held f)
    ∙ get_or-map corner_of (stored_corners f) p blank no_edge.0 l

-- ---- the next edge of a ring
ring_at : (f : Faces) (i : ℕ) → i < length (stored_rings f) → face_at (rings f) i ≡ ring_of (get_or (stored_rings f) i [])
ring_at f i l = get_or-map ring_of (stored_rings f) i [] [] l

module _ (f : Faces) (p i : ℕ) (home : Home (rings f) p i) where
  is_ring : face_at (rings f) i ≡ ring_of (get_or (stored_rings f) i [])
  is_ring = ring_at f i (omega (arith, home.face, face_total f))

  long : first_place (rings f) (suc i) ≡ first_place (rings f) i + length (get_or (stored_rings f) i [])
  long = next_first (rings f) i home.face ∙ ap (λ n. first_place (rings f) i + n) (ap length is_ring ∙ length-map (get_or (stored_rings f) i []) corner_of)

  inner : (j : ℕ) → j < length (get_or (stored_rings f) i []) → edge_at (rings f) (first_place (rings f) i + j) ≡ edge (get_or (stored_rings f) i []) j
  inner j l =
      face_edge (rings f) i j home.face (subst (λ n. j < n) (sym (ap length is_ring ∙ length-map (get_or (stored_rings f) i []) corner_of)) l)
      ∙ ap (λ (r : Ring). get_or (edges r) j no_edge) is_ring
      ∙ edges_at (get_or (stored_rings f) i []) no_edge j l

  -- the place after p, in the ring that has the places from `from` to `to`
  pub follows_from : (from to : ℕ) → from ≡ first_place (rings f) i → to ≡ first_place (rings f) (suc i) → Follows (rings f) p (from + following (to - from) (p - from))
  follows_from from to e g =
      let r = get_or (stored_rings f) i [] in
      let k : to - from ≡ length r = omega (arith, e, g, long) in
      let at = p - from in
      let l : at < length r = omega (arith, e, home.from, home.below, long) in
      let back : first_place (rings f) i + at ≡ p = omega (arith, e, home.from) in
      let after = following (to - from) at in
      let m : after < length r = subst (λ n. following n at < length r) (sym k) (following_within (length r) at l) in
      let there : Home (rings f) (from + after) i = record { face = home.face; from = omega (arith, e); below = omega (arith, e, m, long) } in
      let same : from + after ≡ first_place (rings f) i + after = ap (λ n. n + after) e in record {
        within = home_within (rings f) (from + after) i there;
        joined = ap (λ n. (edge_at (rings f) n).0) same ∙ ap (λ (d : Edge). d.0) (inner after m) ∙ ap (λ n. corner r (following n at)) k ∙ sym (ap (λ (d : Edge). d.1) (inner at l)) ∙ ap (λ n. (edge_at (rings f) n).1) back;
        face = i;
        here = home;
        there = there;
      }

-- ---- the table of edges
value_of : Option ℕ → ℕ
value_of (Some v) = v
value_of None = 0

pair_at : (i : ℕ) (es : List Edge) (q : ℕ × ℕ) (r : ℕ) → find edge_cmp q (edge_pairs i es) ≡ Some r → (i ≤ r) × (r < i + length es) × (end_keys (get_or es (r - i) no_edge) ≡ q)
unfolding value_of
pair_at i [] q r h = absurd (true≢false (sym (ap is_some h)))
pair_at i (e ∷ es) q r h = go (eq_by_cmp edge_cmp q (end_keys e)) refl h (pair_at (i + 1) es q r)
  where
    go : (b : Bool) → eq_by_cmp edge_cmp q (end_keys e) ≡ b → cond b (Some i) (find edge_cmp q (edge_pairs (i + 1) es)) ≡ Some r → (find edge_cmp q (edge_pairs (i + 1) es) ≡ Some r → (i + 1 ≤ r) × (r < i + 1 + length es) × (end_keys (get_or es (r - (i + 1)) no_edge) ≡ q)) → (i ≤ r) × (r < i + length (e ∷ es)) × (end_keys (get_or (e ∷ es) (r - i) no_edge) ≡ q)
    go true t h later =
        let same : i ≡ r = ap value_of h in
        let z : r - i ≡ 0 = omega (arith, same) in
        (omega (arith, same), omega (arith, same), ap (λ n. end_keys (get_or (e ∷ es) n no_edge)) z ∙ sym (ends_test.equal q (end_keys e) t))
    go false t h later =
        let k = later h in
        let n : r - i ≡ suc (r - (i + 1)) = omega (arith, k.0) in
        (omega (arith, k.0), omega (arith, k.1), ap (λ n. end_keys (get_or (e ∷ es) n no_edge)) n ∙ k.2)

pair_keys : (i : ℕ) (es : List Edge) → firsts_of (edge_pairs i es) ≡ map end_keys es
pair_keys i [] = refl
pair_keys i (e ∷ es) = ap (λ t. end_keys e ∷ t) (pair_keys (i + 1) es)

kinds_distinct : (ks : List (ℕ × ℕ)) → Distinct ks → kinds (eq_by_cmp edge_cmp) ks ≡ length ks
kinds_distinct [] d = refl
kinds_distinct (k ∷ ks) d = ap (λ b. cond b (kinds (eq_by_cmp edge_cmp) ks) (suc (kinds (eq_by_cmp edge_cmp) ks))) (has_not (eq_by_cmp edge_cmp) ends_test k ks d.0) ∙ ap suc (kinds_distinct ks d.1)

distinct_keys : (es : List Edge) → ((x y : Edge) → In x es → In y es → end_keys x ≡ end_keys y → x ≡ y) → Distinct es → Distinct (map end_keys es)
distinct_keys [] tell d = tt
distinct_keys (e ∷ es) tell d = (λ i. (let k = unmapped es i in d.0 (subst (λ (x : Edge). In x es) (sym (tell e k.0 (inl refl) (inr k.1) k.2)) k.1)), distinct_keys es (λ x y i j. tell x y (inr i) (inr j)) d.1)
  where
    unmapped : (xs : List Edge) → In (end_keys e) (map end_keys xs) → (x : Edge) × In x xs × (end_keys e ≡ end_keys x)
    unmapped [] i = absurd i
    unmapped (x ∷ xs) (inl p) = (x, inl refl, p)
    unmapped (x ∷ xs) (inr i) = let k = unmapped xs i in (k.0, inr k.1, k.2)

module _ (fs : List Ring) (consistent : Consistent fs) where
  among : (p : ℕ) → p < length (all_edges fs) → In (edge_at fs p).0 (corners fs) × In (edge_at fs p).1 (corners fs)
  among p l = ends_in_corners (edge_at fs p) fs (edge_among fs p l)

  -- keys tell the faces' corners' edges
  tells : (a b : Corner) → In a (corners fs) → In b (corners fs) → (x : Edge) → In x (all_edges fs) → end_keys x ≡ end_keys (a, b) → x ≡ (a, b)
  tells a b i j = end_keys_tell fs (a, b) (λ d k. consistent.agree a d i k) (λ d k. consistent.agree b d j k)

  found_at : (a b : Corner) → In a (corners fs) → In b (corners fs) → (r : ℕ) → find edge_cmp (end_keys (a, b)) (edge_pairs 0 (all_edges fs)) ≡ Some r → (r < length (all_edges fs)) × (edge_at fs r ≡ (a, b))
  found_at a b i j r h =
      let k = pair_at 0 (all_edges fs) (end_keys (a, b)) r h in
      let z : r - 0 ≡ r = omega arith in
      let l : r < length (all_edges fs) = omega (arith, k.1) in
      (l, tells a b i j (edge_at fs r) (edge_among fs r l) (sym (ap (λ n. end_keys (edge_at fs n)) z) ∙ k.2))

  -- what a look-up of the reverse of an edge finds
  twin_some : (p r : ℕ) → p < length (all_edges fs) → find edge_cmp (end_keys (flip (edge_at fs p))) (edge_pairs 0 (all_edges fs)) ≡ Some r → Twin fs p r
  twin_some p r l h = let a = among p l in let k = found_at (edge_at fs p).1 (edge_at fs p).0 a.1 a.0 r h in record { within = k.0; reverse = k.1 }

  twin_none : (p : ℕ) → p < length (all_edges fs) → find edge_cmp (end_keys (flip (edge_at fs p))) (edge_pairs 0 (all_edges fs)) ≡ None → In (flip (edge_at fs p)) (all_edges fs) → ⊥
  twin_none p l h i =
      let a = among p l in
      true≢false (sym (has_from_in same_edge edge_tells (flip (edge_at fs p)) (all_edges fs) i) ∙ sym (found_is (flip (edge_at fs p)) 0 (all_edges fs) (tells (edge_at fs p).1 (edge_at fs p).0 a.1 a.0)) ∙ ap is_some h)

  pub twin_by : (p : ℕ) → p < length (all_edges fs) → (o : Option ℕ) → o ≡ find edge_cmp (end_keys (flip (edge_at fs p))) (edge_pairs 0 (all_edges fs)) → MatchOption o (In (flip (edge_at fs p)) (all_edges fs) → ⊥) (Twin fs p)
  twin_by p l (Some r) h = twin_some p r l (sym h)
  twin_by p l None h = twin_none p l (sym h)

  -- what a look-up of an edge finds is its place
  own_place : (p : ℕ) → p < length (all_edges fs) → find edge_cmp (end_keys (edge_at fs p)) (edge_pairs 0 (all_edges fs)) ≡ Some p
  own_place p l = go (find edge_cmp (end_keys (edge_at fs p)) (edge_pairs 0 (all_edges fs))) refl
    where
      a : In (edge_at fs p).0 (corners fs) × In (edge_at fs p).1 (corners fs)
      a = among p l

      go : (o : Option ℕ) → find edge_cmp (end_keys (edge_at fs p)) (edge_pairs 0 (all_edges fs)) ≡ o → o ≡ Some p
      go (Some r) h = let k = found_at (edge_at fs p).0 (edge_at fs p).1 a.0 a.1 r h in ap Some (place_one (all_edges fs) no_edge consistent.once r p k.0 l k.1)
      go None h = absurd (true≢false (sym (has_from_in same_edge edge_tells (edge_at fs p) (all_edges fs) (edge_among fs p l)) ∙ sym (found_is (edge_at fs p) 0 (all_edges fs) (tells (edge_at fs p).0 (edge_at fs p).1 a.0 a.1)) ∙ ap is_some h))

  -- ---- the places in the table's order
  module _ (t : Table (ℕ × ℕ) ℕ) (tracks : Tracks edge_cmp t (edge_pairs 0 (all_edges fs))) where
    m : FinMap edge_cmp ℕ
    m = map_of edge_cmp t

    found_in : (q : ℕ × ℕ) → get m q ≡ find edge_cmp q (edge_pairs 0 (all_edges fs))
    unfolding m
    found_in = tracked edge_cmp_total t (edge_pairs 0 (all_edges fs)) tracks

    size : len m ≡ length (all_edges fs)
    unfolding m
    size =
        ap len tracks ∙ size_of_pairs edge_cmp_total (edge_pairs 0 (all_edges fs))
        ∙ ap (kinds (eq_by_cmp edge_cmp)) (pair_keys 0 (all_edges fs))
        ∙ kinds_distinct (map end_keys (all_edges fs)) (distinct_keys (all_edges fs) (λ x y i j e. (let c = ends_in_corners y fs j in tells y.0 y.1 c.0 c.1 x i e)) consistent.once)
        ∙ length-map (all_edges fs) end_keys

    entry : ℕ → (ℕ × ℕ) × ℕ
    entry i = get_or (entries m) i ((0, 0), 0)

    value_is : (i : ℕ) → i < len m → get_or (values m) i 0 ≡ (entry i).1
    unfolding entry
    value_is i l = get_or-map (λ (e : (ℕ × ℕ) × ℕ). e.1) (entries m) i ((0, 0), 0) 0 (rw (len-entries m) at l)

    -- the place that stands at i, and its keys
    in_order : (i : ℕ) → i < len m → (get_or (values m) i 0 < length (all_edges fs)) × (end_keys (edge_at fs (get_or (values m) i 0)) ≡ (entry i).0)
    unfolding entry
    in_order i l =
        let r = get_or (values m) i 0 in
        let k = pair_at 0 (all_edges fs) (entry i).0 r (sym (found_in (entry i).0) ∙ value_found edge_cmp_total m i ((0, 0), 0) l ∙ ap Some (sym (value_is i l))) in
        let z : r - 0 ≡ r = omega arith in
        (omega (arith, k.1), sym (ap (λ n. end_keys (edge_at fs n)) z) ∙ k.2)

    pub keys_in_order : (i : ℕ) → i < length (entries (map_of edge_cmp t)) → (get_or (entries (map_of edge_cmp t)) i ((0, 0), 0)).0 ≡ end_keys (edge_at fs (get_or (entries (map_of edge_cmp t)) i ((0, 0), 0)).1)
    unfolding m entry
    keys_in_order i l =
        let within : i < len m = rw (len-entries m) l in
        sym (in_order i within).1 ∙ ap (λ n. end_keys (edge_at fs n)) (value_is i within)

    whole : length (values m) ≡ len m
    whole = length-map (entries m) (λ (e : (ℕ × ℕ) × ℕ). e.1) ∙ sym (len-entries m)

    pub by_key : ByKey fs (values (map_of edge_cmp t))
    unfolding m entry
    by_key = record {
      long = whole ∙ size;
      within = λ i l. (in_order i (rw whole at l)).0;
      every = λ p l. (
          let k = value_place edge_cmp_total m (end_keys (edge_at fs p)) p (found_in (end_keys (edge_at fs p)) ∙ own_place p l) in
          (k.0, subst (λ n. k.0 < n) (sym whole) k.1, value_is k.0 k.1 ∙ (k.2 ((0, 0), 0)).1)
          );
      rising = λ i j l n. (
          let n' : j < len m = rw whole at n in
          let a = in_order i (omega (arith, n')) in
          let b = in_order j n' in
          let keys = edge_cmp_first (entry i).0 (entry j).0 (keys_rise edge_cmp_total m i j ((0, 0), 0) l n') in
          omega (arith, keys, ap (λ p. p.0) a.1, ap (λ p. p.0) b.1)
          );
    }
