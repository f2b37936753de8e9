-- What the table of edges finds, said of the faces' edges.
use Rattle.std.proofs.Common.{◌≡◌, ℕ, zero, suc, ◌+◌, ◌<◌, Bool, true, false, cond, ◌||◌, List, [], ◌∷◌, length, filter, get_or, is_some, Some, sym, refl, ap, ◌∙◌, subst, inl, inr, true≢false, arith}
use Rattle.std.specs.Ordering.{eq_by_cmp}
use Rattle.std.specs.FinMap.{find}
use Rattle.solid.specs.Places.{no_edge}
use Rattle.solid.specs.Corners.{ring_of}
use Rattle.solid.specs.Entering.{AllAllowed, FirstIn}
use Rattle.solid.specs.Faces.{Corner, Ring, Edge, flip, edges, all_edges, same_edge}
use Rattle.solid.specs.Lists.{In, has}
use Rattle.solid.specs.Rules.{Fresh}
use Rattle.solid.specs.declared.Corner.{Corner as StoredCorner}
use Rattle.solid.proofs.Answered.{agree_before}
use Rattle.solid.proofs.Members.{edge_from as edge-start, edge_to as edge-end, ends_in_corners, at_in}
use Rattle.solid.proofs.Tests.{edge_tells}
use Rattle.solid.proofs.Cancel.{in_from_has, has_from_in}
use Rattle.ring.specs.Places.{edge}
use Rattle.ring.proofs.Places.{edges_at, edges_length}
use Rattle.tracking.specs.Tables.{edge_cmp, end_keys, edge_pairs}
use Rattle.tracking.proofs.Orders.{ends_test}
use Rattle.tracking.specs.Tests.{AgreesWith}

-- an edge whose keys tell it from each of some others is found exactly where it is one of them
pub found_is : (e : Edge) (i : ℕ) (es : List Edge) → ((x : Edge) → In x es → end_keys x ≡ end_keys e → x ≡ e) → is_some (find edge_cmp (end_keys e) (edge_pairs i es)) ≡ has same_edge e es
found_is e i [] tells = refl
found_is e i (x ∷ es) tells = go (eq_by_cmp edge_cmp (end_keys e) (end_keys x)) (same_edge e x) refl refl (found_is e (i + 1) es (λ y j. tells y (inr j)))
  where
    go : (b s : Bool) → eq_by_cmp edge_cmp (end_keys e) (end_keys x) ≡ b → same_edge e x ≡ s → is_some (find edge_cmp (end_keys e) (edge_pairs (i + 1) es)) ≡ has same_edge e es → is_some (cond b (Some i) (find edge_cmp (end_keys e) (edge_pairs (i + 1) es))) ≡ (s || has same_edge e es)
    go true true p q later = refl
    go true false p q later = absurd (true≢false (sym (subst (λ y. same_edge e y ≡ true) (sym (tells x (inl refl) (sym (ends_test.equal (end_keys e) (end_keys x) p)))) (edge_tells.itself e)) ∙ q))
    go false true p q later = absurd (true≢false (sym (ends_test.itself (end_keys e)) ∙ ap (λ y. eq_by_cmp edge_cmp (end_keys e) (end_keys y)) (edge_tells.equal e x q) ∙ p))
    go false false p q later = later

-- keys tell an edge of corners that agree with the faces from the faces' edges
pub end_keys_tell : (fs : List Ring) (e : Edge) → AgreesWith fs e.0 → AgreesWith fs e.1 → (x : Edge) → In x (all_edges fs) → end_keys x ≡ end_keys e → x ≡ e
end_keys_tell fs e a b x i r =
    let ends = ends_in_corners x fs i in
    let from : x.0.key ≡ e.0.key = ap (λ p. p.0) r in
    let to : x.1.key ≡ e.1.key = ap (λ p. p.1) r in
    let first = (a x.0 ends.0).0 (sym from) in
    let second = (b x.1 ends.1).0 (sym to) in
    λ t. (record { key = from t; position = sym first t }, record { key = to t; position = sym second t })

-- ---- the edges of a ring whose corners are allowed
module _ (fs : List Ring) (r : Ring) (allowed : AllAllowed fs [] r) where
  told : (c d : Corner) → In c r → In d r → (x : Edge) → In x (all_edges fs) → end_keys x ≡ end_keys (c, d) → x ≡ (c, d)
  told c d i j = end_keys_tell fs (c, d) (λ x k. agree_before fs [] r allowed c x i (inr k)) (λ x k. agree_before fs [] r allowed d x j (inr k))

  pub found_edge : (e : Edge) → In e (edges r) → is_some (find edge_cmp (end_keys e) (edge_pairs 0 (all_edges fs))) ≡ has same_edge e (all_edges fs)
  found_edge e i = found_is e 0 (all_edges fs) (told e.0 e.1 (edge-start r e i) (edge-end r e i))

  pub found_reverse : (e : Edge) → In e (edges r) → is_some (find edge_cmp (end_keys (flip e)) (edge_pairs 0 (all_edges fs))) ≡ has same_edge (flip e) (all_edges fs)
  found_reverse e i = found_is (flip e) 0 (all_edges fs) (told e.1 e.0 (edge-end r e i) (edge-start r e i))

-- ---- the first of some edges that is one of others, by its place
first_in_from : (others : List Edge) (d : Edge) (es : List Edge) (i : ℕ) → i < length es → ((j : ℕ) → j < i → In (get_or es j d) others → ⊥) → In (get_or es i d) others → FirstIn others es (get_or es i d)
first_in_from others d [] i l before here = absurd (omega arith)
first_in_from others d (e ∷ es) zero l before here = inl (here, refl)
first_in_from others d (e ∷ es) (suc i) l before here = inr (before 0 (omega arith), first_in_from others d es i (omega arith) (λ j m. before (suc j) (omega arith)) here)

module _ (fs : List Ring) (r : List StoredCorner) where
  pub first_repeated : (i : ℕ) → i < length r → ((j : ℕ) → j < i → In (edge r j) (all_edges fs) → ⊥) → In (edge r i) (all_edges fs) → FirstIn (all_edges fs) (edges (ring_of r)) (edge r i)
  first_repeated i l before here =
      let same = λ (j : ℕ) (m : j < length r). edges_at r no_edge j m in
      subst (FirstIn (all_edges fs) (edges (ring_of r))) (same i l)
      (first_in_from (all_edges fs) no_edge (edges (ring_of r)) i (omega (arith, edges_length r)) (λ j m k. before j m (subst (λ e. In e (all_edges fs)) (same j (omega arith)) k)) (subst (λ e. In e (all_edges fs)) (sym (same i l)) here))

  pub fresh_from : ((j : ℕ) → j < length r → In (edge r j) (all_edges fs) → ⊥) → Fresh fs (ring_of r)
  fresh_from h e i k =
      let t = at_in (edges (ring_of r)) no_edge e i in
      let l : t.0 < length r = omega (arith, t.1, edges_length r) in
      h t.0 l (subst (λ x. In x (all_edges fs)) (t.2 ∙ edges_at r no_edge t.0 l) k)

-- what the test of the table says of an edge
pub is_there : (e : Edge) (es : List Edge) (b : Bool) → b ≡ has same_edge e es → b ≡ true → In e es
is_there e es b p q = in_from_has same_edge edge_tells e es (sym p ∙ q)

pub not_there : (e : Edge) (es : List Edge) (b : Bool) → b ≡ has same_edge e es → b ≡ false → In e es → ⊥
not_there e es b p q i = true≢false (sym (has_from_in same_edge edge_tells e es i) ∙ sym p ∙ q)

-- ---- tests that agree on a list keep as many of it
module _ {X : Type 0} (p q : X → Bool) where
  kept_step : (x : X) (ys zs : List X) (a b : Bool) → a ≡ b → length ys ≡ length zs → length (cond a (x ∷ ys) ys) ≡ length (cond b (x ∷ zs) zs)
  kept_step x ys zs true true e r = ap suc r
  kept_step x ys zs true false e r = absurd (true≢false e)
  kept_step x ys zs false true e r = absurd (true≢false (sym e))
  kept_step x ys zs false false e r = r

  pub kept_alike : (xs : List X) → ((x : X) → In x xs → p x ≡ q x) → length (filter p xs) ≡ length (filter q xs)
  kept_alike [] same = refl
  kept_alike (x ∷ xs) same = kept_step x (filter p xs) (filter q xs) (p x) (q x) (same x (inl refl)) (kept_alike xs (λ y i. same y (inr i)))
