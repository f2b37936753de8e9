-- Where a key stands among entries in rising order of the keys, and what its place makes of the map.
use Rattle.std.proofs.Common.{◌≡◌, ℕ, zero, suc, ◌<◌, ◌≤◌, Bool, true, false, cond, ◌&&◌, T, List, [], ◌∷◌, length, get_or, Some, None, Ok, Err, Result, sym, refl, ap, ◌∙◌, arith}
use Rattle.std.specs.declared.cmp.Ordering.{Ordering}
use Rattle.std.specs.declared.cmp.Ordering.TheVariants.{Less, Equal, Greater}
use Rattle.std.specs.Ordering.{ordering_reverse, ordering_index, is_lt, is_eq}
use Rattle.std.specs.Cmp.{IsTotalOrder, alike_right, tied_back}
use Rattle.std.specs.List.{AllWithin, HoldsAt, insert as list_insert}
use Rattle.std.specs.List.Sorted.{IsNonDecreasingBy, IsBinarySearchResult, IsSearchInRange}
use Rattle.std.specs.FinMap.{is_sorted, from_sorted, find, entries-from_sorted, get-from_sorted, len-entries, entries-insert}
use Rattle.std.specs.FinMap.Entries.{put, by_order, below_all}
use Rattle.table.specs.Seen.{Placed}

pub both : (a b : Bool) → T (a && b) → T a × T b
both true b h = (tt, h)
both false b h = absurd h

is_less : (r : Ordering) → T (is_lt r) → r ≡ Less
is_less Less h = refl
is_less Equal h = absurd h
is_less Greater h = absurd h

index_at_most : (r : Ordering) → ordering_index r ≤ 2
index_at_most Less = omega arith
index_at_most Equal = omega arith
index_at_most Greater = omega arith

module _ {K : Type 0} {R : K → K → Ordering} (o : IsTotalOrder R) where
  -- the answers at the key rise with the entries
  step : (a b k : K) → R a b ≡ Less → ordering_index (R a k) ≤ ordering_index (R b k)
  step a b k p =
      elim (R b k) as (λ r. R b k ≡ r → ordering_index (R a k) ≤ ordering_index r) [
        | Less ↦ λ e. rw (o.trans a b k p e) (omega arith)
        | Equal ↦ λ e. rw (sym (alike_right o b k a e) ∙ p) (omega arith)
        | Greater ↦ λ e. index_at_most (R a k)
      ] refl

  pub turned : (x k : K) (r : Ordering) → R x k ≡ r → R k x ≡ ordering_reverse r
  turned x k r e = o.antisymm k x ∙ ap ordering_reverse e

module _ {K V : Type 0} {R : K → K → Ordering} (o : IsTotalOrder R) where
  pub below_at : (x : K) (es : List (K × V)) (i : ℕ) (d : K × V) → T (below_all R x es) → i < length es → R x (get_or es i d).0 ≡ Less
  below_at x [] i d h l = absurd (omega arith)
  below_at x (e ∷ es) zero d h l = is_less _ (both _ _ h).0
  below_at x (e ∷ es) (suc i) d h l = below_at x es i d (both _ _ h).1 (omega arith)

  rises : (k : K) (es : List (K × V)) → T (is_sorted R es) → IsNonDecreasingBy (λ e. ordering_index (R e.0 k)) es
  rises k [] s i j d le l = absurd (omega arith)
  rises k (e ∷ es) s zero zero d le l = omega arith
  rises k (e ∷ es) s zero (suc j) d le l = step o e.0 _ k (below_at e.0 es j d (both _ _ s).0 (omega arith))
  rises k (e ∷ es) s (suc i) zero d le l = absurd (omega arith)
  rises k (e ∷ es) s (suc i) (suc j) d le l = rises k es (both _ _ s).1 i j d (omega arith) (omega arith)

  module _ (k : K) where
    passed : (e : K × V) (es : List (K × V)) (r : Ordering) → R k e.0 ≡ r → find R k (e ∷ es) ≡ cond (is_eq r) (Some e.1) (find R k es)
    passed e es r h = ap (λ r. cond (is_eq r) (Some e.1) (find R k es)) h

    found : (es : List (K × V)) (i : ℕ) → T (is_sorted R es) → i < length es → HoldsAt (λ e. R e.0 k ≡ Equal) es i → (d : K × V) → find R k es ≡ Some (get_or es i d).1
    found [] i s l h d = absurd (omega arith)
    found (e ∷ es) zero s l h d = passed e es Equal (tied_back o e.0 k (h d))
    found (e ∷ es) (suc i) s l h d =
        passed e es Greater (turned o e.0 k Less (sym (alike_right o _ k e.0 (h d)) ∙ below_at e.0 es i d (both _ _ s).0 (omega arith)))
        ∙ found es i (both _ _ s).1 (omega arith) (λ d. h d) d

    absent : (es : List (K × V)) (i : ℕ) → AllWithin (λ e. R e.0 k ≡ Less) es 0 i → AllWithin (λ e. R e.0 k ≡ Greater) es i (length es) → find R k es ≡ None
    absent [] i a b = refl
    absent (e ∷ es) zero a b =
        passed e es Less (turned o e.0 k Greater (b 0 e (omega arith) (omega arith)))
        ∙ absent es zero (λ j d p q. absurd (omega arith)) (λ j d p q. b (suc j) d (omega arith) (omega arith))
    absent (e ∷ es) (suc i) a b =
        passed e es Greater (turned o e.0 k Less (a 0 e (omega arith) (omega arith)))
        ∙ absent es i (λ j d p q. a (suc j) d (omega arith) (omega arith)) (λ j d p q. b (suc j) d (omega arith) (omega arith))

    goes : (v : V) (es : List (K × V)) (i : ℕ) → i ≤ length es → AllWithin (λ e. R e.0 k ≡ Less) es 0 i → AllWithin (λ e. R e.0 k ≡ Greater) es i (length es) → put R k v es ≡ list_insert es i (k, v)
    goes v [] zero l a b = refl
    goes v [] (suc i) l a b = absurd (omega arith)
    goes v (e ∷ es) zero l a b = ap (λ r. by_order r ((k, v) ∷ e ∷ es) ((e.0, v) ∷ es) (e ∷ put R k v es)) (turned o e.0 k Greater (b 0 e (omega arith) (omega arith)))
    goes v (e ∷ es) (suc i) l a b =
        ap (λ r. by_order r ((k, v) ∷ e ∷ es) ((e.0, v) ∷ es) (e ∷ put R k v es)) (turned o e.0 k Less (a 0 e (omega arith) (omega arith)))
        ∙ ap (λ xs. e ∷ xs) (goes v es i (omega arith) (λ j d p q. a (suc j) d (omega arith) (omega arith)) (λ j d p q. b (suc j) d (omega arith) (omega arith)))

    -- what the library's answer says of the map
    pub placed : (es : List (K × V)) (r : Result ℕ ℕ) → T (is_sorted R es) → IsSearchInRange r (length es) → IsBinarySearchResult (λ e. R e.0 k) es r → Placed (from_sorted {R = R} es) k r
    placed es (Ok i) s l h =
        let is = entries-from_sorted R es s in
        (rw (len-entries (from_sorted {R = R} es), is) l, λ d. (rw is (h d), rw is (get-from_sorted R es k s ∙ found es i s l h d)))
    placed es (Err i) s l h =
        let is = entries-from_sorted R es s in
        let parts = h (rises k es s) in (
          rw (len-entries (from_sorted {R = R} es), is) l,
          get-from_sorted R es k s ∙ absent es i parts.0 parts.1,
          λ v. entries-insert o (from_sorted es) k v ∙ rw is (goes v es i l parts.0 parts.1),
        )
