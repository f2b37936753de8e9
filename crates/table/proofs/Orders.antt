-- The entries of a map by their places in rising order of the keys.
use Rattle.std.proofs.Common.{◌≡◌, ℕ, zero, suc, ◌<◌, true, false, cond, T, List, [], ◌∷◌, length, get_or, is_some, Some, sym, refl, ap, ◌∙◌, true≢false, arith}
use Rattle.std.proofs.lemmas.Option.{same_Some}
use Rattle.std.specs.declared.cmp.Ordering.{Ordering}
use Rattle.std.specs.declared.cmp.Ordering.TheVariants.{Less, Equal}
use Rattle.std.specs.Ordering.{eq_by_cmp, is_eq}
use Rattle.std.specs.Cmp.{IsTotalOrder, Equal-is, tied_itself}
use Rattle.std.specs.FinMap.{FinMap, is_sorted, find, entries, entries_sorted, get, get-entries, len, len-entries}
use Rattle.table.proofs.Places.{both, turned, below_at}

module _ {K V : Type 0} {R : K → K → Ordering} (o : IsTotalOrder R) where
  rising : (es : List (K × V)) → T (is_sorted R es) → (i j : ℕ) (d : K × V) → i < j → j < length es → R (get_or es i d).0 (get_or es j d).0 ≡ Less
  rising [] s i j d l m = absurd (omega arith)
  rising (e ∷ es) s i zero d l m = absurd (omega arith)
  rising (e ∷ es) s zero (suc j) d l m = below_at o e.0 es j d (both _ _ s).0 (omega arith)
  rising (e ∷ es) s (suc i) (suc j) d l m = rising es (both _ _ s).1 i j d (omega arith) (omega arith)

  stands : (q : K) (v : V) (es : List (K × V)) → find R q es ≡ Some v → (i : ℕ) × (i < length es) × ((d : K × V) → (R q (get_or es i d).0 ≡ Equal) × ((get_or es i d).1 ≡ v))
  stands q v [] h = absurd (true≢false (sym (ap is_some h)))
  stands q v (e ∷ es) h =
      elim (eq_by_cmp R q e.0) as (λ b. eq_by_cmp R q e.0 ≡ b → cond b (Some e.1) (find R q es) ≡ Some v → (i : ℕ) × (i < length (e ∷ es)) × ((d : K × V) → (R q (get_or (e ∷ es) i d).0 ≡ Equal) × ((get_or (e ∷ es) i d).1 ≡ v))) [
        | true ↦ λ t g. (0, omega arith, λ d. ((Equal-is _).0 t, same_Some _ _ g))
        | false ↦ λ t g. (let k = stands q v es g in (suc k.0, omega (arith, k.1), λ d. k.2 d))
      ] refl h

  module _ (m : FinMap R V) where
    pub keys_rise : (i j : ℕ) (d : K × V) → i < j → j < len m → R (get_or (entries m) i d).0 (get_or (entries m) j d).0 ≡ Less
    keys_rise i j d l k = rising (entries m) (entries_sorted m) i j d l (rw (len-entries m) at k)

    -- the value at a place is what is found under the key there
    pub value_found : (i : ℕ) (d : K × V) → i < len m → get m (get_or (entries m) i d).0 ≡ Some (get_or (entries m) i d).1
    value_found i d l = get-entries m _ ∙ at (entries m) (entries_sorted m) i d (rw (len-entries m) at l)
      where
        at : (es : List (K × V)) → T (is_sorted R es) → (i : ℕ) (d : K × V) → i < length es → find R (get_or es i d).0 es ≡ Some (get_or es i d).1
        at [] s i d l = absurd (omega arith)
        at (e ∷ es) s zero d l = ap (λ r. cond (is_eq r) (Some e.1) (find R e.0 es)) (tied_itself o e.0)
        at (e ∷ es) s (suc i) d l =
            ap (λ r. cond (is_eq r) (Some e.1) (find R (get_or es i d).0 es)) (turned o e.0 (get_or es i d).0 Less (below_at o e.0 es i d (both _ _ s).0 (omega arith)))
            ∙ at es (both _ _ s).1 i d (omega arith)

    -- and what is found under a key stands at a place
    pub value_place : (q : K) (v : V) → get m q ≡ Some v → (i : ℕ) × (i < len m) × ((d : K × V) → (R q (get_or (entries m) i d).0 ≡ Equal) × ((get_or (entries m) i d).1 ≡ v))
    value_place q v h = let k = stands q v (entries m) (sym (get-entries m q) ∙ h) in (k.0, rw (len-entries m) k.1, k.2)
