-- Entries in rising order of the keys as a map.
use Rattle.std.proofs.Common.{◌≡◌, ℕ, ◌<◌, ◌≤◌, T, List, [], length, get_or, Some, None, Ok, Err, Result, is_ok, is_err, OnOk, true, is_some, true≢false, sym, refl, ap, ◌∙◌, subst}
use Rattle.std.specs.declared.cmp.Ordering.{Ordering}
use Rattle.std.specs.List.{insert as list_insert}
use Rattle.std.specs.FinMap.{FinMap, is_sorted, from_sorted, empty, insert, get, entries, len, entries_sorted, same_entries_map, empty_of_len, entries-from_sorted, len-entries}
use Rattle.table.specs.Seen.{Placed, insert_new}

module _ {K V : Type 0} (R : K → K → Ordering) where
  pub map_nothing : from_sorted {X = V} {R = R} [] ≡ empty
  map_nothing = empty_of_len _ (len-entries _ ∙ ap length (entries-from_sorted R [] tt))

  pub len_sorted : (es : List (K × V)) → T (is_sorted R es) → len (from_sorted {R = R} es) ≡ length es
  len_sorted es s = len-entries _ ∙ ap length (entries-from_sorted R es s)

module _ {K V : Type 0} (R : K → K → Ordering) (es : List (K × V)) (s : T (is_sorted R es)) (k : K) (v : V) (i : ℕ) (h : Placed (from_sorted {R = R} es) k (Err i)) where
  now_is : entries (insert (from_sorted {R = R} es) k v) ≡ list_insert es i (k, v)
  now_is = rw (entries-from_sorted R es s) at (h.2 v)

  pub sorted_insert : T (is_sorted R (list_insert es i (k, v)))
  sorted_insert = subst (λ xs. T (is_sorted R xs)) now_is (entries_sorted (insert (from_sorted {R = R} es) k v))

  pub map_insert : from_sorted {R = R} (list_insert es i (k, v)) ≡ insert_new (from_sorted es) k v
  map_insert = rw h.1 (same_entries_map _ _ (entries-from_sorted R _ sorted_insert ∙ sym now_is))

module _ {K V : Type 0} (R : K → K → Ordering) (es : List (K × V)) (s : T (is_sorted R es)) (k : K) (i : ℕ) where
  -- the value that stands at the key's place
  pub read : Placed (from_sorted {R = R} es) k (Ok i) → (x : K × V) → x ≡ get_or es i x → Some x.1 ≡ get (from_sorted {R = R} es) k
  read h x e = ap (λ (x : K × V). Some x.1) e ∙ sym (rw (entries-from_sorted R es s) at (h.1 x).1)

  pub within : Placed (from_sorted {R = R} es) k (Ok i) → i < length es
  within h = rw (len_sorted R es s) at h.0

  pub at_most : Placed (from_sorted {R = R} es) k (Err i) → i ≤ length es
  at_most h = rw (len_sorted R es s) at h.0

module _ {K V : Type 0} {R : K → K → Ordering} (m : FinMap R V) (k : K) (v : V) (i : ℕ) (h : Placed m k (Ok i)) where
  pub stays : m ≡ insert_new m k v
  stays = rw (h.1 (k, v)).1 refl

  pub not_new : get m k ≡ None → ⊥
  not_new e = true≢false (ap is_some (sym (h.1 (k, v)).1 ∙ e))

module _ {A E : Type 0} where
  pub on_ok : (r : Result A E) {P : Type 0} → P → OnOk r P
  on_ok (Ok x) p = p
  on_ok (Err e) p = tt

  pub not_both : (r : Result A E) → is_ok r ≡ true → is_err r ≡ true → ⊥
  not_both (Ok x) p q = true≢false (sym q)
  not_both (Err e) p q = true≢false (sym p)
