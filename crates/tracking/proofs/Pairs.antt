-- Maps made of pairs: what they find, how many keys they have, and what one pair more makes of them.
use Rattle.std.proofs.Common.{◌≡◌, ℕ, suc, ◌+◌, Bool, true, false, cond, ◌||◌, List, [], ◌∷◌, ◌++◌, map, is_some, Some, None, Option, sym, refl, ap, ◌∙◌, ap₂, inl, inr, true≢false, arith}
use Rattle.std.proofs.lemmas.Option.{same_Some}
use Rattle.std.specs.declared.cmp.Ordering.{Ordering}
use Rattle.std.specs.Ordering.{eq_by_cmp, is_eq}
use Rattle.std.specs.Cmp.{IsTotalOrder, Equal-is, tied_itself}
use Rattle.std.specs.FinMap.{FinMap, IsAntisymmetric, from_entries, insert, find, get, contains_key, len, len-empty, len-insert, get-from_entries, from_entries_push, same_map}
use Rattle.std.specs.Option.{option_or}
use Rattle.solid.specs.Lists.{In, has, kinds}
use Rattle.solid.proofs.Cancel.{Tells}
use Rattle.table.specs.Seen.{map_of, insert_new}
use Rattle.table.specs.declared.Table.{Table}
use Rattle.tracking.specs.Tables.{Tracks}

abbrev pub firsts_of : {K V : Type 0} → List (K × V) → List K
firsts_of ps = map (λ p. p.0) ps

module _ {V : Type 0} where
  or_other_none : (o : Option V) → option_or o None ≡ o
  or_other_none (Some v) = refl
  or_other_none None = refl

  or_other_some : (o other : Option V) → is_some o ≡ true → option_or o other ≡ o
  or_other_some (Some v) other h = refl
  or_other_some None other h = absurd (true≢false (sym h))

module _ {K : Type 0} {R : K → K → Ordering} (o : IsTotalOrder R) (same : IsAntisymmetric R) where
  -- the test of the order is one of equality
  pub order_tells : Tells (eq_by_cmp R)
  order_tells = record { equal = λ x y e. same x y ((Equal-is _).0 e); itself = λ x. ap is_eq (tied_itself o x) }

module _ {K V : Type 0} (R : K → K → Ordering) where
  -- a key is found exactly where it is one of those in the pairs
  pub found_pair : (ps : List (K × V)) (q : K) → is_some (find R q ps) ≡ has (eq_by_cmp R) q (firsts_of ps)
  found_pair [] q = refl
  found_pair (p ∷ ps) q = elim (eq_by_cmp R q p.0) as (λ b. is_some (cond b (Some p.1) (find R q ps)) ≡ (b || has (eq_by_cmp R) q (firsts_of ps))) [ true ↦ refl | false ↦ found_pair ps q ]

  find-append : (xs ys : List (K × V)) (q : K) → find R q (xs ++ ys) ≡ option_or (find R q xs) (find R q ys)
  find-append [] ys q = refl
  find-append (p ∷ xs) ys q = elim (eq_by_cmp R q p.0) as (λ b. cond b (Some p.1) (find R q (xs ++ ys)) ≡ option_or (cond b (Some p.1) (find R q xs)) (find R q ys)) [ true ↦ refl | false ↦ find-append xs ys q ]

module _ {K V : Type 0} {R : K → K → Ordering} (o : IsTotalOrder R) where
  -- what the table finds is the value of the first pair
  pub tracked : (t : Table K V) (ps : List (K × V)) → Tracks R t ps → (q : K) → get (map_of R t) q ≡ find R q ps
  tracked t ps h q = ap (λ m. get m q) h ∙ get-from_entries o ps q

  -- how many different keys there are
  pub size_of_pairs : (ps : List (K × V)) → len (from_entries {R = R} ps) ≡ kinds (eq_by_cmp R) (firsts_of ps)
  size_of_pairs [] = len-empty R V
  size_of_pairs (p ∷ ps) =
      len-insert o (from_entries ps) p.0 p.1
      ∙ ap₂ (λ b n. cond b n (n + 1)) (ap is_some (get-from_entries o ps p.0) ∙ found_pair R ps p.0) (size_of_pairs ps)
      ∙ more (has (eq_by_cmp R) p.0 (firsts_of ps)) (kinds (eq_by_cmp R) (firsts_of ps))
    where
      more : (b : Bool) (n : ℕ) → cond b n (n + 1) ≡ cond b n (suc n)
      more true n = refl
      more false n = omega arith

  -- a key more, where it is new
  pub len_insert_new : (m : FinMap R V) (k : K) (v : V) → len (insert_new m k v) ≡ cond (contains_key m k) (len m) (len m + 1)
  len_insert_new m k v = by (contains_key m k) refl
    where
      by : (b : Bool) → contains_key m k ≡ b → len (cond b m (insert m k v)) ≡ cond b (len m) (len m + 1)
      by true e = refl
      by false e = len-insert o m k v ∙ ap (λ b. cond b (len m) (len m + 1)) e

  module _ (same : IsAntisymmetric R) where
    -- one pair more at the end
    pub from_entries_more : (ps : List (K × V)) (k : K) (v : V) → from_entries {R = R} (ps ++ (k, v) ∷ []) ≡ insert_new (from_entries ps) k v
    from_entries_more ps k v = by (find R k ps) refl
      where
        there : (w : V) → find R k ps ≡ Some w → (q : K) → find R q (ps ++ (k, v) ∷ []) ≡ find R q ps
        there w e q =
            find-append R ps ((k, v) ∷ []) q
            ∙ elim (eq_by_cmp R q k) as (λ b. eq_by_cmp R q k ≡ b → option_or (find R q ps) (cond b (Some v) None) ≡ find R q ps) [
              | true ↦ λ t. or_other_some (find R q ps) (Some v) (ap is_some (ap (λ x. find R x ps) (same q k ((Equal-is _).0 t)) ∙ e))
              | false ↦ λ t. or_other_none (find R q ps)
            ] refl

        by : (f : Option V) → find R k ps ≡ f → from_entries {R = R} (ps ++ (k, v) ∷ []) ≡ insert_new (from_entries ps) k v
        by (Some w) e =
            same_map o same _ _ (λ q. get-from_entries o _ q ∙ there w e q ∙ sym (get-from_entries o ps q))
            ∙ sym (ap (λ b. cond b (from_entries ps) (insert (from_entries ps) k v)) (ap is_some (get-from_entries o ps k ∙ e)))
        by None e =
            from_entries_push o same ps k v e
            ∙ sym (ap (λ b. cond b (from_entries ps) (insert (from_entries ps) k v)) (ap is_some (get-from_entries o ps k ∙ e)))

-- ---- a look-up in pairs made of a list's elements
module _ {X K V : Type 0} (f : X → K) (g : X → V) where
  pub firsts : (xs : List X) → firsts_of (map (λ x. (f x, g x)) xs) ≡ map f xs
  firsts [] = refl
  firsts (x ∷ xs) = ap (λ t. f x ∷ t) (firsts xs)

module _ {X K V : Type 0} {R : K → K → Ordering} (f : X → K) (g : X → V) where
  pub lookup_in : IsAntisymmetric R → (xs : List X) (q : K) (v : V) → find R q (map (λ x. (f x, g x)) xs) ≡ Some v → (x : X) × In x xs × (f x ≡ q) × (g x ≡ v)
  lookup_in same [] q v h = absurd (true≢false (sym (ap is_some h)))
  lookup_in same (x ∷ xs) q v h =
      elim (eq_by_cmp R q (f x)) as (λ b. eq_by_cmp R q (f x) ≡ b → cond b (Some (g x)) (find R q (map (λ x. (f x, g x)) xs)) ≡ Some v → (y : X) × In y (x ∷ xs) × (f y ≡ q) × (g y ≡ v)) [
        | true ↦ λ t e. (x, inl refl, sym (same q (f x) ((Equal-is _).0 t)), same_Some _ _ e)
        | false ↦ λ t e. (let k = lookup_in same xs q v e in (k.0, inr k.1, k.2, k.3))
      ] refl h

  pub lookup_out : IsTotalOrder R → (xs : List X) (q : K) → find R q (map (λ x. (f x, g x)) xs) ≡ None → (x : X) → In x xs → f x ≡ q → ⊥
  lookup_out o [] q h x i e = i
  lookup_out o (y ∷ xs) q h x i e =
      elim (eq_by_cmp R q (f y)) as (λ b. eq_by_cmp R q (f y) ≡ b → cond b (Some (g y)) (find R q (map (λ x. (f x, g x)) xs)) ≡ None → ⊥) [
        | true ↦ λ t g. true≢false (ap is_some g)
        | false ↦ λ t g. elim i [
          | inl p ↦ true≢false (sym (ap is_eq (tied_itself o q)) ∙ ap (λ k. eq_by_cmp R q k) (sym e ∙ ap f p) ∙ t)
          | inr j ↦ lookup_out o xs q g x j e
        ]
      ] refl h
