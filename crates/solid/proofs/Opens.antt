-- One edge more: it closes its reverse where that is there, and is open itself where not.
-- Over any type with a test of equality and a reversal, so that nothing of corners is used.
use Rattle.std.proofs.Common.{◌≡◌, ℕ, suc, ◌+◌, ◌*◌, ◌≤◌, Bool, true, false, cond, not, List, [], ◌∷◌, ◌++◌, length, filter, sym, refl, ap, ◌∙◌, subst, ap₂, inl, inr, true≢false, append_assoc, append-nil, arith, length-append}
use Rattle.solid.specs.Lists.{In, Distinct, has}
use Rattle.solid.proofs.Members.{in_append, in_left, in_right, distinct_apart, distinct_left}
use Rattle.solid.proofs.Cancel.{Tells, in_from_has, has_from_in, has_not}

module _ {X : Type 0} where
  kept_same : (p q : X → Bool) (xs : List X) → ((x : X) → In x xs → q x ≡ p x) → filter q xs ≡ filter p xs
  kept_same p q [] h = refl
  kept_same p q (x ∷ xs) h = ap₂ (λ b l. cond b (x ∷ l) l) (h x (inl refl)) (kept_same p q xs (λ y i. h y (inr i)))

  pub kept_append : (p : X → Bool) (xs ys : List X) → filter p (xs ++ ys) ≡ filter p xs ++ filter p ys
  kept_append p [] ys = refl
  kept_append p (x ∷ xs) ys = elim (p x) as (λ b. cond b (x ∷ filter p (xs ++ ys)) (filter p (xs ++ ys)) ≡ cond b (x ∷ filter p xs) (filter p xs) ++ filter p ys) [
    | true ↦ ap (λ l. x ∷ l) (kept_append p xs ys)
    | false ↦ kept_append p xs ys
  ]

  pub kept_short : (p : X → Bool) (xs : List X) → length (filter p xs) ≤ length xs
  kept_short p [] = omega arith
  kept_short p (x ∷ xs) = let h = kept_short p xs in elim (p x) as (λ b. length (cond b (x ∷ filter p xs) (filter p xs)) ≤ suc (length xs)) [ true ↦ omega arith | false ↦ omega arith ]

  -- a test that also drops y, which the other keeps, keeps one element less
  kept_less : (p q : X → Bool) (y : X) (xs : List X) → Distinct xs → In y xs → p y ≡ true → q y ≡ false → ((x : X) → In x xs → (x ≡ y → ⊥) → q x ≡ p x) → length (filter q xs) + 1 ≡ length (filter p xs)
  kept_less p q y [] d i t f h = absurd i
  kept_less p q y (x ∷ xs) d (inl e) t f h =
      let same = kept_same p q xs (λ z j. h z (inr j) (λ g. d.0 (subst (λ w. In w xs) (g ∙ e) j))) in
      ap (λ b. length (cond b (x ∷ filter q xs) (filter q xs)) + 1) (ap q (sym e) ∙ f)
      ∙ ap (λ l. length l + 1) same
      ∙ step (length (filter p xs))
      ∙ sym (ap (λ b. length (cond b (x ∷ filter p xs) (filter p xs))) (ap p (sym e) ∙ t))
    where
      step : (n : ℕ) → n + 1 ≡ suc n
      step n = omega arith
  kept_less p q y (x ∷ xs) d (inr i) t f h =
      ap (λ b. length (cond b (x ∷ filter q xs) (filter q xs)) + 1) (h x (inl refl) (λ g. d.0 (subst (λ w. In w xs) (sym g) i)))
      ∙ go (p x) (kept_less p q y xs d.1 i t f (λ z j n. h z (inr j) n))
    where
      go : (b : Bool) → length (filter q xs) + 1 ≡ length (filter p xs) → length (cond b (x ∷ filter q xs) (filter q xs)) + 1 ≡ length (cond b (x ∷ filter p xs) (filter p xs))
      go true e = omega arith
      go false e = e

module _ {X : Type 0} (same : X → X → Bool) (tells : Tells same) (flip : X → X) (twice : (x : X) → flip (flip x) ≡ x) where
  -- how many elements have no reverse
  abbrev pub open_count_of : List X → ℕ
  open_count_of xs = length (filter (λ x. not (has same (flip x) xs)) xs)

  module _ (xs : List X) (n : X) (new : In n xs → ⊥) (apart : flip n ≡ n → ⊥) where
    has_other : (x : X) → (x ≡ n → ⊥) → has same x (xs ++ n ∷ []) ≡ has same x xs
    has_other x ne = go (has same x xs) refl
      where
        go : (b : Bool) → has same x xs ≡ b → has same x (xs ++ n ∷ []) ≡ b
        go true e = has_from_in same tells x (xs ++ n ∷ []) (in_left x xs (n ∷ []) (in_from_has same tells x xs e))
        go false e = has_not same tells x (xs ++ n ∷ []) (λ i. elim (in_append x xs (n ∷ []) i) [
          | inl j ↦ true≢false (sym (has_from_in same tells x xs j) ∙ e)
          | inr j ↦ elim j [ inl p ↦ ne p | inr z ↦ z ]
        ])

    -- only the reverse of n has n as its reverse
    reverse_of : (x : X) → flip x ≡ n → x ≡ flip n
    reverse_of x e = sym (twice x) ∙ ap flip e

    split : open_count_of (xs ++ n ∷ []) ≡ length (filter (λ x. not (has same (flip x) (xs ++ n ∷ []))) xs) + length (cond (not (has same (flip n) (xs ++ n ∷ []))) (n ∷ []) [])
    split =
        ap length (kept_append (λ x. not (has same (flip x) (xs ++ n ∷ []))) xs (n ∷ []))
        ∙ length-append (filter (λ x. not (has same (flip x) (xs ++ n ∷ []))) xs) (cond (not (has same (flip n) (xs ++ n ∷ []))) (n ∷ []) [])

    pub opens_one : (In (flip n) xs → ⊥) → open_count_of (xs ++ n ∷ []) ≡ open_count_of xs + 1
    opens_one out =
        split
        ∙ ap₂ ◌+◌ (ap length (kept_same (λ x. not (has same (flip x) xs)) (λ x. not (has same (flip x) (xs ++ n ∷ []))) xs
        (λ x i. ap not (has_other (flip x) (λ e. out (subst (λ w. In w xs) (reverse_of x e) i))))))
        (ap (λ b. length (cond (not b) (n ∷ []) [])) (has_other (flip n) apart ∙ has_not same tells (flip n) xs out))

    pub closes_one : Distinct xs → In (flip n) xs → open_count_of (xs ++ n ∷ []) + 1 ≡ open_count_of xs
    closes_one d in-xs =
        let less = kept_less (λ x. not (has same (flip x) xs)) (λ x. not (has same (flip x) (xs ++ n ∷ []))) (flip n) xs d in-xs
        (ap (λ w. not (has same w xs)) (twice n) ∙ ap not (has_not same tells n xs new))
        (ap (λ w. not (has same w (xs ++ n ∷ []))) (twice n) ∙ ap not (has_from_in same tells n (xs ++ n ∷ []) (in_right n xs (n ∷ []) (inl refl))))
        (λ x i ne. ap not (has_other (flip x) (λ e. ne (reverse_of x e)))) in
        let none = ap (λ b. length (cond (not b) (n ∷ []) [])) (has_from_in same tells (flip n) (xs ++ n ∷ []) (in_left (flip n) xs (n ∷ []) in-xs)) in
        omega (arith, split, less, none)

  -- some elements more, of which none is the reverse of another: each closes one, or is open itself
  pub open_more : (xs ns : List X) → Distinct (xs ++ ns) → ((n : X) → In n ns → In (flip n) ns → ⊥) → open_count_of (xs ++ ns) + 2 * length (filter (λ n. has same (flip n) xs) ns) ≡ open_count_of xs + length ns
  open_more xs [] d loose = ap (λ l. open_count_of l + 0) (append-nil xs)
  open_more xs (n ∷ ns) d loose =
      let later = open_more (xs ++ n ∷ []) ns (subst Distinct (sym (append_assoc xs (n ∷ []) ns)) d) (λ m i j. loose m (inr i) (inr j)) in
      let whole : open_count_of ((xs ++ n ∷ []) ++ ns) ≡ open_count_of (xs ++ n ∷ ns) = ap open_count_of (append_assoc xs (n ∷ []) ns) in
      let met : length (filter (λ m. has same (flip m) (xs ++ n ∷ [])) ns) ≡ length (filter (λ m. has same (flip m) xs) ns) = ap length (kept_same (λ m. has same (flip m) xs) (λ m. has same (flip m) (xs ++ n ∷ [])) ns
      (λ m i. has_other xs n new apart (flip m) (λ e. loose n (inl refl) (inr (subst (λ w. In w ns) (reverse_of xs n new apart m e) i))))) in
      go (has same (flip n) xs) refl later whole met
    where
      new : In n xs → ⊥
      new i = distinct_apart xs (n ∷ ns) d n i (inl refl)

      apart : flip n ≡ n → ⊥
      apart e = loose n (inl refl) (inl e)

      go : (b : Bool) → has same (flip n) xs ≡ b → open_count_of ((xs ++ n ∷ []) ++ ns) + 2 * length (filter (λ m. has same (flip m) (xs ++ n ∷ [])) ns) ≡ open_count_of (xs ++ n ∷ []) + length ns → open_count_of ((xs ++ n ∷ []) ++ ns) ≡ open_count_of (xs ++ n ∷ ns) → length (filter (λ m. has same (flip m) (xs ++ n ∷ [])) ns) ≡ length (filter (λ m. has same (flip m) xs) ns) → open_count_of (xs ++ n ∷ ns) + 2 * length (cond b (n ∷ filter (λ m. has same (flip m) xs) ns) (filter (λ m. has same (flip m) xs) ns)) ≡ open_count_of xs + suc (length ns)
      go true e later whole met = omega (arith, closes_one xs n new apart (distinct_left xs (n ∷ ns) d) (in_from_has same tells (flip n) xs e))
      go false e later whole met = omega (arith, opens_one xs n new apart (λ i. true≢false (sym (has_from_in same tells (flip n) xs i) ∙ e)))
