-- Edges that stand against each other cancel: the sum of an odd function over edges that do not repeat is its sum over the open ones.
-- Over any type with a test of equality and a reversal, so that nothing of corners or of space is used.
use Rattle.std.proofs.Common.{◌≡◌, Bool, true, false, cond, not, ◌||◌, List, [], ◌∷◌, ℤ, pos, ◌+ℤ◌, neg_ℤ, filter, sym, refl, ap, ◌∙◌, subst, inl, inr, true≢false}
use lib.IntN.{+ℤ_idl, +ℤ_idr, neg_ℤ-neg_ℤ}
use Rattle.solid.specs.Lists.{total, In, Distinct, has}
use Rattle.algebra.proofs.Orders.{zero_from_neg}
use Rattle.solid.proofs.Sums.{total_same, total_neg, total-plus, total_kept, totals_swap}

-- a test of equality
pub record Tells {X : Type 0} (same : X → X → Bool) : Type 0 where
  pub equal : (x y : X) → same x y ≡ true → x ≡ y
  pub itself : (x : X) → same x x ≡ true

module _ {X : Type 0} (same : X → X → Bool) (tells : Tells same) where
  pub in_from_has : (x : X) (xs : List X) → has same x xs ≡ true → In x xs
  in_from_has x [] h = absurd (true≢false (sym h))
  in_from_has x (y ∷ ys) h = go (same x y) refl (in_from_has x ys) h
    where
      go : (b : Bool) → same x y ≡ b → (has same x ys ≡ true → In x ys) → (b || has same x ys) ≡ true → In x (y ∷ ys)
      go true e later h = inl (tells.equal x y e)
      go false e later h = inr (later h)

  pub has_from_in : (x : X) (xs : List X) → In x xs → has same x xs ≡ true
  has_from_in x [] i = absurd i
  has_from_in x (y ∷ ys) (inl e) = ap (λ t. t || has same x ys) (subst (λ t. same x t ≡ true) e (tells.itself x))
  has_from_in x (y ∷ ys) (inr i) = elim (same x y) as (λ b. (b || has same x ys) ≡ true) [ true ↦ refl | false ↦ has_from_in x ys i ]

  pub has_not : (x : X) (xs : List X) → (In x xs → ⊥) → has same x xs ≡ false
  has_not x xs out = go (has same x xs) refl
    where
      go : (b : Bool) → has same x xs ≡ b → b ≡ false
      go true e = absurd (out (in_from_has x xs e))
      go false e = refl

  -- among elements that do not repeat at most one is x
  one_of : (x : X) (g : ℤ) (ys : List X) → Distinct ys → total (λ y. cond (same x y) g (pos 0)) ys ≡ cond (has same x ys) g (pos 0)
  one_of x g [] d = refl
  one_of x g (y ∷ ys) d = ap (λ t. cond (same x y) g (pos 0) +ℤ t) (one_of x g ys d.1) ∙ go (same x y) refl
    where
      go : (b : Bool) → same x y ≡ b → cond b g (pos 0) +ℤ cond (has same x ys) g (pos 0) ≡ cond (b || has same x ys) g (pos 0)
      go true e = ap (λ t. g +ℤ cond t g (pos 0)) (has_not x ys (λ i. d.0 (subst (λ t. In t ys) (tells.equal x y e) i))) ∙ +ℤ_idr g
      go false e = +ℤ_idl (cond (has same x ys) g (pos 0))

  module _ (flip : X → X) (twice : (x : X) → flip (flip x) ≡ x) (f : X → ℤ) (odd : (x : X) → f (flip x) ≡ neg_ℤ (f x)) where
    -- what x gives where y is its reverse
    pair : X → X → ℤ
    pair x y = cond (same (flip x) y) (f x) (pos 0)

    pair_odd : (x y : X) → pair x y ≡ neg_ℤ (pair y x)
    unfolding pair
    pair_odd x y = go (same (flip x) y) (same (flip y) x) refl refl
      where
        back : (a b : X) → same (flip a) b ≡ true → same (flip b) a ≡ true
        back a b e = subst (λ t. same t a ≡ true) (sym (twice a) ∙ ap flip (tells.equal (flip a) b e)) (tells.itself a)

        go : (b c : Bool) → same (flip x) y ≡ b → same (flip y) x ≡ c → cond b (f x) (pos 0) ≡ neg_ℤ (cond c (f y) (pos 0))
        go true true p q = sym (neg_ℤ-neg_ℤ (f x)) ∙ ap neg_ℤ (sym (odd x) ∙ ap f (tells.equal (flip x) y p))
        go true false p q = absurd (true≢false (sym (back x y p) ∙ q))
        go false true p q = absurd (true≢false (sym (back y x q) ∙ p))
        go false false p q = refl

    all_pairs : (xs : List X) → total (λ x. total (pair x) xs) xs ≡ pos 0
    all_pairs xs = zero_from_neg _ (
        totals_swap pair xs xs
        ∙ total_same (λ y. total (λ x. pair x y) xs) (λ y. neg_ℤ (total (pair y) xs)) (λ y. total_same (λ x. pair x y) (λ x. neg_ℤ (pair y x)) (λ x. pair_odd x y) xs ∙ total_neg (pair y) xs) xs
        ∙ total_neg (λ x. total (pair x) xs) xs)

    pub cancel : (xs : List X) → Distinct xs → total f xs ≡ total f (filter (λ x. not (has same (flip x) xs)) xs)
    unfolding pair
    cancel xs d =
        total_same f (λ x. lone x +ℤ met x) split xs
        ∙ total-plus lone met xs
        ∙ ap (λ t. total lone xs +ℤ t) (sym (total_same (λ x. total (pair x) xs) met (λ x. one_of (flip x) (f x) xs d) xs) ∙ all_pairs xs)
        ∙ +ℤ_idr (total lone xs)
        ∙ sym (total_kept (λ x. not (has same (flip x) xs)) f xs)
      where
        lone : X → ℤ
        lone x = cond (not (has same (flip x) xs)) (f x) (pos 0)

        met : X → ℤ
        met x = cond (has same (flip x) xs) (f x) (pos 0)

        split : (x : X) → f x ≡ lone x +ℤ met x
        split x = elim (has same (flip x) xs) as (λ b. f x ≡ cond (not b) (f x) (pos 0) +ℤ cond b (f x) (pos 0)) [ true ↦ sym (+ℤ_idl (f x)) | false ↦ sym (+ℤ_idr (f x)) ]
