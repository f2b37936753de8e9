-- Laws of `total`.
use Rattle.std.proofs.Common.{◌≡◌, Bool, true, false, cond, List, [], ◌∷◌, ◌++◌, ℤ, pos, ◌+ℤ◌, ◌-ℤ◌, neg_ℤ, filter, sym, refl, ap, ◌∙◌, ap₂}
use lib.IntN.{+ℤ_assoc, +ℤ_idl, neg_ℤ-+ℤ}
use Rattle.solid.specs.Lists.{total}
use Rattle.algebra.proofs.Integers.{interchange}

module _ {X : Type 0} where
  pub total_same : (f g : X → ℤ) → ((x : X) → f x ≡ g x) → (xs : List X) → total f xs ≡ total g xs
  total_same f g e [] = refl
  total_same f g e (x ∷ xs) = ap₂ ◌+ℤ◌ (e x) (total_same f g e xs)

  pub total_zero : (f : X → ℤ) → ((x : X) → f x ≡ pos 0) → (xs : List X) → total f xs ≡ pos 0
  total_zero f e [] = refl
  total_zero f e (x ∷ xs) = ap₂ ◌+ℤ◌ (e x) (total_zero f e xs)

  pub total-append : (f : X → ℤ) (xs ys : List X) → total f (xs ++ ys) ≡ total f xs +ℤ total f ys
  total-append f [] ys = sym (+ℤ_idl (total f ys))
  total-append f (x ∷ xs) ys = ap (λ t. f x +ℤ t) (total-append f xs ys) ∙ sym (+ℤ_assoc (f x) (total f xs) (total f ys))

  pub total-plus : (f g : X → ℤ) (xs : List X) → total (λ x. f x +ℤ g x) xs ≡ total f xs +ℤ total g xs
  total-plus f g [] = refl
  total-plus f g (x ∷ xs) = ap (λ t. f x +ℤ g x +ℤ t) (total-plus f g xs) ∙ interchange (f x) (g x) (total f xs) (total g xs)

  pub total_neg : (f : X → ℤ) (xs : List X) → total (λ x. neg_ℤ (f x)) xs ≡ neg_ℤ (total f xs)
  total_neg f [] = refl
  total_neg f (x ∷ xs) = ap (λ t. neg_ℤ (f x) +ℤ t) (total_neg f xs) ∙ sym (neg_ℤ-+ℤ (f x) (total f xs))

  pub total-minus : (f g : X → ℤ) (xs : List X) → total (λ x. f x -ℤ g x) xs ≡ total f xs -ℤ total g xs
  total-minus f g xs = total-plus f (λ x. neg_ℤ (g x)) xs ∙ ap (λ t. total f xs +ℤ t) (total_neg g xs)

  -- a sum over what a test keeps is a sum over all, with nothing for the others
  pub total_kept : (p : X → Bool) (f : X → ℤ) (xs : List X) → total f (filter p xs) ≡ total (λ x. cond (p x) (f x) (pos 0)) xs
  total_kept p f [] = refl
  total_kept p f (x ∷ xs) =
      elim (p x) as (λ b. total f (cond b (x ∷ filter p xs) (filter p xs)) ≡ cond b (f x) (pos 0) +ℤ total (λ y. cond (p y) (f y) (pos 0)) xs) [
        | true ↦ ap (λ t. f x +ℤ t) (total_kept p f xs)
        | false ↦ total_kept p f xs ∙ sym (+ℤ_idl _)
      ]

-- two sums change places
module _ {X Y : Type 0} (t : X → Y → ℤ) where
  pub totals_swap : (xs : List X) (ys : List Y) → total (λ x. total (t x) ys) xs ≡ total (λ y. total (λ x. t x y) xs) ys
  totals_swap [] ys = sym (total_zero (λ y. pos 0) (λ y. refl) ys)
  totals_swap (x ∷ xs) ys = ap (λ s. total (t x) ys +ℤ s) (totals_swap xs ys) ∙ sym (total-plus (t x) (λ y. total (λ x'. t x' y) xs) ys)
