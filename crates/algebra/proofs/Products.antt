-- Signs and orders of products, for the proofs on segments.
use Rattle.std.proofs.Common.{◌≡◌, ℕ, zero, suc, ◌*◌, ◌<◌, ◌≤◌, ◌⊎◌, [], ◌∷◌, ℤ, pos, negsuc, ◌+ℤ◌, ◌-ℤ◌, ◌*ℤ◌, neg_ℤ, nat_abs, ◌≤ℤ◌, ◌<ℤ◌, sym, refl, ap, ◌∙◌, inl, inr, mul-suc, arith}
use lib.IntN.{*ℤ-zero}
use borrow.Author.Differences.{ints}
use Rattle.std.proofs.lemmas.Int.{by_lt_z}
use Rattle.algebra.proofs.Machine.{abs_mul}
use Rattle.algebra.proofs.Orders.{≤ℤ_antisym, ≤ℤ_difference, mul_mono_left}
use Rattle.algebra.proofs.Ring.{var, con, ◌⊕◌, ◌⊖◌, ◌⊗◌, ⊝, solve}

no_product : (m n : ℕ) → suc m * suc n ≡ 0 → ⊥
no_product m n h = omega (arith, mul-suc (suc m) n)

pub mul_zero : (k x : ℤ) → k *ℤ x ≡ pos 0 → (k ≡ pos 0) ⊎ (x ≡ pos 0)
mul_zero (pos zero) x h = inl refl
mul_zero (pos (suc k)) (pos zero) h = inr refl
mul_zero (pos (suc k)) (pos (suc x)) h = absurd (no_product k x (sym (abs_mul (pos (suc k)) (pos (suc x))) ∙ ap nat_abs h))
mul_zero (pos (suc k)) (negsuc x) h = absurd (no_product k x (sym (abs_mul (pos (suc k)) (negsuc x)) ∙ ap nat_abs h))
mul_zero (negsuc k) (pos zero) h = inr refl
mul_zero (negsuc k) (pos (suc x)) h = absurd (no_product k x (sym (abs_mul (negsuc k) (pos (suc x))) ∙ ap nat_abs h))
mul_zero (negsuc k) (negsuc x) h = absurd (no_product k x (sym (abs_mul (negsuc k) (negsuc x)) ∙ ap nat_abs h))

pub cancel_zero : (k x : ℤ) → pos 0 <ℤ k → k *ℤ x ≡ pos 0 → x ≡ pos 0
cancel_zero k x p h = elim (mul_zero k x h) [ inl e ↦ absurd (omega (arith, ints)) | inr e ↦ e ]

-- orders of numbers with the products named, so that `omega` sees no product
past : (k kb ka kb1 : ℤ) → pos 0 <ℤ k → kb1 ≡ kb +ℤ k → kb1 ≤ℤ ka → ka ≤ℤ kb → ⊥
past k kb ka kb1 p e h l = omega (arith, ints)

next : (a b : ℤ) → b <ℤ a → (b +ℤ pos 1) ≤ℤ a
next a b h = omega (arith, ints)

weaken : (a b : ℤ) → a <ℤ b → a ≤ℤ b
weaken a b h = omega (arith, ints)

pub cancel_le : (k a b : ℤ) → pos 0 <ℤ k → (k *ℤ a) ≤ℤ (k *ℤ b) → a ≤ℤ b
cancel_le k a b p h =
    by_lt_z b a
    (λ l. absurd (past k (k *ℤ b) (k *ℤ a) (k *ℤ (b +ℤ pos 1)) p (solve (k ∷ b ∷ []) (var 0 ⊗ (var 1 ⊕ con (pos 1))) (var 0 ⊗ var 1 ⊕ var 0) tt) (mul_mono_left k (b +ℤ pos 1) a (weaken (pos 0) k p) (next a b l)) h))
    (λ l. l)

pub pos_low : (n : ℕ) → pos 0 ≤ℤ pos n
pos_low n = omega (arith, ints)

pub pos_le : (m n : ℕ) → m ≤ n → pos m ≤ℤ pos n
pos_le m n h = omega (arith, ints)

pub pos_lt : (n : ℕ) → 0 < n → pos 0 <ℤ pos n
pos_lt n h = omega (arith, ints)

pub above_zero : (a : ℤ) → pos 0 ≤ℤ a → (a ≡ pos 0 → ⊥) → pos 0 <ℤ a
above_zero a h n = omega (arith, ints)

-- between x and y, t of d from x on, lies no less than what lies below both
pub mix : (d t x y z : ℤ) → pos 0 ≤ℤ t → t ≤ℤ d → z ≤ℤ x → z ≤ℤ y → (d *ℤ z) ≤ℤ ((d -ℤ t) *ℤ x +ℤ t *ℤ y)
mix d t x y z p q h k =
    sum_le (d *ℤ z) ((d -ℤ t) *ℤ z) (t *ℤ z) ((d -ℤ t) *ℤ x) (t *ℤ y)
    (solve (d ∷ t ∷ z ∷ []) (var 0 ⊗ var 2) ((var 0 ⊖ var 1) ⊗ var 2 ⊕ var 1 ⊗ var 2) tt)
    (mul_mono_left (d -ℤ t) z x (≤ℤ_difference t d q) h)
    (mul_mono_left t z y p k)
  where
    sum_le : (all a b c e : ℤ) → all ≡ a +ℤ b → a ≤ℤ c → b ≤ℤ e → all ≤ℤ (c +ℤ e)
    sum_le all a b c e i h k = omega (arith, ints)

-- where s x is above 0 and s is not below it, x is above 0
pub positive_right : (s x : ℤ) → pos 0 ≤ℤ s → pos 0 <ℤ (s *ℤ x) → pos 0 <ℤ x
positive_right s x p h = by_lt_z (pos 0) x (λ l. l) (λ l. absurd (clash (s *ℤ x) (s *ℤ pos 0) (*ℤ-zero s) h (mul_mono_left s x (pos 0) p l)))
  where
    clash : (a b : ℤ) → b ≡ pos 0 → pos 0 <ℤ a → a ≤ℤ b → ⊥
    clash a b e h k = omega (arith, ints)

-- one factor is not negative, the other below 0, and the product not negative
pub no_factor : (k x : ℤ) → pos 0 ≤ℤ k → x <ℤ pos 0 → pos 0 ≤ℤ (k *ℤ x) → k ≡ pos 0
no_factor k x p h l =
    ≤ℤ_antisym k (pos 0)
    (sign k (k *ℤ x) (k *ℤ negsuc 0) (solve (k ∷ []) (var 0 ⊗ con (negsuc 0)) (⊝ (var 0)) tt) l (mul_mono_left k x (negsuc 0) p (below x h)))
    p
  where
    below : (x : ℤ) → x <ℤ pos 0 → x ≤ℤ negsuc 0
    below x h = omega (arith, ints)

    sign : (k kx minus : ℤ) → minus ≡ neg_ℤ k → pos 0 ≤ℤ kx → kx ≤ℤ minus → k ≤ℤ pos 0
    sign k kx minus e h l = omega (arith, ints)
