-- The order of ℤ and products: squares, factors that are not negative, and what they say of dot products.
-- An order is carried to a difference that is not negative, which the ring normaliser then rewrites.
-- `◌≤ℤ◌` binds more tightly than the operations, so a sum or a product beside it stands in parentheses.
use Rattle.std.proofs.Common.{◌≡◌, zero, suc, ◌*◌, [], ◌∷◌, ℤ, pos, negsuc, ◌+ℤ◌, ◌-ℤ◌, ◌*ℤ◌, neg_ℤ, nat_abs, ◌≤ℤ◌, refl, ap, subst, zero-le, mul-suc, arith, le→leb}
use borrow.Author.Differences.{ints}
use Rattle.algebra.specs.Vector.{V3, null, dot}
use Rattle.algebra.proofs.Ring.{var, ◌⊖◌, ◌⊗◌, solve}
use Rattle.algebra.proofs.Vectors.{V3-path}

-- ---- the order
pub ≤ℤ_antisym : (a b : ℤ) → a ≤ℤ b → b ≤ℤ a → a ≡ b
≤ℤ_antisym a b h k = omega (arith, ints)

pub ≤ℤ_from_difference : (a b : ℤ) → pos 0 ≤ℤ (b -ℤ a) → a ≤ℤ b
≤ℤ_from_difference a b h = omega (arith, ints)

pub ≤ℤ_difference : (a b : ℤ) → a ≤ℤ b → pos 0 ≤ℤ (b -ℤ a)
≤ℤ_difference a b h = omega (arith, ints)

pub add_not_negative : (a b : ℤ) → pos 0 ≤ℤ a → pos 0 ≤ℤ b → pos 0 ≤ℤ (a +ℤ b)
add_not_negative a b h k = omega (arith, ints)

pub zero_from_neg : (a : ℤ) → a ≡ neg_ℤ a → a ≡ pos 0
zero_from_neg a h = omega (arith, ints)

pub equal_from_difference : (a b : ℤ) → a -ℤ b ≡ pos 0 → a ≡ b
equal_from_difference a b h = omega (arith, ints)

-- ---- products
pub mul_not_negative : (a b : ℤ) → pos 0 ≤ℤ a → pos 0 ≤ℤ b → pos 0 ≤ℤ (a *ℤ b)
mul_not_negative (pos a) (pos b) h k = record { le = le→leb 0 (a * b) zero-le }
mul_not_negative (pos a) (negsuc b) h k = absurd k.le
mul_not_negative (negsuc a) b h k = absurd h.le

pub square_not_negative : (a : ℤ) → pos 0 ≤ℤ (a *ℤ a)
square_not_negative (pos a) = record { le = le→leb 0 (a * a) zero-le }
square_not_negative (negsuc a) = record { le = le→leb 0 (suc a * suc a) zero-le }

pub square_zero : (a : ℤ) → a *ℤ a ≡ pos 0 → a ≡ pos 0
square_zero (pos zero) h = refl
square_zero (pos (suc a)) h = absurd (omega (arith, mul-suc (suc a) a, ap nat_abs h))
square_zero (negsuc a) h = absurd (omega (arith, mul-suc (suc a) a, ap nat_abs h))

pub mul_mono_left : (k a b : ℤ) → pos 0 ≤ℤ k → a ≤ℤ b → (k *ℤ a) ≤ℤ (k *ℤ b)
mul_mono_left k a b h l =
    ≤ℤ_from_difference (k *ℤ a) (k *ℤ b)
    (subst (λ d. pos 0 ≤ℤ d) (solve (k ∷ a ∷ b ∷ []) (var 0 ⊗ (var 2 ⊖ var 1)) (var 0 ⊗ var 2 ⊖ var 0 ⊗ var 1) tt)
    (mul_not_negative k (b -ℤ a) h (≤ℤ_difference a b l)))

pub mul_mono_right : (k a b : ℤ) → pos 0 ≤ℤ k → a ≤ℤ b → (a *ℤ k) ≤ℤ (b *ℤ k)
mul_mono_right k a b h l =
    ≤ℤ_from_difference (a *ℤ k) (b *ℤ k)
    (subst (λ d. pos 0 ≤ℤ d) (solve (k ∷ a ∷ b ∷ []) (var 0 ⊗ (var 2 ⊖ var 1)) (var 2 ⊗ var 0 ⊖ var 1 ⊗ var 0) tt)
    (mul_not_negative k (b -ℤ a) h (≤ℤ_difference a b l)))

-- ---- dot products
pub dot_not_negative : (v : V3) → pos 0 ≤ℤ dot v v
dot_not_negative v =
    add_not_negative (v.x *ℤ v.x +ℤ v.y *ℤ v.y) (v.z *ℤ v.z)
    (add_not_negative (v.x *ℤ v.x) (v.y *ℤ v.y) (square_not_negative v.x) (square_not_negative v.y))
    (square_not_negative v.z)

-- three numbers that are not negative, with the sum 0
sum_zero : (a b c : ℤ) → pos 0 ≤ℤ a → pos 0 ≤ℤ b → pos 0 ≤ℤ c → a +ℤ b +ℤ c ≡ pos 0 → (a ≡ pos 0) × (b ≡ pos 0) × (c ≡ pos 0)
sum_zero a b c p q r h = (omega (arith, ints), omega (arith, ints), omega (arith, ints))

pub dot_zero : (v : V3) → dot v v ≡ pos 0 → v ≡ null
dot_zero v h =
    let s : (v.x *ℤ v.x ≡ pos 0) × (v.y *ℤ v.y ≡ pos 0) × (v.z *ℤ v.z ≡ pos 0) = sum_zero (v.x *ℤ v.x) (v.y *ℤ v.y) (v.z *ℤ v.z) (square_not_negative v.x) (square_not_negative v.y) (square_not_negative v.z) h in
    V3-path (square_zero v.x s.0) (square_zero v.y s.1) (square_zero v.z s.2)
