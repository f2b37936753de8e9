-- The ring laws of ℤ that `lib.IntN` does not have.
-- An integer z is read as `up z - down z`, so that each law is one of naturals.

use Rattle.std.proofs.Common.{◌≡◌, ℕ, ◌+◌, ◌*◌, ℤ, pos, ◌+ℤ◌, ◌*ℤ◌, neg_ℤ, sym, ap, ◌∙◌, ap₂, mul_assoc, add-mul, mul-add, arith}
use lib.IntN.{*ℤ_comm, *ℤ-one, one, +ℤ_assoc, +ℤ_comm}
use borrow.Author.Differences.{ints, up, down, same_in, sum_is_lem, product_is, neg_is}

pub *ℤ-+ℤ : (a b c : ℤ) → a *ℤ (b +ℤ c) ≡ a *ℤ b +ℤ a *ℤ c
*ℤ-+ℤ a b c =
    let s : ℤ = b +ℤ c in
    let u : up a * (up s + down b + down c) ≡ up a * (down s + up b + up c) = ap (λ (t : ℕ). up a * t) (sum_is_lem b c) in
    let d : down a * (up s + down b + down c) ≡ down a * (down s + up b + up c) = ap (λ (t : ℕ). down a * t) (sum_is_lem b c) in
    same_in _ _ (omega (arith, product_is a s, product_is a b, product_is a c, sum_is_lem (a *ℤ b) (a *ℤ c), simp mul-add at u, simp mul-add at d))

pub +ℤ-*ℤ : (a b c : ℤ) → (a +ℤ b) *ℤ c ≡ a *ℤ c +ℤ b *ℤ c
+ℤ-*ℤ a b c = *ℤ_comm (a +ℤ b) c ∙ *ℤ-+ℤ c a b ∙ ap₂ ◌+ℤ◌ (*ℤ_comm c a) (*ℤ_comm c b)

pub *ℤ_assoc : (a b c : ℤ) → (a *ℤ b) *ℤ c ≡ a *ℤ (b *ℤ c)
*ℤ_assoc a b c =
    same_in _ _ (simp ((product_is (a *ℤ b) c).0, (product_is (a *ℤ b) c).1, (product_is a (b *ℤ c)).0, (product_is a (b *ℤ c)).1, (product_is a b).0, (product_is a b).1, (product_is b c).0, (product_is b c).1, mul-add, add-mul, mul_assoc) (omega arith))

pub one-*ℤ : (a : ℤ) → pos 1 *ℤ a ≡ a
unfolding one
one-*ℤ a = *ℤ_comm (pos 1) a ∙ *ℤ-one a

pub neg_ℤ-*ℤ : (a b : ℤ) → neg_ℤ a *ℤ b ≡ neg_ℤ (a *ℤ b)
neg_ℤ-*ℤ a b = same_in _ _ (simp ((product_is (neg_ℤ a) b).0, (product_is (neg_ℤ a) b).1, (neg_is (a *ℤ b)).0, (neg_is (a *ℤ b)).1, (product_is a b).0, (product_is a b).1, (neg_is a).0, (neg_is a).1) (omega arith))

pub interchange : (a b c d : ℤ) → (a +ℤ b) +ℤ (c +ℤ d) ≡ (a +ℤ c) +ℤ (b +ℤ d)
interchange a b c d = omega (arith, ints)

-- the second of two is taken past the first
pub +ℤ_left_comm : (a b c : ℤ) → a +ℤ (b +ℤ c) ≡ b +ℤ (a +ℤ c)
+ℤ_left_comm a b c = sym (+ℤ_assoc a b c) ∙ ap (λ x. x +ℤ c) (+ℤ_comm a b) ∙ +ℤ_assoc b a c

pub *ℤ_left_comm : (a b c : ℤ) → a *ℤ (b *ℤ c) ≡ b *ℤ (a *ℤ c)
*ℤ_left_comm a b c = sym (*ℤ_assoc a b c) ∙ ap (λ x. x *ℤ c) (*ℤ_comm a b) ∙ *ℤ_assoc b a c
