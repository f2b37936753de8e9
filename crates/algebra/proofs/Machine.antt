-- What code computes of signed numbers, by the expressions of `Ring`: no step overflows, and the result is the expression's value.
-- A proof gives a bound for each variable, and the bound of each step is computed, so that the answer to a goal is one line.
--     raw w ρ e       what the code has where it computes e at the width w, before it stores it: each operand is stored in w bits and read again,
--                     and `-e` is 0 - e
--     most βs e       a bound of |e| from those of the variables, βs
--     roomy w βs e    the test that the bound of e, and of each part of it, is below 2 ^ (bits - 1)
--     fits            no overflow, for a goal such as `overflow_mul-result` or `overflow_sub-result`
--     stored          the value, for `returns`
--     read_back       the value of an operand of another width, among others
--     abs_fits        a value within a bound fits

use Rattle.std.proofs.Common.{◌≡◌, ℕ, zero, suc, ◌+◌, ◌*◌, ◌^◌, ◌≤◌, Bool, ◌&&◌, T, ltb, leb, List, [], ◌∷◌, get_or, ℤ, pos, negsuc, ◌+ℤ◌, ◌-ℤ◌, ◌*ℤ◌, neg_ℤ, nat_abs, ◌≤ℤ◌, sym, refl, ap, ◌∙◌, subst, ap₂, zero-le, le_trans, le_refl, mul-le-mul, arith, ltb→lt, leb→le, to_z-of_z, SFits, to_z, of_z}
use lib.IntN.{+ℤ_idl}
use lib.Signed.{mag}
use lib.Ieee.Fits.{and_l, and_r}
use borrow.Author.Differences.{ints}
use mir.Syntax.{Width}
use mir.Val.{hbits}
use Rattle.algebra.specs.Vector.{Near}
use Rattle.algebra.proofs.Ring.{Expr, var, con, ◌⊕◌, ◌⊖◌, ◌⊗◌, ⊝, eval}

abbrev pub raw : Width → List ℤ → Expr → ℤ
raw w ρ (var i) = get_or ρ i (pos 0)
raw w ρ (con k) = k
raw w ρ (e ⊕ f) = to_z w (of_z w (raw w ρ e)) +ℤ to_z w (of_z w (raw w ρ f))
raw w ρ (e ⊖ f) = to_z w (of_z w (raw w ρ e)) -ℤ to_z w (of_z w (raw w ρ f))
raw w ρ (e ⊗ f) = to_z w (of_z w (raw w ρ e)) *ℤ to_z w (of_z w (raw w ρ f))
raw w ρ (⊝ e) = pos 0 -ℤ to_z w (of_z w (raw w ρ e))

abbrev pub most : List ℕ → Expr → ℕ
most βs (var i) = get_or βs i 0
most βs (con k) = nat_abs k
most βs (e ⊕ f) = most βs e + most βs f
most βs (e ⊖ f) = most βs e + most βs f
most βs (e ⊗ f) = most βs e * most βs f
most βs (⊝ e) = most βs e

abbrev pub roomy : Width → List ℕ → Expr → Bool
roomy w βs (var i) = ltb (get_or βs i 0) (2 ^ hbits w)
roomy w βs (con k) = ltb (nat_abs k) (2 ^ hbits w)
roomy w βs (e ⊕ f) = (roomy w βs e && roomy w βs f) && ltb (most βs e + most βs f) (2 ^ hbits w)
roomy w βs (e ⊖ f) = (roomy w βs e && roomy w βs f) && ltb (most βs e + most βs f) (2 ^ hbits w)
roomy w βs (e ⊗ f) = (roomy w βs e && roomy w βs f) && ltb (most βs e * most βs f) (2 ^ hbits w)
roomy w βs (⊝ e) = roomy w βs e

-- the variables keep to their bounds: `h ∷ᵇ k ∷ᵇ done`, with h : Near 100 a and k : Near 7 b
infixr 5 ◌∷ᵇ◌
pub data Bounded : List ℤ → List ℕ → Type 0 where
  done : Bounded [] []
  ◌∷ᵇ◌ : {k : ℤ} {β : ℕ} {ρ : List ℤ} {βs : List ℕ} → Near β k → Bounded ρ βs → Bounded (k ∷ ρ) (β ∷ βs)

-- ---- the bound of each operation
pub near : (n : ℕ) (k : ℤ) → neg_ℤ (pos n) ≤ℤ k → k ≤ℤ pos n → Near n k
near n k l h = record { abs = omega (arith, ints) }

-- a wider bound: `near_more tt h`
pub near_more : {m n : ℕ} {k : ℤ} → T (leb m n) → Near m k → Near n k
near_more {m} {n} t h = record { abs = le_trans h.abs (leb→le m n t) }

abs_add : (a b : ℤ) → nat_abs (a +ℤ b) ≤ nat_abs a + nat_abs b
abs_add a b = omega (arith, ints)

abs_sub : (a b : ℤ) → nat_abs (a -ℤ b) ≤ nat_abs a + nat_abs b
abs_sub a b = omega (arith, ints)

abs_neg : (a : ℤ) → nat_abs (neg_ℤ a) ≡ nat_abs a
abs_neg (pos zero) = refl
abs_neg (pos (suc n)) = refl
abs_neg (negsuc n) = refl

pub abs_mul : (a b : ℤ) → nat_abs (a *ℤ b) ≡ nat_abs a * nat_abs b
abs_mul (pos a) (pos b) = refl
abs_mul (pos a) (negsuc b) = abs_neg (pos (a * suc b))
abs_mul (negsuc a) (pos b) = abs_neg (pos (suc a * b))
abs_mul (negsuc a) (negsuc b) = refl

mag_le : (z : ℤ) → mag z ≤ nat_abs z
mag_le (pos n) = omega arith
mag_le (negsuc n) = omega arith

pub abs_fits : (w : Width) (z : ℤ) (n : ℕ) → nat_abs z ≤ n → T (ltb n (2 ^ hbits w)) → SFits w z
abs_fits w z n h t = record { sfits = omega (arith, mag_le z, ltb→lt n (2 ^ hbits w) t) }

variable_within : {ρ : List ℤ} {βs : List ℕ} → Bounded ρ βs → (i : ℕ) → nat_abs (get_or ρ i (pos 0)) ≤ get_or βs i 0
variable_within done i = zero-le
variable_within (h ∷ᵇ b) zero = h.abs
variable_within (h ∷ᵇ b) (suc i) = variable_within b i

-- the parts of a step have room, and so has the step
module _ (w : Width) (βs : List ℕ) (e f : Expr) (n : ℕ) (t : T ((roomy w βs e && roomy w βs f) && ltb n (2 ^ hbits w))) where
  left : T (roomy w βs e)
  left = and_l (roomy w βs e) (roomy w βs f) (and_l (roomy w βs e && roomy w βs f) (ltb n (2 ^ hbits w)) t)

  right : T (roomy w βs f)
  right = and_r (roomy w βs e) (roomy w βs f) (and_l (roomy w βs e && roomy w βs f) (ltb n (2 ^ hbits w)) t)

  here : T (ltb n (2 ^ hbits w))
  here = and_r (roomy w βs e && roomy w βs f) (ltb n (2 ^ hbits w)) t

room : (w : Width) (βs : List ℕ) (e : Expr) → T (roomy w βs e) → T (ltb (most βs e) (2 ^ hbits w))
room w βs (var i) t = t
room w βs (con k) t = t
room w βs (e ⊕ f) t = here w βs e f (most βs e + most βs f) t
room w βs (e ⊖ f) t = here w βs e f (most βs e + most βs f) t
room w βs (e ⊗ f) t = here w βs e f (most βs e * most βs f) t
room w βs (⊝ e) t = room w βs e t

-- ---- the value and its bound
module _ {ρ : List ℤ} {βs : List ℕ} (bounded : Bounded ρ βs) where
  pub within : (e : Expr) → nat_abs (eval ρ e) ≤ most βs e
  within (var i) = variable_within bounded i
  within (con k) = le_refl (nat_abs k)
  within (e ⊕ f) = omega (arith, abs_add (eval ρ e) (eval ρ f), within e, within f)
  within (e ⊖ f) = omega (arith, abs_sub (eval ρ e) (eval ρ f), within e, within f)
  within (e ⊗ f) = subst (λ (n : ℕ). n ≤ most βs e * most βs f) (sym (abs_mul (eval ρ e) (eval ρ f))) (mul-le-mul (within e) (within f))
  within (⊝ e) = subst (λ (n : ℕ). n ≤ most βs e) (sym (abs_neg (eval ρ e))) (within e)

module _ (w : Width) {ρ : List ℤ} {βs : List ℕ} (bounded : Bounded ρ βs) where
  value_fits : (e : Expr) → T (roomy w βs e) → SFits w (eval ρ e)
  value_fits e t = abs_fits w (eval ρ e) (most βs e) (within bounded e) (room w βs e t)

  -- what is stored is read again
  again : (e : Expr) → T (roomy w βs e) → raw w ρ e ≡ eval ρ e → to_z w (of_z w (raw w ρ e)) ≡ eval ρ e
  again e t h = ap (λ (k : ℤ). to_z w (of_z w k)) h ∙ to_z-of_z (value_fits e t)

  raw_is : (e : Expr) → T (roomy w βs e) → raw w ρ e ≡ eval ρ e
  raw_is (var i) t = refl
  raw_is (con k) t = refl
  raw_is (e ⊕ f) t =
      let l : T (roomy w βs e) = left w βs e f (most βs e + most βs f) t in
      let r : T (roomy w βs f) = right w βs e f (most βs e + most βs f) t in
      ap₂ ◌+ℤ◌ (again e l (raw_is e l)) (again f r (raw_is f r))
  raw_is (e ⊖ f) t =
      let l : T (roomy w βs e) = left w βs e f (most βs e + most βs f) t in
      let r : T (roomy w βs f) = right w βs e f (most βs e + most βs f) t in
      ap₂ ◌-ℤ◌ (again e l (raw_is e l)) (again f r (raw_is f r))
  raw_is (e ⊗ f) t =
      let l : T (roomy w βs e) = left w βs e f (most βs e * most βs f) t in
      let r : T (roomy w βs f) = right w βs e f (most βs e * most βs f) t in
      ap₂ ◌*ℤ◌ (again e l (raw_is e l)) (again f r (raw_is f r))
  raw_is (⊝ e) t = ap (λ k. pos 0 -ℤ k) (again e t (raw_is e t)) ∙ +ℤ_idl (neg_ℤ (eval ρ e))

  pub fits : (e : Expr) → T (roomy w βs e) → SFits w (raw w ρ e)
  fits e t = subst (SFits w) (sym (raw_is e t)) (value_fits e t)

  pub stored : (e : Expr) → T (roomy w βs e) → to_z w (of_z w (raw w ρ e)) ≡ eval ρ e
  stored e t = again e t (raw_is e t)

-- ---- one operand of another width u, which the code casts: as a variable it has the value `to_z u (of_z u k)`
pub read_back : (u : Width) {β : ℕ} {k : ℤ} → T (ltb β (2 ^ hbits u)) → Near β k → to_z u (of_z u k) ≡ k
read_back u {β} {k} t h = to_z-of_z (abs_fits u k β h.abs t)
