-- Segments from a to b and from b to c share b. They share no other point exactly when, seen from b, a and c are not on one line or lie on
-- opposite sides.
use Rattle.std.proofs.Common.{◌≡◌, ◌⊎◌, List, [], ◌∷◌, ℤ, pos, ◌+ℤ◌, ◌-ℤ◌, ◌*ℤ◌, ◌≤ℤ◌, ◌<ℤ◌, sym, ap, ◌∙◌, subst, inl, inr, arith}
use lib.Signed.{≤ℤ_refl}
use borrow.Author.Differences.{ints}
use Rattle.std.proofs.lemmas.Int.{by_lt_z}
use Rattle.algebra.specs.Vector.{V3, null, ◌-ᵛ◌, negᵛ, scale, dot, cross}
use Rattle.algebra.proofs.Ring.{Expr, var, con, ◌⊕◌, ◌⊖◌, ◌⊗◌, solve_from}
use Rattle.algebra.proofs.Vectors.{𝐚, 𝐛, nullᴱ, negᴱ, scaleᴱ, dotᴱ, crossᴱ, V3-path, by_ring, by_ringᵛ}
use Rattle.algebra.proofs.Orders.{≤ℤ_antisym, mul_not_negative, dot_not_negative, dot_zero}
use Rattle.algebra.specs.Segments.{Meets, OnlyCorner}
use Rattle.algebra.proofs.Products.{mul_zero, no_factor, pos_low}
use Rattle.algebra.proofs.Crossings.{Ratio, ratio, Made, made}
use Rattle.algebra.proofs.Parallels.{proportional, same_line}

-- ---- the equation, seen from b: k of d towards a is where t of d towards c is
abbrev towards : Expr
towards = (var 0 ⊖ var 1) ⊗ (var 3 ⊖ var 4)

abbrev here : Expr
here = var 1 ⊗ (var 4 ⊖ var 3)

abbrev there : Expr
there = var 0 ⊗ (var 4 ⊖ var 3) ⊕ var 2 ⊗ var 5

to : (d s t a b v : ℤ) → s *ℤ (b -ℤ a) ≡ d *ℤ (b -ℤ a) +ℤ t *ℤ v → (d -ℤ s) *ℤ (a -ℤ b) ≡ t *ℤ v
to d s t a b v h = solve_from (d ∷ s ∷ t ∷ a ∷ b ∷ v ∷ []) ((con (pos 1), here, there) ∷ []) (h, tt) towards (var 2 ⊗ var 5) tt

fro : (d s t a b v : ℤ) → (d -ℤ s) *ℤ (a -ℤ b) ≡ t *ℤ v → s *ℤ (b -ℤ a) ≡ d *ℤ (b -ℤ a) +ℤ t *ℤ v
fro d s t a b v h = solve_from (d ∷ s ∷ t ∷ a ∷ b ∷ v ∷ []) ((con (pos 1), towards, var 2 ⊗ var 5) ∷ []) (h, tt) here there tt

module _ (d s t : ℤ) (a b v : V3) where
  toᵛ : Ratio (b -ᵛ a) v (b -ᵛ a) d s t → scale (d -ℤ s) (a -ᵛ b) ≡ scale t v
  toᵛ h = V3-path (to d s t a.x b.x v.x (ap (λ p. p.x) h)) (to d s t a.y b.y v.y (ap (λ p. p.y) h)) (to d s t a.z b.z v.z (ap (λ p. p.z) h))

  froᵛ : scale (d -ℤ s) (a -ᵛ b) ≡ scale t v → Ratio (b -ᵛ a) v (b -ᵛ a) d s t
  froᵛ h = V3-path (fro d s t a.x b.x v.x (ap (λ p. p.x) h)) (fro d s t a.y b.y v.y (ap (λ p. p.y) h)) (fro d s t a.z b.z v.z (ap (λ p. p.z) h))

-- ---- its consequences
scale_zero : (k : ℤ) (n : V3) → (n ≡ null → ⊥) → scale k n ≡ null → k ≡ pos 0
scale_zero k n apart h =
    elim (mul_zero k n.x (ap (λ p. p.x) h)) [
      | inl e ↦ e
      | inr x0 ↦ elim (mul_zero k n.y (ap (λ p. p.y) h)) [
        | inl e ↦ e
        | inr y0 ↦ elim (mul_zero k n.z (ap (λ p. p.z) h)) [ inl e ↦ e | inr z0 ↦ absurd (apart (V3-path x0 y0 z0)) ]
      ]
    ]

module _ (u v : V3) (k t : ℤ) (h : scale k u ≡ scale t v) where
  abbrev pub vs : List V3
  vs = u ∷ v ∷ record { x = k; y = t; z = pos 0 } ∷ []

  by_u : k *ℤ dot u u ≡ t *ℤ dot u v
  by_u = by_ring vs (var 6 ⊗ dotᴱ 𝐚 𝐚) (dotᴱ 𝐚 (scaleᴱ (var 6) 𝐚)) tt ∙ ap (dot u) h ∙ by_ring vs (dotᴱ 𝐚 (scaleᴱ (var 7) 𝐛)) (var 7 ⊗ dotᴱ 𝐚 𝐛) tt

  by_v : k *ℤ dot u v ≡ t *ℤ dot v v
  by_v = by_ring vs (var 6 ⊗ dotᴱ 𝐚 𝐛) (dotᴱ 𝐛 (scaleᴱ (var 6) 𝐚)) tt ∙ ap (dot v) h ∙ by_ring vs (dotᴱ 𝐛 (scaleᴱ (var 7) 𝐛)) (var 7 ⊗ dotᴱ 𝐛 𝐛) tt

  across_u : scale t (cross u v) ≡ null
  across_u = by_ringᵛ vs (scaleᴱ (var 7) (crossᴱ 𝐚 𝐛)) (crossᴱ 𝐚 (scaleᴱ (var 7) 𝐛)) tt ∙ ap (cross u) (sym h) ∙ by_ringᵛ vs (crossᴱ 𝐚 (scaleᴱ (var 6) 𝐚)) nullᴱ tt

  across_v : scale k (cross u v) ≡ null
  across_v = by_ringᵛ vs (scaleᴱ (var 6) (crossᴱ 𝐚 𝐛)) (crossᴱ (scaleᴱ (var 6) 𝐚) 𝐛) tt ∙ ap (λ p. cross p v) h ∙ by_ringᵛ vs (crossᴱ (scaleᴱ (var 7) 𝐛) 𝐛) nullᴱ tt

  -- not on one line, or on opposite sides
  bent : (cross u v ≡ null → ⊥) → (k ≡ pos 0) × (t ≡ pos 0)
  bent apart = (scale_zero k (cross u v) apart across_v, scale_zero t (cross u v) apart across_u)

  opposite : pos 0 ≤ℤ k → pos 0 ≤ℤ t → dot u v <ℤ pos 0 → (k ≡ pos 0) × (t ≡ pos 0)
  opposite p q l = (
    no_factor k (dot u v) p l (subst (λ x. pos 0 ≤ℤ x) (sym by_v) (mul_not_negative t (dot v v) q (dot_not_negative v))),
    no_factor t (dot u v) q l (subst (λ x. pos 0 ≤ℤ x) by_u (mul_not_negative k (dot u u) p (dot_not_negative u))),
  )

-- ---- both directions
module _ (a b c : V3) where
  only_from : (m : Meets a b b c) → (pos m.d -ℤ pos m.s ≡ pos 0) × (pos m.t ≡ pos 0) → (m.s ≡ m.d) × (m.t ≡ 0)
  only_from m h = (omega (arith, ints, h.0), omega (arith, ints, h.1))

  seen : (m : Meets a b b c) → scale (pos m.d -ℤ pos m.s) (a -ᵛ b) ≡ scale (pos m.t) (c -ᵛ b)
  seen m = toᵛ (pos m.d) (pos m.s) (pos m.t) a b (c -ᵛ b) (ratio a b b c m)

  pub only_bent : (cross (a -ᵛ b) (c -ᵛ b) ≡ null → ⊥) → OnlyCorner a b c
  only_bent apart m = only_from m (bent (a -ᵛ b) (c -ᵛ b) (pos m.d -ℤ pos m.s) (pos m.t) (seen m) apart)

  pub only_opposite : dot (a -ᵛ b) (c -ᵛ b) <ℤ pos 0 → OnlyCorner a b c
  only_opposite l m = only_from m (opposite (a -ᵛ b) (c -ᵛ b) (pos m.d -ℤ pos m.s) (pos m.t) (seen m) (omega (arith, ints, m.first)) (pos_low m.t) l)

  -- another point of both
  other : (d s t : ℤ) → pos 0 <ℤ d → pos 0 ≤ℤ s → s ≤ℤ d → pos 0 ≤ℤ t → t ≤ℤ d → scale (d -ℤ s) (a -ᵛ b) ≡ scale t (c -ᵛ b) → ((s ≡ d) × (t ≡ pos 0) → ⊥) → OnlyCorner a b c → ⊥
  other d s t p q r q' r' h differs only = at (made a b b c d s t p q r q' r' (froᵛ d s t a b (c -ᵛ b) h))
    where
      at : Made a b b c d s t → ⊥
      at m =
          let e = only m.shared in
          differs (sym m.s_is ∙ ap pos e.0 ∙ m.d_is, sym m.t_is ∙ ap pos e.1)

  zero : (v : V3) → scale (pos 0) v ≡ null
  zero v = by_ringᵛ (v ∷ []) (scaleᴱ (con (pos 0)) 𝐚) nullᴱ tt

  one : pos 0 <ℤ pos 1
  one = record { lt = tt }

  up : pos 0 ≤ℤ pos 1
  up = record { le = tt }

  pub not_only : cross (a -ᵛ b) (c -ᵛ b) ≡ null → pos 0 ≤ℤ dot (a -ᵛ b) (c -ᵛ b) → OnlyCorner a b c → ⊥
  not_only line side = by_lt_z (pos 0) uv same_side (λ l. degenerate (mul_zero uu (dot v v) (sym (same_line u v line') ∙ ap (λ k. k *ℤ k) (≤ℤ_antisym uv (pos 0) l side))))
    where
      u : V3
      u = a -ᵛ b

      v : V3
      v = c -ᵛ b

      uu : ℤ
      uu = dot u u

      uv : ℤ
      uv = dot u v

      line' : cross v u ≡ null
      line' = by_ringᵛ (u ∷ v ∷ []) (crossᴱ 𝐛 𝐚) (negᴱ (crossᴱ 𝐚 𝐛)) tt ∙ ap negᵛ line

      sum_above : (x y : ℤ) → pos 0 ≤ℤ x → pos 0 <ℤ y → pos 0 <ℤ (x +ℤ y)
      sum_above x y h k = omega (arith, ints)

      sum_le : (x y : ℤ) → pos 0 <ℤ y → x ≤ℤ (x +ℤ y)
      sum_le x y h = omega (arith, ints)

      apart : (x y : ℤ) → pos 0 <ℤ y → x ≡ x +ℤ y → ⊥
      apart x y h e = omega (arith, ints)

      -- as far towards c as towards a
      same_side : pos 0 <ℤ uv → OnlyCorner a b c → ⊥
      same_side l =
          other (uu +ℤ uv) uu uu (sum_above uu uv (dot_not_negative u) l) (dot_not_negative u) (sum_le uu uv l) (dot_not_negative u) (sum_le uu uv l)
          (by_ringᵛ (u ∷ v ∷ []) (scaleᴱ (dotᴱ 𝐚 𝐚 ⊕ dotᴱ 𝐚 𝐛 ⊖ dotᴱ 𝐚 𝐚) 𝐚) (scaleᴱ (dotᴱ 𝐛 𝐚) 𝐚) tt ∙ proportional v u line')
          (λ e. apart uu uv l e.0)

      -- a segment of one point
      degenerate : (uu ≡ pos 0) ⊎ (dot v v ≡ pos 0) → OnlyCorner a b c → ⊥
      degenerate (inl h) = other (pos 1) (pos 0) (pos 0) one (≤ℤ_refl (pos 0)) up (≤ℤ_refl (pos 0)) up (ap (scale (pos 1)) (dot_zero u h) ∙ sym (zero v)) (λ e. clash e.0)
        where
          clash : pos 0 ≡ pos 1 → ⊥
          clash e = omega (arith, ints)
      degenerate (inr h) = other (pos 1) (pos 1) (pos 1) one up (≤ℤ_refl (pos 1)) up (≤ℤ_refl (pos 1)) (zero u ∙ sym (ap (scale (pos 1)) (dot_zero v h))) (λ e. clash e.1)
        where
          clash : pos 1 ≡ pos 0 → ⊥
          clash e = omega (arith, ints)
