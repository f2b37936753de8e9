-- Two parallel segments share a point exactly when an end of one lies on the other. A segment of one point is parallel to any.

use Rattle.std.proofs.Common.{◌≡◌, List, [], ◌∷◌, ◌++◌, ℤ, pos, ◌+ℤ◌, ◌-ℤ◌, ◌*ℤ◌, ◌≤ℤ◌, ◌<ℤ◌, sym, ap, ◌∙◌, subst, arith}
use lib.IntN.{*ℤ-zero}
use lib.Signed.{≤ℤ_refl}
use borrow.Author.Differences.{ints}
use Rattle.std.proofs.lemmas.Int.{by_lt_z}
use Rattle.algebra.specs.Vector.{V3, null, ◌+ᵛ◌, ◌-ᵛ◌, negᵛ, scale, dot, cross}
use Rattle.algebra.proofs.Ring.{Expr, var, con, ◌⊕◌, ◌⊖◌, ◌⊗◌, eval, Same, combined, solve, solve_from}
use Rattle.algebra.proofs.Vectors.{E3, 𝐚, 𝐛, 𝐜, 𝐝, nullᴱ, ◌+ᴱ◌, ◌-ᴱ◌, negᴱ, scaleᴱ, dotᴱ, crossᴱ, V3-path, by_ring, by_ringᵛ}
use Rattle.algebra.proofs.Orders.{mul_mono_right, dot_not_negative, dot_zero, square_zero}
use Rattle.algebra.specs.Segments.{Meets, On, EndOn, first_on, third_on, fourth_on}
use Rattle.algebra.proofs.Products.{cancel_le, cancel_zero, pos_low, pos_le, pos_lt, above_zero, mix, positive_right}
use Rattle.algebra.proofs.Crossings.{Ratio, ratio, meets, δ, σ, τ, 𝐧, sums, values, times}

-- ---- a point that lies on a segment divides it
-- s of d along the way from a to b ends at p
pub record Divides (p a b : V3) : Type 0 where
  pub d : ℤ
  pub s : ℤ
  pub whole : pos 0 <ℤ d
  pub low : pos 0 ≤ℤ s
  pub high : s ≤ℤ d
  pub point : scale s (b -ᵛ a) ≡ scale d (p -ᵛ a)

-- f × u = 0 makes (f · u) u and (u · u) f equal: their difference is (f × u) × u
pub proportional : (f u : V3) → cross f u ≡ null → scale (dot f u) u ≡ scale (dot u u) f
proportional f u h =
    by_ringᵛ (f ∷ u ∷ []) (scaleᴱ (dotᴱ 𝐚 𝐛) 𝐛) (scaleᴱ (dotᴱ 𝐛 𝐛) 𝐚 +ᴱ crossᴱ (crossᴱ 𝐚 𝐛) 𝐛) tt
    ∙ ap (λ n. scale (dot u u) f +ᵛ cross n u) h
    ∙ by_ringᵛ (f ∷ u ∷ []) (scaleᴱ (dotᴱ 𝐛 𝐛) 𝐚 +ᴱ crossᴱ nullᴱ 𝐛) (scaleᴱ (dotᴱ 𝐛 𝐛) 𝐚) tt

module _ (p a b : V3) (on : On p a b) where
  abbrev f : V3
  f = p -ᵛ a

  abbrev g : V3
  g = p -ᵛ b

  abbrev u : V3
  u = b -ᵛ a

  on_line : cross f u ≡ null
  on_line = by_ringᵛ (p ∷ a ∷ b ∷ []) (crossᴱ (𝐚 -ᴱ 𝐛) (𝐜 -ᴱ 𝐛)) (negᴱ (crossᴱ (𝐚 -ᴱ 𝐛) (𝐚 -ᴱ 𝐜))) tt ∙ ap negᵛ on.line

  from_a : dot f u ≡ dot f f -ℤ dot f g
  from_a = by_ring (p ∷ a ∷ b ∷ []) (dotᴱ (𝐚 -ᴱ 𝐛) (𝐜 -ᴱ 𝐛)) (dotᴱ (𝐚 -ᴱ 𝐛) (𝐚 -ᴱ 𝐛) ⊖ dotᴱ (𝐚 -ᴱ 𝐛) (𝐚 -ᴱ 𝐜)) tt

  from_b : dot u u -ℤ dot f u ≡ dot g g -ℤ dot f g
  from_b = by_ring (p ∷ a ∷ b ∷ []) (dotᴱ (𝐜 -ᴱ 𝐛) (𝐜 -ᴱ 𝐛) ⊖ dotᴱ (𝐚 -ᴱ 𝐛) (𝐜 -ᴱ 𝐛)) (dotᴱ (𝐚 -ᴱ 𝐜) (𝐚 -ᴱ 𝐜) ⊖ dotᴱ (𝐚 -ᴱ 𝐛) (𝐚 -ᴱ 𝐜)) tt

  divides_long : pos 0 <ℤ dot u u → Divides p a b
  divides_long above = record {
    d = dot u u;
    s = dot f u;
    whole = above;
    low = low (dot f u) (dot f f) (dot f g) from_a (dot_not_negative f) on.between;
    high = high (dot u u) (dot f u) (dot g g) (dot f g) from_b (dot_not_negative g) on.between;
    point = proportional f u on_line;
  }
    where
      low : (fu ff fg : ℤ) → fu ≡ ff -ℤ fg → pos 0 ≤ℤ ff → fg ≤ℤ pos 0 → pos 0 ≤ℤ fu
      low fu ff fg e h k = omega (arith, ints)

      high : (uu fu gg fg : ℤ) → uu -ℤ fu ≡ gg -ℤ fg → pos 0 ≤ℤ gg → fg ≤ℤ pos 0 → fu ≤ℤ uu
      high uu fu gg fg e h k = omega (arith, ints)

  -- the segment is one point
  divides_short : u ≡ null → Divides p a b
  divides_short none = record {
    d = pos 1;
    s = pos 0;
    whole = record { lt = tt };
    low = record { le = tt };
    high = record { le = tt };
    point = by_ringᵛ (u ∷ []) (scaleᴱ (con (pos 0)) 𝐚) nullᴱ tt ∙ sym (ap (scale (pos 1)) at_a);
  }
    where
      both : (fu ff fg : ℤ) → fu ≡ ff -ℤ fg → fu ≡ pos 0 → pos 0 ≤ℤ ff → fg ≤ℤ pos 0 → ff ≡ pos 0
      both fu ff fg e z h k = omega (arith, ints)

      at_a : f ≡ null
      at_a = dot_zero f (both (dot f u) (dot f f) (dot f g) from_a (ap (dot f) none ∙ by_ring (f ∷ []) (dotᴱ 𝐚 nullᴱ) (con (pos 0)) tt) (dot_not_negative f) on.between)

  pub divides : Divides p a b
  divides = by_lt_z (pos 0) (dot u u) divides_long (λ l. divides_short (dot_zero u (zero_of (dot u u) l (dot_not_negative u))))
    where
      zero_of : (x : ℤ) → x ≤ℤ pos 0 → pos 0 ≤ℤ x → x ≡ pos 0
      zero_of x h k = omega (arith, ints)

-- an end on the other segment is a shared point; a number stands among the vectors of an environment as the first component of one
abbrev number : ℤ → V3
number k = record { x = k; y = pos 0; z = pos 0 }

module _ (a b c e : V3) where
  weaken : (d : ℤ) → pos 0 <ℤ d → pos 0 ≤ℤ d
  weaken d h = omega (arith, ints)

  first_meets : On a c e → Meets a b c e
  first_meets on = at (divides a c e on)
    where
      at : Divides a c e → Meets a b c e
      at h =
          meets a b c e h.d (pos 0) h.s h.whole (≤ℤ_refl (pos 0)) (weaken h.d h.whole) h.low h.high
          (by_ringᵛ (a ∷ b ∷ c ∷ number h.d ∷ []) (scaleᴱ (con (pos 0)) (𝐛 -ᴱ 𝐚)) (scaleᴱ (var 9) (𝐜 -ᴱ 𝐚) +ᴱ scaleᴱ (var 9) (𝐚 -ᴱ 𝐜)) tt
          ∙ ap (λ q. scale h.d (c -ᵛ a) +ᵛ q) (sym h.point))

  third_meets : On c a b → Meets a b c e
  third_meets on = at (divides c a b on)
    where
      at : Divides c a b → Meets a b c e
      at h =
          meets a b c e h.d h.s (pos 0) h.whole h.low h.high (≤ℤ_refl (pos 0)) (weaken h.d h.whole)
          (h.point ∙ by_ringᵛ (a ∷ c ∷ e ∷ number h.d ∷ []) (scaleᴱ (var 9) (𝐛 -ᴱ 𝐚)) (scaleᴱ (var 9) (𝐛 -ᴱ 𝐚) +ᴱ scaleᴱ (con (pos 0)) (𝐜 -ᴱ 𝐛)) tt)

  fourth_meets : On e a b → Meets a b c e
  fourth_meets on = at (divides e a b on)
    where
      at : Divides e a b → Meets a b c e
      at h =
          meets a b c e h.d h.s h.d h.whole h.low h.high (weaken h.d h.whole) (≤ℤ_refl h.d)
          (h.point ∙ by_ringᵛ (a ∷ c ∷ e ∷ number h.d ∷ []) (scaleᴱ (var 9) (𝐜 -ᴱ 𝐚)) (scaleᴱ (var 9) (𝐛 -ᴱ 𝐚) +ᴱ scaleᴱ (var 9) (𝐜 -ᴱ 𝐛)) tt)

-- ---- parallel segments that share a point
-- all three ends cannot lie outside: c and e outside the segment from 0 to u, and 0 outside the one from w to z
module _ (d s t uu ww zz uw uz wz : ℤ) (whole : pos 0 <ℤ d) (s-low : pos 0 ≤ℤ s) (s-high : s ≤ℤ d) (t-low : pos 0 ≤ℤ t) (t-high : t ≤ℤ d) (uu-low : pos 0 ≤ℤ uu) (ww-low : pos 0 ≤ℤ ww) (zz-low : pos 0 ≤ℤ zz) (by-w : (d -ℤ t) *ℤ ww +ℤ t *ℤ wz ≡ s *ℤ uw) (by-z : (d -ℤ t) *ℤ wz +ℤ t *ℤ zz ≡ s *ℤ uz) (by_u : (d -ℤ t) *ℤ uw +ℤ t *ℤ uz ≡ s *ℤ uu) (line-w : uw *ℤ uw ≡ uu *ℤ ww) (line-z : uz *ℤ uz ≡ uu *ℤ zz) where
  -- a point beyond u, seen from 0: its square is not 0, it lies on u's side, and further than u
  ahead : (x m : ℤ) → pos 0 ≤ℤ x → m *ℤ m ≡ uu *ℤ x → m <ℤ x → pos 0 <ℤ x
  ahead x m low line out = above_zero x low (λ z. none (square_zero m (line ∙ ap (λ k. uu *ℤ k) z ∙ *ℤ-zero uu)) z)
    where
      none : m ≡ pos 0 → x ≡ pos 0 → ⊥
      none h k = omega (arith, ints)

  beyond : (x m : ℤ) → m *ℤ m ≡ uu *ℤ x → m <ℤ x → pos 0 <ℤ m → uu <ℤ m
  beyond x m line out side =
      by_lt_z uu m (λ l. l)
      (λ l. absurd (clash (cancel_le m x m side (subst (λ k. (m *ℤ x) ≤ℤ k) (sym line) (mul_mono_right x m uu (weak x m out side) l)))))
    where
      weak : (x m : ℤ) → m <ℤ x → pos 0 <ℤ m → pos 0 ≤ℤ x
      weak x m h k = omega (arith, ints)

      clash : x ≤ℤ m → ⊥
      clash h = omega (arith, ints)

  side : (x y m : ℤ) → (d -ℤ t) *ℤ x +ℤ t *ℤ y ≡ s *ℤ m → pos 0 <ℤ x → pos 0 <ℤ y → pos 0 <ℤ m
  side x y m h px py = positive_right s m s-low (above d (d *ℤ pos 1) ((d -ℤ t) *ℤ x +ℤ t *ℤ y) (s *ℤ m) whole (solve (d ∷ []) (var 0 ⊗ con (pos 1)) (var 0) tt) (mix d t x y (pos 1) t-low t-high (first x px) (first y py)) h)
    where
      first : (x : ℤ) → pos 0 <ℤ x → pos 1 ≤ℤ x
      first x h = omega (arith, ints)

      above : (d d1 sum sm : ℤ) → pos 0 <ℤ d → d1 ≡ d → d1 ≤ℤ sum → sum ≡ sm → pos 0 <ℤ sm
      above d d1 sum sm p e h k = omega (arith, ints)

  not_all_outside : uw <ℤ ww → uz <ℤ zz → pos 0 <ℤ wz → ⊥
  not_all_outside c_out e-out a-out =
      let pw : pos 0 <ℤ uw = side ww wz uw by-w (ahead ww uw ww-low line-w c_out) a-out in
      let pz : pos 0 <ℤ uz = side wz zz uz by-z a-out (ahead zz uz zz-low line-z e-out) in
      too_far (d *ℤ (uu +ℤ pos 1)) (d *ℤ uu) ((d -ℤ t) *ℤ uw +ℤ t *ℤ uz) (s *ℤ uu)
      (solve (d ∷ uu ∷ []) (var 0 ⊗ (var 1 ⊕ con (pos 1))) (var 0 ⊗ var 1 ⊕ var 0) tt)
      (mix d t uw uz (uu +ℤ pos 1) t-low t-high (next uw (beyond ww uw line-w c_out pw)) (next uz (beyond zz uz line-z e-out pz)))
      by_u
      (mul_mono_right uu s d uu-low s-high)
    where
      next : (x : ℤ) → uu <ℤ x → (uu +ℤ pos 1) ≤ℤ x
      next x h = omega (arith, ints)

      too_far : (d1 du sum su : ℤ) → d1 ≡ du +ℤ d → d1 ≤ℤ sum → sum ≡ su → su ≤ℤ du → ⊥
      too_far d1 du sum su e h k l = omega (arith, ints, whole)

-- ---- the lines of both segments are one
abbrev 𝐢 : E3
𝐢 = record { x = con (pos 1); y = con (pos 0); z = con (pos 0) }

abbrev 𝐣 : E3
𝐣 = record { x = con (pos 0); y = con (pos 1); z = con (pos 0) }

abbrev 𝐤 : E3
𝐤 = record { x = con (pos 0); y = con (pos 0); z = con (pos 1) }

-- the three components of the equation times those of m, and those of u × v = 0 times those of k
abbrev sums_line : E3 → E3 → List (Expr × Expr × Expr)
sums_line m k = sums m ++ ((k.x, 𝐧.x, con (pos 0)) ∷ (k.y, 𝐧.y, con (pos 0)) ∷ (k.z, 𝐧.z, con (pos 0)) ∷ [])

pub same_line : (u x : V3) → cross x u ≡ null → dot u x *ℤ dot u x ≡ dot u u *ℤ dot x x
same_line u x h =
    by_ring (u ∷ x ∷ []) (dotᴱ 𝐚 𝐛 ⊗ dotᴱ 𝐚 𝐛) (dotᴱ 𝐚 𝐚 ⊗ dotᴱ 𝐛 𝐛 ⊖ dotᴱ (crossᴱ 𝐛 𝐚) (crossᴱ 𝐛 𝐚)) tt
    ∙ ap (λ n. dot u u *ℤ dot x x -ℤ dot n n) h
    ∙ by_ring (u ∷ x ∷ []) (dotᴱ 𝐚 𝐚 ⊗ dotᴱ 𝐛 𝐛 ⊖ dotᴱ nullᴱ nullᴱ) (dotᴱ 𝐚 𝐚 ⊗ dotᴱ 𝐛 𝐛) tt

module _ (u v w : V3) (d s t : ℤ) (whole : pos 0 <ℤ d) (h : Ratio u v w d s t) (parallel : cross u v ≡ null) where
  on_the_line : (m k : E3) (e : Expr) → Same e (con (pos 0) ⊕ combined (sums_line m k)) → eval (values u v w d s t) e ≡ pos 0
  on_the_line m k e =
      solve_from (values u v w d s t) (sums_line m k)
      (ap (λ p. p.x) h, (ap (λ p. p.y) h, (ap (λ p. p.z) h, (ap (λ p. p.x) parallel, (ap (λ p. p.y) parallel, (ap (λ p. p.z) parallel, tt)))))) e (con (pos 0))

  w_u : cross w u ≡ null
  w_u =
      V3-path (cancel_zero d (cross w u).x whole (on_the_line (crossᴱ 𝐢 𝐚) (scaleᴱ τ 𝐢) (δ ⊗ (crossᴱ 𝐜 𝐚).x) tt))
      (cancel_zero d (cross w u).y whole (on_the_line (crossᴱ 𝐣 𝐚) (scaleᴱ τ 𝐣) (δ ⊗ (crossᴱ 𝐜 𝐚).y) tt))
      (cancel_zero d (cross w u).z whole (on_the_line (crossᴱ 𝐤 𝐚) (scaleᴱ τ 𝐤) (δ ⊗ (crossᴱ 𝐜 𝐚).z) tt))

  w_v : cross w v ≡ null
  w_v =
      V3-path (cancel_zero d (cross w v).x whole (on_the_line (crossᴱ 𝐢 𝐛) (scaleᴱ σ 𝐢) (δ ⊗ (crossᴱ 𝐜 𝐛).x) tt))
      (cancel_zero d (cross w v).y whole (on_the_line (crossᴱ 𝐣 𝐛) (scaleᴱ σ 𝐣) (δ ⊗ (crossᴱ 𝐜 𝐛).y) tt))
      (cancel_zero d (cross w v).z whole (on_the_line (crossᴱ 𝐤 𝐛) (scaleᴱ σ 𝐤) (δ ⊗ (crossᴱ 𝐜 𝐛).z) tt))

  z_u : cross (w +ᵛ v) u ≡ null
  z_u =
      by_ringᵛ (u ∷ v ∷ w ∷ []) (crossᴱ (𝐜 +ᴱ 𝐛) 𝐚) (crossᴱ 𝐜 𝐚 -ᴱ crossᴱ 𝐚 𝐛) tt
      ∙ ap (λ n. n -ᵛ cross u v) w_u ∙ ap (λ n. null -ᵛ n) parallel

  outside : pos 0 ≤ℤ s → s ≤ℤ d → pos 0 ≤ℤ t → t ≤ℤ d → dot u w <ℤ dot w w → dot u (w +ᵛ v) <ℤ dot (w +ᵛ v) (w +ᵛ v) → pos 0 <ℤ dot w (w +ᵛ v) → ⊥
  outside s-low s-high t-low t-high =
      not_all_outside d s t (dot u u) (dot w w) (dot (w +ᵛ v) (w +ᵛ v)) (dot u w) (dot u (w +ᵛ v)) (dot w (w +ᵛ v)) whole s-low s-high t-low t-high (dot_not_negative u) (dot_not_negative w) (dot_not_negative (w +ᵛ v))
      (times u v w d s t h (negᴱ 𝐜) ((δ ⊖ τ) ⊗ dotᴱ 𝐜 𝐜 ⊕ τ ⊗ dotᴱ 𝐜 (𝐜 +ᴱ 𝐛)) (σ ⊗ dotᴱ 𝐚 𝐜) tt)
      (times u v w d s t h (negᴱ (𝐜 +ᴱ 𝐛)) ((δ ⊖ τ) ⊗ dotᴱ 𝐜 (𝐜 +ᴱ 𝐛) ⊕ τ ⊗ dotᴱ (𝐜 +ᴱ 𝐛) (𝐜 +ᴱ 𝐛)) (σ ⊗ dotᴱ 𝐚 (𝐜 +ᴱ 𝐛)) tt)
      (times u v w d s t h (negᴱ 𝐚) ((δ ⊖ τ) ⊗ dotᴱ 𝐚 𝐜 ⊕ τ ⊗ dotᴱ 𝐚 (𝐜 +ᴱ 𝐛)) (σ ⊗ dotᴱ 𝐚 𝐚) tt)
      (same_line u w w_u) (same_line u (w +ᵛ v) z_u)

-- ---- both directions
module _ (a b c e : V3) where
  pub end_meets : EndOn a b c e → Meets a b c e
  end_meets (first_on h) = first_meets a b c e h
  end_meets (third_on h) = third_meets a b c e h
  end_meets (fourth_on h) = fourth_meets a b c e h

  pub meets_end : cross (b -ᵛ a) (e -ᵛ c) ≡ null → Meets a b c e → EndOn a b c e
  meets_end parallel m =
      by_lt_z (pos 0) (dot w z)
      (λ a-out. by_lt_z (dot u w) (dot w w)
      (λ c_out. by_lt_z (dot u z) (dot z z)
      (λ e-out. absurd (outside u v w (pos m.d) (pos m.s) (pos m.t) whole h parallel (pos_low m.s) (pos_le m.s m.d m.first) (pos_low m.t) (pos_le m.t m.d m.second) c_out e-out a-out))
      (λ l. fourth_on record {
        line = by_ringᵛ vs (crossᴱ (𝐝 -ᴱ 𝐚) (𝐝 -ᴱ 𝐛)) (negᴱ (crossᴱ (𝐜 -ᴱ 𝐚 +ᴱ (𝐝 -ᴱ 𝐜)) (𝐛 -ᴱ 𝐚))) tt ∙ ap negᵛ (z_u u v w (pos m.d) (pos m.s) (pos m.t) whole h parallel);
        between = under (dot u z) (dot z z) l (by_ring vs (dotᴱ (𝐝 -ᴱ 𝐚) (𝐝 -ᴱ 𝐛)) (dotᴱ 𝐳 𝐳 ⊖ dotᴱ (𝐛 -ᴱ 𝐚) 𝐳) tt);
      }))
      (λ l. third_on record {
        line = by_ringᵛ vs (crossᴱ (𝐜 -ᴱ 𝐚) (𝐜 -ᴱ 𝐛)) (negᴱ (crossᴱ (𝐜 -ᴱ 𝐚) (𝐛 -ᴱ 𝐚))) tt ∙ ap negᵛ (w_u u v w (pos m.d) (pos m.s) (pos m.t) whole h parallel);
        between = under (dot u w) (dot w w) l (by_ring vs (dotᴱ (𝐜 -ᴱ 𝐚) (𝐜 -ᴱ 𝐛)) (dotᴱ (𝐜 -ᴱ 𝐚) (𝐜 -ᴱ 𝐚) ⊖ dotᴱ (𝐛 -ᴱ 𝐚) (𝐜 -ᴱ 𝐚)) tt);
      }))
      (λ l. first_on record {
        line = by_ringᵛ vs (crossᴱ (𝐚 -ᴱ 𝐜) (𝐚 -ᴱ 𝐝)) (crossᴱ (𝐜 -ᴱ 𝐚) (𝐝 -ᴱ 𝐜)) tt ∙ w_v u v w (pos m.d) (pos m.s) (pos m.t) whole h parallel;
        between = subst (λ k. k ≤ℤ pos 0) (by_ring vs (dotᴱ (𝐜 -ᴱ 𝐚) 𝐳) (dotᴱ (𝐚 -ᴱ 𝐜) (𝐚 -ᴱ 𝐝)) tt) l;
      })
    where
      vs : List V3
      vs = a ∷ b ∷ c ∷ e ∷ []

      u : V3
      u = b -ᵛ a

      v : V3
      v = e -ᵛ c

      w : V3
      w = c -ᵛ a

      z : V3
      z = w +ᵛ v

      𝐳 : E3
      𝐳 = 𝐜 -ᴱ 𝐚 +ᴱ (𝐝 -ᴱ 𝐜)

      whole : pos 0 <ℤ pos m.d
      whole = pos_lt m.d m.whole

      h : Ratio u v w (pos m.d) (pos m.s) (pos m.t)
      h = ratio a b c e m

      under : {k : ℤ} (x y : ℤ) → y ≤ℤ x → k ≡ y -ℤ x → k ≤ℤ pos 0
      under x y l e = omega (arith, ints)
