-- Two segments that are not parallel share a point exactly when `Crossing` holds.
use Rattle.std.proofs.Common.{◌≡◌, List, [], ◌∷◌, ℤ, pos, negsuc, ◌+ℤ◌, ◌-ℤ◌, ◌*ℤ◌, ◌≤ℤ◌, ◌<ℤ◌, sym, refl, ap, subst, arith}
use lib.IntN.{*ℤ-zero}
use borrow.Author.Differences.{ints}
use Rattle.algebra.specs.Vector.{V3, null, ◌+ᵛ◌, ◌-ᵛ◌, scale, dot, cross}
use Rattle.algebra.proofs.Ring.{Expr, var, con, ◌⊕◌, ◌⊖◌, ◌⊗◌, ⊝, eval, Same, combined, solve_from}
use Rattle.algebra.proofs.Vectors.{E3, 𝐚, 𝐛, 𝐜, dotᴱ, crossᴱ, coords, V3-path}
use Rattle.algebra.proofs.Orders.{mul_mono_right, mul_not_negative, dot_not_negative, dot_zero}
use Rattle.algebra.specs.Segments.{Meets, Part, Crossing}
use Rattle.algebra.proofs.Products.{cancel_le, cancel_zero, pos_low, pos_le, pos_lt, above_zero}

-- ---- the equation of a shared point
-- s of d along u ends where t of d along v does, from a start that is w away
abbrev pub Ratio : V3 → V3 → V3 → ℤ → ℤ → ℤ → Type 0
Ratio u v w d s t = scale s u ≡ scale d w +ᵛ scale t v

abbrev left : Expr
left = var 0 ⊗ var 1 ⊕ var 3

abbrev right : Expr
right = var 0 ⊗ var 2 ⊕ var 4

abbrev from_there : Expr
from_there = var 0 ⊗ (var 2 ⊖ var 1) ⊕ var 4

to : (d a c p q : ℤ) → d *ℤ a +ℤ p ≡ d *ℤ c +ℤ q → p ≡ d *ℤ (c -ℤ a) +ℤ q
to d a c p q h = solve_from (d ∷ a ∷ c ∷ p ∷ q ∷ []) ((con (pos 1), left, right) ∷ []) (h, tt) (var 3) from_there tt

fro : (d a c p q : ℤ) → p ≡ d *ℤ (c -ℤ a) +ℤ q → d *ℤ a +ℤ p ≡ d *ℤ c +ℤ q
fro d a c p q h = solve_from (d ∷ a ∷ c ∷ p ∷ q ∷ []) ((con (pos 1), var 3, from_there) ∷ []) (h, tt) left right tt

module _ (d : ℤ) (a c p q : V3) where
  toᵛ : scale d a +ᵛ p ≡ scale d c +ᵛ q → p ≡ scale d (c -ᵛ a) +ᵛ q
  toᵛ h = V3-path (to d a.x c.x p.x q.x (ap (λ v. v.x) h)) (to d a.y c.y p.y q.y (ap (λ v. v.y) h)) (to d a.z c.z p.z q.z (ap (λ v. v.z) h))

  froᵛ : p ≡ scale d (c -ᵛ a) +ᵛ q → scale d a +ᵛ p ≡ scale d c +ᵛ q
  froᵛ h = V3-path (fro d a.x c.x p.x q.x (ap (λ v. v.x) h)) (fro d a.y c.y p.y q.y (ap (λ v. v.y) h)) (fro d a.z c.z p.z q.z (ap (λ v. v.z) h))

pub ratio : (a b c e : V3) (m : Meets a b c e) → Ratio (b -ᵛ a) (e -ᵛ c) (c -ᵛ a) (pos m.d) (pos m.s) (pos m.t)
ratio a b c e m = toᵛ (pos m.d) a c (scale (pos m.s) (b -ᵛ a)) (scale (pos m.t) (e -ᵛ c)) m.point

-- a shared point from integers, which it keeps
pub record Made (a b c e : V3) (d s t : ℤ) : Type 0 where
  pub shared : Meets a b c e
  pub d_is : pos shared.d ≡ d
  pub s_is : pos shared.s ≡ s
  pub t_is : pos shared.t ≡ t

pub made : (a b c e : V3) (d s t : ℤ) → pos 0 <ℤ d → pos 0 ≤ℤ s → s ≤ℤ d → pos 0 ≤ℤ t → t ≤ℤ d → Ratio (b -ᵛ a) (e -ᵛ c) (c -ᵛ a) d s t → Made a b c e d s t
made a b c e (pos d) (pos s) (pos t) p q r q' r' h = record {
  shared = record {
    d = d;
    s = s;
    t = t;
    whole = omega (arith, ints);
    first = omega (arith, ints);
    second = omega (arith, ints);
    point = froᵛ (pos d) a c (scale (pos s) (b -ᵛ a)) (scale (pos t) (e -ᵛ c)) h;
  };
  d_is = refl;
  s_is = refl;
  t_is = refl;
}
made a b c e (pos d) (pos s) (negsuc t) p q r q' r' h = absurd q'.le
made a b c e (pos d) (negsuc s) t p q r q' r' h = absurd q.le
made a b c e (negsuc d) s t p q r q' r' h = absurd p.lt

pub meets : (a b c e : V3) (d s t : ℤ) → pos 0 <ℤ d → pos 0 ≤ℤ s → s ≤ℤ d → pos 0 ≤ℤ t → t ≤ℤ d → Ratio (b -ᵛ a) (e -ᵛ c) (c -ᵛ a) d s t → Meets a b c e
meets a b c e d s t p q r q' r' h = (made a b c e d s t p q r q' r' h).shared

-- ---- consequences of the equation, by adding multiples of its three components
-- u, v and w are the vectors 0, 1 and 2 of the environment
abbrev pub δ : Expr
δ = var 9

abbrev pub σ : Expr
σ = var 10

abbrev pub τ : Expr
τ = var 11

abbrev pub 𝐧 : E3
𝐧 = crossᴱ 𝐚 𝐛

-- the components of the equation, times those of m
abbrev pub sums : E3 → List (Expr × Expr × Expr)
sums m = (m.x, σ ⊗ 𝐚.x, δ ⊗ 𝐜.x ⊕ τ ⊗ 𝐛.x) ∷ (m.y, σ ⊗ 𝐚.y, δ ⊗ 𝐜.y ⊕ τ ⊗ 𝐛.y) ∷ (m.z, σ ⊗ 𝐚.z, δ ⊗ 𝐜.z ⊕ τ ⊗ 𝐛.z) ∷ []

module _ (u v w : V3) (d s t : ℤ) where
  abbrev pub values : List ℤ
  values = u.x ∷ u.y ∷ u.z ∷ v.x ∷ v.y ∷ v.z ∷ w.x ∷ w.y ∷ w.z ∷ d ∷ s ∷ t ∷ []

  module _ (h : Ratio u v w d s t) where
    pub times : (m : E3) (e f : Expr) → Same e (f ⊕ combined (sums m)) → eval values e ≡ eval values f
    times m e f = solve_from values (sums m) (ap (λ p. p.x) h, (ap (λ p. p.y) h, (ap (λ p. p.z) h, tt))) e f

    flat : d *ℤ dot w (cross u v) ≡ pos 0
    flat = times (crossᴱ 𝐛 𝐚) (δ ⊗ dotᴱ 𝐜 𝐧) (con (pos 0)) tt

    along_first : s *ℤ dot (cross u v) (cross u v) ≡ d *ℤ dot (cross w v) (cross u v)
    along_first = times (crossᴱ 𝐛 𝐧) (σ ⊗ dotᴱ 𝐧 𝐧) (δ ⊗ dotᴱ (crossᴱ 𝐜 𝐛) 𝐧) tt

    along_second : t *ℤ dot (cross u v) (cross u v) ≡ d *ℤ dot (cross w u) (cross u v)
    along_second = times (crossᴱ 𝐚 𝐧) (τ ⊗ dotᴱ 𝐧 𝐧) (δ ⊗ dotᴱ (crossᴱ 𝐜 𝐚) 𝐧) tt

-- ---- s of d is k of n, for one that is not above d the other is not above n
part : (d s n k : ℤ) → pos 0 <ℤ d → pos 0 ≤ℤ s → s ≤ℤ d → pos 0 ≤ℤ n → s *ℤ n ≡ d *ℤ k → Part n k
part d s n k p low high r h = record {
  low = cancel_le d (pos 0) k p (subst (λ z. z ≤ℤ (d *ℤ k)) (sym (*ℤ-zero d)) (subst (λ z. pos 0 ≤ℤ z) h (mul_not_negative s n low r)));
  high = cancel_le d k n p (subst (λ z. z ≤ℤ (d *ℤ n)) h (mul_mono_right n s d r high));
}

-- ---- both directions
module _ (u v w : V3) where
  abbrev n : V3
  n = cross u v

  crossing_from : (d s t : ℤ) → pos 0 <ℤ d → pos 0 ≤ℤ s → s ≤ℤ d → pos 0 ≤ℤ t → t ≤ℤ d → Ratio u v w d s t → Crossing u v w
  crossing_from d s t whole s-low s-high t-low t-high h = record {
    coplanar = cancel_zero d (dot w n) whole (flat u v w d s t h);
    first = part d s (dot n n) (dot (cross w v) n) whole s-low s-high (dot_not_negative n) (along_first u v w d s t h);
    second = part d t (dot n n) (dot (cross w u) n) whole t-low t-high (dot_not_negative n) (along_second u v w d s t h);
  }

  -- (w × v · n) u - (w × u · n) v = (n · n) w - (w · n) n
  crossing_ratio : dot w n ≡ pos 0 → Ratio u v w (dot n n) (dot (cross w v) n) (dot (cross w u) n)
  crossing_ratio h = V3-path (side 𝐚.x 𝐛.x 𝐜.x 𝐧.x tt) (side 𝐚.y 𝐛.y 𝐜.y 𝐧.y tt) (side 𝐚.z 𝐛.z 𝐜.z 𝐧.z tt)
    where
      ρ : List ℤ
      ρ = coords (u ∷ v ∷ w ∷ [])

      side : (i j k l : Expr) → Same (dotᴱ (crossᴱ 𝐜 𝐛) 𝐧 ⊗ i) (dotᴱ 𝐧 𝐧 ⊗ k ⊕ dotᴱ (crossᴱ 𝐜 𝐚) 𝐧 ⊗ j ⊕ combined ((⊝ l, dotᴱ 𝐜 𝐧, con (pos 0)) ∷ [])) → eval ρ (dotᴱ (crossᴱ 𝐜 𝐛) 𝐧 ⊗ i) ≡ eval ρ (dotᴱ 𝐧 𝐧 ⊗ k ⊕ dotᴱ (crossᴱ 𝐜 𝐚) 𝐧 ⊗ j)
      side i j k l t = solve_from ρ ((⊝ l, dotᴱ 𝐜 𝐧, con (pos 0)) ∷ []) (h, tt) (dotᴱ (crossᴱ 𝐜 𝐛) 𝐧 ⊗ i) (dotᴱ 𝐧 𝐧 ⊗ k ⊕ dotᴱ (crossᴱ 𝐜 𝐚) 𝐧 ⊗ j) t

module _ (a b c e : V3) where
  pub crossing : Meets a b c e → Crossing (b -ᵛ a) (e -ᵛ c) (c -ᵛ a)
  crossing m = crossing_from (b -ᵛ a) (e -ᵛ c) (c -ᵛ a) (pos m.d) (pos m.s) (pos m.t) (pos_lt m.d m.whole) (pos_low m.s) (pos_le m.s m.d m.first) (pos_low m.t) (pos_le m.t m.d m.second) (ratio a b c e m)

  pub crossing_meets : (cross (b -ᵛ a) (e -ᵛ c) ≡ null → ⊥) → Crossing (b -ᵛ a) (e -ᵛ c) (c -ᵛ a) → Meets a b c e
  crossing_meets apart h = meets a b c e (dot n' n') (dot (cross (c -ᵛ a) (e -ᵛ c)) n') (dot (cross (c -ᵛ a) (b -ᵛ a)) n') (above_zero (dot n' n') (dot_not_negative n') (λ z. apart (dot_zero n' z))) h.first.low h.first.high h.second.low h.second.high (crossing_ratio (b -ᵛ a) (e -ᵛ c) (c -ᵛ a) h.coplanar)
    where
      n' : V3
      n' = cross (b -ᵛ a) (e -ᵛ c)
