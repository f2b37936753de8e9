-- The laws of dot and cross products, each by the ring normaliser.
-- The normaliser is lifted to vectors: `a`, `b`, `c` and `d` below are vectors of variables, `dotᴱ` and `crossᴱ` are `dot` and
-- `cross` over expressions, and `by_ring` and `by_ringᵛ` solve an equation of numbers and one of vectors.

use Rattle.std.proofs.Common.{◌≡◌, ℕ, ◌+◌, ◌*◌, Bool, ◌&&◌, T, List, [], ◌∷◌, ℤ, pos, ◌+ℤ◌, ◌-ℤ◌, neg_ℤ, sym, ◌∙◌}
use lib.Ieee.Fits.{and_l, and_r}
use Rattle.algebra.specs.Vector.{V3, null, ◌+ᵛ◌, ◌-ᵛ◌, negᵛ, dot, cross}
use Rattle.algebra.proofs.Ring.{Expr, var, con, ◌⊕◌, ◌⊖◌, ◌⊗◌, ⊝, eval, norm, vanishes, Same, solve}

-- ---- vectors of expressions
pub record E3 : Type 0 where
  pub x : Expr
  pub y : Expr
  pub z : Expr

-- the vector number k of the environment
abbrev pub vec : ℕ → E3
vec k = record { x = var (3 * k); y = var (3 * k + 1); z = var (3 * k + 2) }

abbrev pub nullᴱ : E3
nullᴱ = record { x = con (pos 0); y = con (pos 0); z = con (pos 0) }

infixl 6 ◌+ᴱ◌ ◌-ᴱ◌
abbrev pub ◌+ᴱ◌ : E3 → E3 → E3
a +ᴱ b = record { x = a.x ⊕ b.x; y = a.y ⊕ b.y; z = a.z ⊕ b.z }

abbrev pub ◌-ᴱ◌ : E3 → E3 → E3
a -ᴱ b = record { x = a.x ⊖ b.x; y = a.y ⊖ b.y; z = a.z ⊖ b.z }

abbrev pub negᴱ : E3 → E3
negᴱ a = record { x = ⊝ a.x; y = ⊝ a.y; z = ⊝ a.z }

abbrev pub scaleᴱ : Expr → E3 → E3
scaleᴱ k a = record { x = k ⊗ a.x; y = k ⊗ a.y; z = k ⊗ a.z }

abbrev pub dotᴱ : E3 → E3 → Expr
dotᴱ a b = a.x ⊗ b.x ⊕ a.y ⊗ b.y ⊕ a.z ⊗ b.z

abbrev pub crossᴱ : E3 → E3 → E3
crossᴱ a b = record {
  x = a.y ⊗ b.z ⊖ a.z ⊗ b.y;
  y = a.z ⊗ b.x ⊖ a.x ⊗ b.z;
  z = a.x ⊗ b.y ⊖ a.y ⊗ b.x;
}

-- ---- the solvers
abbrev pub coords : List V3 → List ℤ
coords [] = []
coords (v ∷ vs) = v.x ∷ v.y ∷ v.z ∷ coords vs

abbrev pub evalᵛ : List ℤ → E3 → V3
evalᵛ ρ e = record { x = eval ρ e.x; y = eval ρ e.y; z = eval ρ e.z }

abbrev pub Sameᵛ : E3 → E3 → Type 0
Sameᵛ e f = T ((vanishes (norm (e.x ⊖ f.x)) && vanishes (norm (e.y ⊖ f.y))) && vanishes (norm (e.z ⊖ f.z)))

pub by_ring : (vs : List V3) (e f : Expr) → Same e f → eval (coords vs) e ≡ eval (coords vs) f
by_ring vs e f t = solve (coords vs) e f t

pub V3-path : {a b : V3} → a.x ≡ b.x → a.y ≡ b.y → a.z ≡ b.z → a ≡ b
V3-path p q r = λ i. record { x = p i; y = q i; z = r i }

pub by_ringᵛ : (vs : List V3) (e f : E3) → Sameᵛ e f → evalᵛ (coords vs) e ≡ evalᵛ (coords vs) f
by_ringᵛ vs e f t =
    let p : Bool = vanishes (norm (e.x ⊖ f.x)) in
    let q : Bool = vanishes (norm (e.y ⊖ f.y)) in
    let r : Bool = vanishes (norm (e.z ⊖ f.z)) in
    V3-path (by_ring vs e.x f.x (and_l p q (and_l (p && q) r t))) (by_ring vs e.y f.y (and_r p q (and_l (p && q) r t))) (by_ring vs e.z f.z (and_r (p && q) r t))

-- the first four vectors of the environment
abbrev pub 𝐚 : E3
𝐚 = vec 0

abbrev pub 𝐛 : E3
𝐛 = vec 1

abbrev pub 𝐜 : E3
𝐜 = vec 2

abbrev pub 𝐝 : E3
𝐝 = vec 3

-- ---- identities, each by the normaliser
pub dot-null : (a : V3) → dot a null ≡ pos 0
dot-null a = by_ring (a ∷ []) (dotᴱ 𝐚 nullᴱ) (con (pos 0)) tt

pub null-dot : (a : V3) → dot null a ≡ pos 0
null-dot a = by_ring (a ∷ []) (dotᴱ nullᴱ 𝐚) (con (pos 0)) tt

pub dot_add : (a b c : V3) → dot a (b +ᵛ c) ≡ dot a b +ℤ dot a c
dot_add a b c = by_ring (a ∷ b ∷ c ∷ []) (dotᴱ 𝐚 (𝐛 +ᴱ 𝐜)) (dotᴱ 𝐚 𝐛 ⊕ dotᴱ 𝐚 𝐜) tt

pub sub_dot : (a q d : V3) → dot (a -ᵛ q) d ≡ dot a d -ℤ dot q d
sub_dot a q d = by_ring (a ∷ q ∷ d ∷ []) (dotᴱ (𝐚 -ᴱ 𝐛) 𝐜) (dotᴱ 𝐚 𝐜 ⊖ dotᴱ 𝐛 𝐜) tt

-- the vector product changes its sign when its sides change places
pub cross_turns : (a b : V3) → cross a b ≡ negᵛ (cross b a)
cross_turns a b = by_ringᵛ (a ∷ b ∷ []) (crossᴱ 𝐚 𝐛) (negᴱ (crossᴱ 𝐛 𝐚)) tt

pub dot_cross_turns : (q a b : V3) → dot q (cross a b) ≡ neg_ℤ (dot q (cross b a))
dot_cross_turns q a b = by_ring (q ∷ a ∷ b ∷ []) (dotᴱ 𝐚 (crossᴱ 𝐛 𝐜)) (⊝ (dotᴱ 𝐚 (crossᴱ 𝐜 𝐛))) tt

-- vectors that have the same scalar product with each vector are one
pub same_products : (a b : V3) → ((q : V3) → dot q a ≡ dot q b) → a ≡ b
same_products a b h = V3-path (part (unit (pos 1) (pos 0) (pos 0)) 𝐚.x tt) (part (unit (pos 0) (pos 1) (pos 0)) 𝐚.y tt) (part (unit (pos 0) (pos 0) (pos 1)) 𝐚.z tt)
  where
    unit : ℤ → ℤ → ℤ → V3
    unit x y z = record { x = x; y = y; z = z }

    part : (u : V3) (e : Expr) → Same (dotᴱ (record { x = con u.x; y = con u.y; z = con u.z }) 𝐚) e → eval (coords (a ∷ [])) e ≡ eval (coords (b ∷ [])) e
    part u e t =
        let uᴱ : E3 = record { x = con u.x; y = con u.y; z = con u.z } in
        sym (by_ring (a ∷ []) (dotᴱ uᴱ 𝐚) e t) ∙ h u ∙ by_ring (b ∷ []) (dotᴱ uᴱ 𝐚) e t
