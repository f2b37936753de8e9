-- Bounds of vectors, for the lemmas of `Machine`: `h ∷ᵛ k ∷ᵛ done` bounds the variables of 𝐚 and 𝐛, with h : Within 100 a and k : Within 7 b.

use Rattle.std.proofs.Common.{ℕ, Bool, ◌&&◌, T, leb, List, ◌∷◌, ℤ, le_trans, leb→le}
use lib.Ieee.Fits.{and_l, and_r}
use Rattle.algebra.specs.Vector.{V3, Near, Within}
use Rattle.algebra.proofs.Machine.{Bounded, ◌∷ᵇ◌, most, within, near_more}
use Rattle.algebra.proofs.Ring.{Expr, eval}
use Rattle.algebra.proofs.Vectors.{E3, evalᵛ}

infixr 5 ◌∷ᵛ◌
pub ◌∷ᵛ◌ : {n : ℕ} {v : V3} {ρ : List ℤ} {βs : List ℕ} → Within n v → Bounded ρ βs → Bounded (v.x ∷ v.y ∷ v.z ∷ ρ) (n ∷ n ∷ n ∷ βs)
h ∷ᵛ b = h.x ∷ᵇ h.y ∷ᵇ h.z ∷ᵇ b

-- a wider bound: `within_more tt h`
pub within_more : {m n : ℕ} {v : V3} → T (leb m n) → Within m v → Within n v
within_more t h = record { x = near_more t h.x; y = near_more t h.y; z = near_more t h.z }

-- how large a computed vector is: `vector_within (h ∷ᵛ k ∷ᵛ done) (crossᴱ 𝐚 𝐛) tt`
abbrev pub at_most : ℕ → List ℕ → E3 → Bool
at_most m βs e = (leb (most βs e.x) m && leb (most βs e.y) m) && leb (most βs e.z) m

pub vector_within : {m : ℕ} {ρ : List ℤ} {βs : List ℕ} → Bounded ρ βs → (e : E3) → T (at_most m βs e) → Within m (evalᵛ ρ e)
vector_within {m} {ρ} {βs} b e t = record { x = part e.x (and_l p q (and_l (p && q) r t)); y = part e.y (and_r p q (and_l (p && q) r t)); z = part e.z (and_r (p && q) r t) }
  where
    p : Bool
    p = leb (most βs e.x) m

    q : Bool
    q = leb (most βs e.y) m

    r : Bool
    r = leb (most βs e.z) m

    part : (f : Expr) → T (leb (most βs f) m) → Near m (eval ρ f)
    part f u = record { abs = le_trans (within b f) (leb→le (most βs f) m u) }
