-- Two edges of which one follows the other are clear of each other exactly when they share only the corner between.
use Rattle.std.proofs.Common.{◌≡◌, ℕ, Bool, [], ◌∷◌, pos, Decides, refl, subst, arith}
use Rattle.algebra.specs.Vector.{V3}
use Rattle.algebra.proofs.Ring.{con}
use Rattle.algebra.proofs.Vectors.{𝐚, 𝐛, ◌+ᴱ◌, ◌-ᴱ◌, scaleᴱ, by_ringᵛ}
use Rattle.algebra.specs.Segments.{Meets, OnlyCorner}
use Rattle.ring.specs.Places.{Clear}
use Rattle.solid.specs.Faces.{Corner}

-- there and back: the start is shared too
start_shared : (a b : V3) → Meets a b b a
start_shared a b = record {
  d = 1;
  s = 0;
  t = 1;
  whole = omega arith;
  first = omega arith;
  second = omega arith;
  point = by_ringᵛ (a ∷ b ∷ []) (scaleᴱ (con (pos 1)) 𝐚 +ᴱ scaleᴱ (con (pos 0)) (𝐛 -ᴱ 𝐚)) (scaleᴱ (con (pos 1)) 𝐛 +ᴱ scaleᴱ (con (pos 1)) (𝐚 -ᴱ 𝐛)) tt;
}

not_back : (a b : V3) → OnlyCorner a b a → ⊥
unfolding start_shared
not_back a b only = let e : ◌≡◌ {A = ℕ} 0 1 = (only (start_shared a b)).0 in omega arith

-- the edge from b to e follows the one from a to b
pub follows : (a b e : Corner) (r : Bool) → Decides r (OnlyCorner a.position b.position e.position) → Decides r (Clear (a, b) (b, e))
follows a b e r h = (
  λ t. record {
    there = record { apart = λ _ n _ _. absurd (n refl); joined = λ _. h.0 t };
    back = record { apart = λ _ _ n _. absurd (n refl); joined = λ same _. absurd (same_ends same (h.0 t)) };
  },
  λ clear. h.1 (clear.there.joined refl),
)
  where
    same_ends : e ≡ a → OnlyCorner a.position b.position e.position → ⊥
    same_ends p only = not_back a.position b.position (subst (λ x. OnlyCorner a.position b.position x.position) p only)

-- the edge from a to b follows the one from c to a, and no edge back
pub precedes : (a b c : Corner) (r : Bool) → (b ≡ c → ⊥) → Decides r (OnlyCorner c.position a.position b.position) → Decides r (Clear (a, b) (c, a))
precedes a b c r ends h = (
  λ t. record {
    there = record { apart = λ _ _ n _. absurd (n refl); joined = λ same. absurd (ends same) };
    back = record { apart = λ _ n _ _. absurd (n refl); joined = λ _. h.0 t };
  },
  λ clear. h.1 (clear.back.joined refl),
)
