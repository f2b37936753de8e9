-- D of a ring, a term at a time, and the heights of the corners over its plane.
use Rattle.std.proofs.Common.{◌≡◌, ℕ, ◌+◌, ◌*◌, ◌^◌, ◌<◌, ◌≤◌, List, [], ◌∷◌, length, drop, ℤ, ◌+ℤ◌, sym, refl, ap, ◌∙◌, arith}
use borrow.Author.Differences.{ints}
use Rattle.std.proofs.lemmas.List.{at_drop_more, drop_all}
use Rattle.algebra.specs.Vector.{V3, ◌+ᵛ◌, Near, Within, Large}
use Rattle.algebra.proofs.Bounds.{◌∷ᵛ◌, vector_within}
use Rattle.algebra.proofs.Machine.{done}
use Rattle.algebra.proofs.Vectors.{𝐚, 𝐛, 𝐜, nullᴱ, ◌+ᴱ◌, crossᴱ, by_ringᵛ}
use Rattle.solid.specs.Places.{no_edge}
use Rattle.solid.specs.declared.Corner.{Corner as StoredCorner}
use Rattle.ring.specs.Places.{following}
use Rattle.solid.specs.Corners.{ring_of}
use Rattle.solid.specs.Faces.{edges, span, spans, D, start}
use Rattle.solid.specs.Rules.{Tidy}
use Rattle.ring.specs.Places.{corner, edge}
use Rattle.ring.proofs.Places.{inside_at, few_at, edges_length, edges_at, following_within}

pub start_is : (r : List StoredCorner) → (corner r 0).position ≡ start (ring_of r)
start_is [] = refl
start_is (c ∷ cs) = refl

-- ---- the sum so far, after i edges
abbrev pub SoFar : List StoredCorner → ℕ → V3 → Type 0
SoFar r i sum = (sum +ᵛ spans (drop i (edges (ring_of r))) ≡ D (ring_of r)) × Within (i * (5 * 10 ^ 9)) sum

pub sum_large : (r : List StoredCorner) → Tidy (ring_of r) → (i : ℕ) (sum : V3) → i ≤ length r → SoFar r i sum → Large sum
sum_large r tidy i sum l h = record { x = wider sum.x h.1.x; y = wider sum.y h.1.y; z = wider sum.z h.1.z }
  where
    wider : (k : ℤ) → Near (i * (5 * 10 ^ 9)) k → Near (2 * 10 ^ 13) k
    wider k n = record { abs = omega (arith, n.abs, few_at r tidy) }

pub sum_all : (r : List StoredCorner) (i : ℕ) (sum : V3) → length r ≤ i → SoFar r i sum → sum ≡ D (ring_of r)
sum_all r i sum l h =
    by_ringᵛ (sum ∷ []) 𝐚 (𝐚 +ᴱ nullᴱ) tt ∙ ap (λ es. sum +ᵛ spans es) (sym (drop_all i (edges (ring_of r)) (omega (arith, edges_length r)))) ∙ h.0

pub term_within : (r : List StoredCorner) → Tidy (ring_of r) → (i : ℕ) → i < length r → Within (5 * 10 ^ 9) (span (edge r i))
term_within r tidy i l = vector_within (inside_at r tidy i l ∷ᵛ inside_at r tidy (following (length r) i) (following_within (length r) i l) ∷ᵛ done) (crossᴱ 𝐚 𝐛) tt

pub sum_more : (r : List StoredCorner) → Tidy (ring_of r) → (i : ℕ) (sum : V3) → i < length r → SoFar r i sum → SoFar r (i + 1) (sum +ᵛ span (edge r i))
sum_more r tidy i sum l h = (
  by_ringᵛ (sum ∷ term ∷ spans (drop (i + 1) (edges (ring_of r))) ∷ []) (𝐚 +ᴱ 𝐛 +ᴱ 𝐜) (𝐚 +ᴱ (𝐛 +ᴱ 𝐜)) tt ∙ ap (λ q. sum +ᵛ q) (sym split) ∙ h.0,
  record { x = near sum.x term.x h.1.x small.x; y = near sum.y term.y h.1.y small.y; z = near sum.z term.z h.1.z small.z },
)
  where
    term : V3
    term = span (edge r i)

    small : Within (5 * 10 ^ 9) term
    small = term_within r tidy i l

    split : spans (drop i (edges (ring_of r))) ≡ term +ᵛ spans (drop (i + 1) (edges (ring_of r)))
    split =
        at_drop_more spans (edges (ring_of r)) i no_edge (omega (arith, edges_length r))
        ∙ ap (λ e. span e +ᵛ spans (drop (i + 1) (edges (ring_of r)))) (edges_at r no_edge i l)

    near : (a b : ℤ) → Near (i * (5 * 10 ^ 9)) a → Near (5 * 10 ^ 9) b → Near ((i + 1) * (5 * 10 ^ 9)) (a +ℤ b)
    near a b p q = record { abs = omega (arith, ints, p.abs, q.abs) }
