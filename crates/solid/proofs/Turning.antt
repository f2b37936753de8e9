-- A ring begun at another corner, or turned round, has the same edges in another order: what that says of D and of the counts.
use Rattle.std.proofs.Common.{◌≡◌, List, [], ◌∷◌, ◌++◌, map, reverse, ℤ, ◌+ℤ◌, neg_ℤ, sym, refl, ap, ◌∙◌, subst, ap₂, subst₂, inl, inr, append-nil}
use mathlib.Core.List.Permᴰ
use mathlib.Core.List.{reverse-cons, map-append}
use lib.IntN.{neg_ℤ-+ℤ}
use Rattle.algebra.specs.Vector.{V3, ◌+ᵛ◌, negᵛ, dot}
use Rattle.algebra.proofs.Ring.{⊝}
use Rattle.algebra.proofs.Vectors.{𝐚, 𝐛, 𝐜, ◌+ᴱ◌, negᴱ, dotᴱ, by_ring, by_ringᵛ, sub_dot, cross_turns}
use Rattle.algebra.proofs.Orders.{equal_from_difference}
use Rattle.solid.specs.Lists.{In, Distinct}
use Rattle.solid.specs.Faces.{Corner, Ring, Edge, flip, steps, edges, all_edges, span, spans, D, start, kept_volume_of, edge_sum_of, reversed}
use Rattle.solid.specs.Rules.{Flat}
use Rattle.solid.specs.Reversal.{Negates}
use Rattle.solid.proofs.Counting.{base, kept_is, edge_sum_is_whole}
use Rattle.solid.proofs.Members.{in_append}
use Rattle.solid.proofs.Perms.{Mixed, mixed_both, mixed_turn, distinct_mixed}

-- ---- edges of a ring that is begun elsewhere, or turned round
pub steps_through : (a : Corner) (xs : List Corner) (b : Corner) (ys : List Corner) (z : Corner) → steps a (xs ++ b ∷ ys) z ≡ steps a xs b ++ steps b ys z
steps_through a [] b ys z = refl
steps_through a (x ∷ xs) b ys z = ap {B = List Edge} (λ t. (a, x) ∷ t) (steps_through x xs b ys z)

pub edges_turn : (front back : Ring) → Mixed (edges (front ++ back)) (edges (back ++ front))
edges_turn [] back = subst (λ (t : Ring). Mixed (edges back) (edges t)) (sym (append-nil back)) (Permᴰ.refl (edges back))
edges_turn (a ∷ xs) [] = subst (λ (t : Ring). Mixed (edges t) (edges (a ∷ xs))) (sym (append-nil (a ∷ xs))) (Permᴰ.refl (edges (a ∷ xs)))
edges_turn (a ∷ xs) (b ∷ ys) = subst₂ Mixed (sym (steps_through a xs b ys a)) (sym (steps_through b ys a xs b)) (mixed_turn (steps a xs b) (steps b ys a))

steps-reverse : (a : Corner) (cs : List Corner) (z : Corner) → Mixed (steps z (reverse cs) a) (map flip (steps a cs z))
steps-reverse a [] z = Permᴰ.refl ((z, a) ∷ [])
steps-reverse a (b ∷ bs) z =
    subst (λ (es : List Edge). Mixed es ((b, a) ∷ map flip (steps b bs z))) (sym (ap (λ (t : List Corner). steps z t a) (reverse-cons b bs) ∙ steps_through z (reverse bs) b [] a))
    (Permᴰ.trans (Permᴰ.append_right ((b, a) ∷ []) (steps-reverse b bs z)) (mixed_turn (map flip (steps b bs z)) ((b, a) ∷ [])))

pub edges-reverse : (r : Ring) → Mixed (edges (reverse r)) (map flip (edges r))
edges-reverse [] = Permᴰ.nil
edges-reverse (c ∷ cs) =
    subst (λ (t : Ring). Mixed (edges t) (map flip (steps c cs c))) (sym (reverse-cons c cs))
    (Permᴰ.trans (edges_turn (reverse cs) (c ∷ [])) (steps-reverse c cs c))

all_edges-reverse : (fs : List Ring) → Mixed (all_edges (reversed fs)) (map flip (all_edges fs))
all_edges-reverse [] = Permᴰ.nil
all_edges-reverse (r ∷ rs) =
    subst (λ (es : List Edge). Mixed (edges (reverse r) ++ all_edges (reversed rs)) es) (sym (map-append flip (edges r) (all_edges rs)))
    (mixed_both (edges-reverse r) (all_edges-reverse rs))

flips_once : (es : List Edge) → Distinct es → Distinct (map flip es)
flips_once [] d = tt
flips_once (e ∷ es) d = (λ i. d.0 (back e es i), flips_once es d.1)
  where
    back : (e : Edge) (es : List Edge) → In (flip e) (map flip es) → In e es
    back e [] i = i
    back e (f ∷ es) (inl p) = inl (ap flip p)
    back e (f ∷ es) (inr i) = inr (back e es i)

-- ---- D
pub spans_mixed : {es fs : List Edge} → Mixed es fs → spans es ≡ spans fs
spans_mixed Permᴰ.nil = refl
spans_mixed (Permᴰ.cons e d) = ap₂ ◌+ᵛ◌ (ap span e) (spans_mixed d)
spans_mixed (Permᴰ.swap {a = a} {b = b} {l = l} p q) =
    by_ringᵛ (span a ∷ span b ∷ spans l ∷ []) (𝐚 +ᴱ (𝐛 +ᴱ 𝐜)) (𝐛 +ᴱ (𝐚 +ᴱ 𝐜)) tt ∙ ap₂ (λ u v. span u +ᵛ (span v +ᵛ spans l)) q p
spans_mixed (Permᴰ.trans d e) = spans_mixed d ∙ spans_mixed e

spans-flip : (es : List Edge) → spans (map flip es) ≡ negᵛ (spans es)
spans-flip [] = refl
spans-flip (e ∷ es) =
    ap₂ ◌+ᵛ◌ (cross_turns e.1.position e.0.position) (spans-flip es)
    ∙ by_ringᵛ (span e ∷ spans es ∷ []) (negᴱ 𝐚 +ᴱ negᴱ 𝐛) (negᴱ (𝐚 +ᴱ 𝐛)) tt

D-reverse : (r : Ring) → D (reverse r) ≡ negᵛ (D r)
D-reverse r = spans_mixed (edges-reverse r) ∙ spans-flip (edges r)

-- ---- flat rings
-- each corner of a flat ring stands as high as its first
pub level : (r : Ring) → Flat r → (c : Corner) → In c r → dot c.position (D r) ≡ dot (start r) (D r)
level r h c i = equal_from_difference (dot c.position (D r)) (dot (start r) (D r)) (sym (sub_dot c.position (start r) (D r)) ∙ h c i)

in_reverse : {X : Type 0} (x : X) (xs : List X) → In x (reverse xs) → In x xs
in_reverse x [] i = i
in_reverse x (y ∷ ys) i = elim (in_append x (reverse ys) (y ∷ []) (subst (In x) (reverse-cons y ys) i)) [
  | inl j ↦ inr (in_reverse x ys j)
  | inr (inl e) ↦ inl e
  | inr (inr n) ↦ absurd n
]

-- what holds of each corner's product holds of the first one's
start_of : (c : Corner) (cs s : List Corner) (d : V3) (h : ℤ) → ((b : Corner) → In b (s ++ c ∷ []) → dot b.position d ≡ h) → dot (start (s ++ c ∷ [])) d ≡ h
start_of c cs [] d h all = all c (inl refl)
start_of c cs (b ∷ bs) d h all = all b (inl refl)

height_reverse : (r : Ring) → Flat r → dot (start (reverse r)) (D (reverse r)) ≡ neg_ℤ (dot (start r) (D r))
height_reverse [] flat = refl
height_reverse (c ∷ cs) flat =
    ap (dot (start (reverse (c ∷ cs)))) (D-reverse (c ∷ cs))
    ∙ by_ring (start (reverse (c ∷ cs)) ∷ D (c ∷ cs) ∷ []) (dotᴱ 𝐚 (negᴱ 𝐛)) (⊝ (dotᴱ 𝐚 𝐛)) tt
    ∙ ap neg_ℤ same
  where
    same : dot (start (reverse (c ∷ cs))) (D (c ∷ cs)) ≡ dot (start (c ∷ cs)) (D (c ∷ cs))
    same =
        ap (λ (t : Ring). dot (start t) (D (c ∷ cs))) (reverse-cons c cs)
        ∙ start_of c cs (reverse cs) (D (c ∷ cs)) (dot (start (c ∷ cs)) (D (c ∷ cs)))
        (λ b i. level (c ∷ cs) flat b (in_reverse b (c ∷ cs) (subst (In b) (sym (reverse-cons c cs)) i)))

-- ---- the counts of faces turned round
base_reverse : (fs : List Ring) → ((r : Ring) → In r fs → Flat r) → base (reversed fs) ≡ neg_ℤ (base fs)
unfolding base
base_reverse [] h = refl
base_reverse (r ∷ rs) h =
    ap₂ ◌+ℤ◌ (height_reverse r (h r (inl refl))) (base_reverse rs (λ s i. h s (inr i))) ∙ sym (neg_ℤ-+ℤ (dot (start r) (D r)) (base rs))

pub negates : (fs : List Ring) → Distinct (all_edges fs) → ((r : Ring) → In r fs → Flat r) → Negates fs (kept_volume_of fs) (edge_sum_of fs)
negates fs once flat = record {
  normals = λ r _. D-reverse r;
  edge_sum =
      edge_sum_is_whole (reversed fs) (distinct_mixed (Permᴰ.symm (all_edges-reverse fs)) (flips_once (all_edges fs) once))
      ∙ spans_mixed (all_edges-reverse fs)
      ∙ spans-flip (all_edges fs)
      ∙ ap negᵛ (sym (edge_sum_is_whole fs once));
  volume = kept_is (reversed fs) ∙ base_reverse fs flat ∙ ap neg_ℤ (sym (kept_is fs));
}
