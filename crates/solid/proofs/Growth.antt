-- One face more: what it adds to the kept volume and the edge sum, and how large these can become.
use Rattle.std.proofs.Common.{◌≡◌, ℕ, suc, ◌+◌, ◌*◌, ◌^◌, List, [], ◌∷◌, ◌++◌, length, ℤ, ◌+ℤ◌, sym, refl, ap, ◌∙◌, subst, ap₂, inl, inr, le_trans, arith, length-append}
use lib.IntN.{+ℤ_idr}
use borrow.Author.Differences.{ints}
use Rattle.algebra.specs.Vector.{V3, ◌+ᵛ◌, dot, Near, Within, Inside, Large}
use Rattle.algebra.proofs.Bounds.{◌∷ᵛ◌, vector_within}
use Rattle.algebra.proofs.Machine.{done, within}
use Rattle.algebra.proofs.Vectors.{𝐚, 𝐛, 𝐜, nullᴱ, ◌+ᴱ◌, dotᴱ, crossᴱ, by_ringᵛ}
use Rattle.solid.specs.Lists.{In, Distinct}
use Rattle.solid.specs.Faces.{Ring, Edge, edges, all_edges, span, spans, D, start, kept_volume_of, edge_sum_of}
use Rattle.solid.specs.Rules.{Tidy, Consistent}
use Rattle.solid.proofs.Counting.{base, kept_is, edge_sum_is_whole}
use Rattle.solid.proofs.Members.{edges_length, edge_from, edge_to, face_of, all_edges_more}
use Rattle.solid.proofs.Sums.{total-append}

-- ---- what a face adds
pub kept_more : (fs : List Ring) (r : Ring) → kept_volume_of (fs ++ r ∷ []) ≡ kept_volume_of fs +ℤ dot (start r) (D r)
unfolding base
kept_more fs r =
    kept_is (fs ++ r ∷ [])
    ∙ total-append (λ s. dot (start s) (D s)) fs (r ∷ [])
    ∙ ap₂ ◌+ℤ◌ (sym (kept_is fs)) (+ℤ_idr (dot (start r) (D r)))

spans-append : (es fs : List Edge) → spans (es ++ fs) ≡ spans es +ᵛ spans fs
spans-append [] fs = by_ringᵛ (spans fs ∷ []) 𝐚 (nullᴱ +ᴱ 𝐚) tt
spans-append (e ∷ es) fs = ap (λ v. span e +ᵛ v) (spans-append es fs) ∙ by_ringᵛ (span e ∷ spans es ∷ spans fs ∷ []) (𝐚 +ᴱ (𝐛 +ᴱ 𝐜)) (𝐚 +ᴱ 𝐛 +ᴱ 𝐜) tt

pub sum_more : (fs : List Ring) (r : Ring) → Distinct (all_edges fs) → Distinct (all_edges (fs ++ r ∷ [])) → edge_sum_of (fs ++ r ∷ []) ≡ edge_sum_of fs +ᵛ D r
sum_more fs r d e =
    edge_sum_is_whole (fs ++ r ∷ []) e
    ∙ ap spans (all_edges_more fs r)
    ∙ spans-append (all_edges fs) (edges r)
    ∙ ap (λ v. v +ᵛ D r) (sym (edge_sum_is_whole fs d))

-- ---- bounds: an edge adds at most 5 · 10^9 to each part of a sum of vector products, and 7.5 · 10^14 to the volume
abbrev EndsInside : List Edge → Type 0
EndsInside es = (e : Edge) → In e es → Inside e.0.position × Inside e.1.position

near_sum : (m n : ℕ) (a b : ℤ) → Near m a → Near n b → Near (m + n) (a +ℤ b)
near_sum m n a b p q = record { abs = omega (arith, ints, p.abs, q.abs) }

within_sum : (m n : ℕ) (a b : V3) → Within m a → Within n b → Within (m + n) (a +ᵛ b)
within_sum m n a b p q = record {
  x = near_sum m n a.x b.x p.x q.x;
  y = near_sum m n a.y b.y p.y q.y;
  z = near_sum m n a.z b.z p.z q.z;
}

spans_within : (es : List Edge) → EndsInside es → Within (length es * (5 * 10 ^ 9)) (spans es)
spans_within [] h = record { x = record { abs = omega arith }; y = record { abs = omega arith }; z = record { abs = omega arith } }
spans_within (e ∷ es) h =
    let here : Within (5 * 10 ^ 9) (span e) = vector_within ((h e (inl refl)).0 ∷ᵛ (h e (inl refl)).1 ∷ᵛ done) (crossᴱ 𝐚 𝐛) tt in
    let rest = spans_within es (λ f i. h f (inr i)) in
    let long : 5 * 10 ^ 9 + length es * (5 * 10 ^ 9) ≡ suc (length es) * (5 * 10 ^ 9) = omega arith in
    subst (λ n. Within n (span e +ᵛ spans es)) long (within_sum (5 * 10 ^ 9) (length es * (5 * 10 ^ 9)) (span e) (spans es) here rest)

ring_ends : (r : Ring) → Tidy r → EndsInside (edges r)
ring_ends r h e i = ((h.valid e.0 (edge_from r e i)).position, (h.valid e.1 (edge_to r e i)).position)

start_inside : (r : Ring) → Tidy r → Inside (start r)
start_inside [] h = record { x = record { abs = omega arith }; y = record { abs = omega arith }; z = record { abs = omega arith } }
start_inside (c ∷ cs) h = (h.valid c (inl refl)).position

pub height_near : (r : Ring) → Tidy r → Near (length r * (75 * 10 ^ 13)) (dot (start r) (D r))
height_near r h = record { abs = le_trans (within (start_inside r h ∷ᵛ spans_within (edges r) (ring_ends r h) ∷ᵛ done) (dotᴱ 𝐚 𝐛)) (omega (arith, edges_length r)) }

pub D_large : (r : Ring) → Tidy r → Large (D r)
D_large r h = let w = spans_within (edges r) (ring_ends r h) in record { x = near (D r).x w.x; y = near (D r).y w.y; z = near (D r).z w.z }
  where
    near : (k : ℤ) → Near (length (edges r) * (5 * 10 ^ 9)) k → Near (2 * 10 ^ 13) k
    near k n = record { abs = omega (arith, n.abs, edges_length r, h.sized.1) }

base_near : (fs : List Ring) → ((r : Ring) → In r fs → Tidy r) → Near (length (all_edges fs) * (75 * 10 ^ 13)) (base fs)
unfolding base
base_near [] h = record { abs = omega arith }
base_near (r ∷ rs) h = record {
  abs = omega (arith, ints, (height_near r (h r (inl refl))).abs, (base_near rs (λ s i. h s (inr i))).abs, edges_length r, length-append (edges r) (all_edges rs));
}

pub kept_near : (fs : List Ring) → Consistent fs → Near (3072 * (75 * 10 ^ 13)) (kept_volume_of fs)
kept_near fs h =
    let near = subst (λ k. Near (length (all_edges fs) * (75 * 10 ^ 13)) k) (sym (kept_is fs)) (base_near fs (λ r i. (h.proper r i).tidy)) in
    record { abs = omega (arith, near.abs, h.limits.edges) }

pub edge_sum_large : (fs : List Ring) → Consistent fs → Large (edge_sum_of fs)
edge_sum_large fs h =
    let ends : EndsInside (all_edges fs) = λ e i. (let r = face_of e fs i in ring_ends r.0 (h.proper r.0 r.1).tidy e r.2) in
    subst Large (sym (edge_sum_is_whole fs h.once)) (widen (spans (all_edges fs)) (spans_within (all_edges fs) ends))
  where
    near : (k : ℤ) → Near (length (all_edges fs) * (5 * 10 ^ 9)) k → Near (2 * 10 ^ 13) k
    near k n = record { abs = omega (arith, n.abs, h.limits.edges) }

    widen : (v : V3) → Within (length (all_edges fs) * (5 * 10 ^ 9)) v → Large v
    widen v w = record { x = near v.x w.x; y = near v.y w.y; z = near v.z w.z }
