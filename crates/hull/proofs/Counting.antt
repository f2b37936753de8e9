-- The counts of one face more.
use Rattle.std.proofs.Common.{◌≡◌, ℕ, ◌+◌, ◌*◌, not, List, [], ◌∷◌, ◌++◌, length, ℤ, ◌+ℤ◌, filter, sym, refl, ap, ◌∙◌, subst, arith}
use Rattle.std.proofs.lemmas.List.{length-map}
use Rattle.algebra.specs.Vector.{vector, ◌+ᵛ◌, dot}
use Rattle.tracking.specs.Growth.{Reverses}
use Rattle.ring.proofs.Places.{no_reverse}
use Rattle.solid.specs.Corners.{corner_of, ring_of}
use Rattle.solid.specs.Faces.{Ring, Edge, flip, edges, all_edges, D, start, same_edge, open_edges_of}
use Rattle.solid.specs.Lists.{Distinct, has}
use Rattle.solid.specs.Rules.{Enterable, Consistent}
use Rattle.solid.specs.declared.Corner.{Corner as StoredCorner}
use Rattle.solid.proofs.Growth.{kept_more, sum_more}
use Rattle.solid.proofs.Members.{edges_length, all_edges_more}
use Rattle.solid.proofs.Opens.{open_more}
use Rattle.solid.proofs.Rolls.{consistent_more}
use Rattle.solid.proofs.Tests.{edge_tells}
use Rattle.hull.specs.Counts.{Counted}

module _ (fs : List Ring) (ring : List StoredCorner) (consistent : Consistent fs) (may : Enterable fs (ring_of ring)) (n : ℕ) (reverses : Reverses fs (ring_of ring) n) where
  once : Distinct (all_edges (fs ++ ring_of ring ∷ []))
  once = (consistent_more fs (ring_of ring) consistent may).once

  -- each edge closes its reverse, or is open itself
  pub opens_more : length (open_edges_of (fs ++ ring_of ring ∷ [])) + 2 * n ≡ length (open_edges_of fs) + length ring
  opens_more =
      let law = open_more same_edge edge_tells flip (λ x. refl) (all_edges fs) (edges (ring_of ring)) (subst Distinct (all_edges_more fs (ring_of ring)) once) (no_reverse ring may.proper.tidy) in
      let here : length (open_edges_of (fs ++ ring_of ring ∷ [])) ≡ length (filter (λ x. not (has same_edge (flip x) (all_edges fs ++ edges (ring_of ring)))) (all_edges fs ++ edges (ring_of ring))) = ap (λ (es : List Edge). length (filter (λ x. not (has same_edge (flip x) es)) es)) (all_edges_more fs (ring_of ring)) in
      omega (arith, law, here, reverses, edges_length (ring_of ring), length-map ring corner_of)

  pub counted_more : (gs : List Ring) (opens opens' : ℕ) (volume volume' : ℤ) (sum sum' : List ℤ) → gs ≡ fs ++ ring_of ring ∷ [] → Counted fs opens volume sum → opens' + 2 * n ≡ opens + length ring → volume' ≡ volume +ℤ dot (start (ring_of ring)) (D (ring_of ring)) → vector sum' ≡ vector sum +ᵛ D (ring_of ring) → Counted gs opens' volume' sum'
  counted_more gs opens opens' volume volume' sum sum' e c counted added summed = subst (λ (gs : List Ring). Counted gs opens' volume' sum') (sym e) (record {
    open_count = omega (arith, opens_more, c.open_count, counted);
    kept_volume = added ∙ ap (λ v. v +ℤ dot (start (ring_of ring)) (D (ring_of ring))) c.kept_volume ∙ sym (kept_more fs (ring_of ring));
    edge_sum = summed ∙ ap (λ v. v +ᵛ D (ring_of ring)) c.edge_sum ∙ sym (sum_more fs (ring_of ring) consistent.once once);
  })
