-- The law of histories, for each kind of call.
use Rattle.std.proofs.Common.{◌≡◌, ◌∷◌, ◌-ℤ◌, sym, refl, ◌∙◌, subst, ap₂}
use Rattle.algebra.specs.Vector.{dot}
use Rattle.solid.specs.Entering.{Entry, EnterSays, entered}
use Rattle.solid.specs.Faces.{Ring}
use Rattle.solid.specs.Reversal.{Negates}
use Rattle.solid.specs.Rules.{Consistent}
use Rattle.solid.specs.Roll.{enter, ask, Rolls}
use Rattle.solid.proofs.Answered.{roll_entered}
use Rattle.solid.proofs.Counting.{counts_agree}
use Rattle.solid.proofs.Turning.{negates}
use Rattle.hull.specs.Law.{CountsFromEvery, Law}
use Rattle.hull.specs.Meaning.{faces_of, answered_volume, answered_edge_sum}
use Rattle.hull.specs.declared.hull.Hull.{Hull}
use Rattle.tracking.proofs.Props.{kept_out}
use Rattle.hull.proofs.Props.{counted_out}

-- the faces of a hull are consistent
pub consistent : (h : Hull) → Consistent (faces_of h)
consistent h = (kept_out h.index.kept).consistent

pub counts : (h : Hull) → CountsFromEvery h
counts h q =
    let k = counted_out h.counted in
    counts_agree (faces_of h) (consistent h).once q ∙ ap₂ (λ v s. v -ℤ dot q s) (sym k.kept_volume) (sym k.edge_sum)

pub asked : (h : Hull) → Law ask h h
asked h = record { roll = λ calls r. (faces_of h, r, refl); counts = counts h }

pub entered_law : (h g : Hull) (ring : Ring) (x : Entry) → EnterSays (faces_of h) ring x → faces_of g ≡ entered (faces_of h) ring x → Law (enter ring) h g
entered_law h g ring x says e = record {
  roll = λ calls r. subst (Rolls (enter ring ∷ calls)) (sym e) (roll_entered calls (faces_of h) ring x r says);
  counts = counts g;
}

pub turned_round : (h : Hull) → Negates (faces_of h) (answered_volume h) (answered_edge_sum h)
turned_round h =
    let k = counted_out h.counted in
    let n = negates (faces_of h) (consistent h).once (λ r i. ((consistent h).proper r i).planar.1) in
    subst (λ v. Negates (faces_of h) v (answered_edge_sum h)) (sym k.kept_volume) (subst (Negates (faces_of h) _) (sym k.edge_sum) n)
