-- A turn adds the vector product of one edge's ends, and what is left gives the rest of D.
use Rattle.std.proofs.Common.{◌≡◌, ◌+◌, ◌<◌, ◌≤◌, length, sym, ap, ◌∙◌, subst, ap₂, arith}
use Rattle.std.proofs.lemmas.List.{length_push}
use Rattle.algebra.specs.Vector.{vector, ◌+ᵛ◌, cross, Large}
use Rattle.algebra.proofs.Bounds.{within_more}
use Rattle.solid.specs.Faces.{span}
use Rattle.ring.specs.Places.{edge, edge_of}
use Rattle.ring.proofs.Places.{edge_inside}
use Rattle.ring.proofs.Planes.{SoFar, sum_large, sum_all, sum_more, term_within}
use Rattle.ring.proofs.Turns.{edge_turn, edge_end}
use Rattle.ring.proofs.ring.Ring.new.Goals as goal
use Rattle.ring.proofs.ring.Ring.new.Goals.{In-Some, After-cross}

turn : (c : In-Some) → (length c.loop-from.yielded < length c.args.corners.now) × (edge_of (c.in-Some.from, c.in-Some.to) ≡ edge c.args.corners.now (length c.loop-from.yielded))
turn c = edge_turn c.args.corners.now (cc) c.loop-from.yielded c.loop-from.from-iterator c.loop-from.yielded_by c.next.result c.next.new.self (c.in-Some.from, c.in-Some.to) c.in-Some.is c.next.ensures.steps

pub wide-a-requires : goal.wide-a-requires
wide-a-requires c = let t = turn (goal.at.wide-a-requires c).In-Some in (edge_inside c.args.corners.now c.requires _ t.0 _ t.1).0

pub wide-b-requires : goal.wide-b-requires
wide-b-requires c = let t = turn (goal.at.wide-b-requires c).In-Some in (edge_inside c.args.corners.now c.requires _ t.0 _ t.1).1

-- what `cross` returned
term_is : (c : After-cross) → edge_of (c.in-Some.from, c.in-Some.to) ≡ edge c.args.corners.now (length c.loop-from.yielded) → vector c.cross.result ≡ span (edge c.args.corners.now (length c.loop-from.yielded))
term_is c t = c.cross.ensures ∙ ap₂ cross c.wide-a.ensures.is c.wide-b.ensures.is ∙ ap span t

pub plus-more-requires : goal.plus-more-requires
plus-more-requires c =
    let r = c.args.corners.now in
    let t = turn (goal.at.plus-more-requires c).In-Some in
    let d = (goal.at.plus-more-requires c).After-cross in
    let l : length c.loop-from.yielded ≤ length r = omega (arith, t.0) in
    (sum_large r c.requires (length c.loop-from.yielded) (vector c.loop-from.normal) l c.loop-from.invariant, subst Large (sym (term_is d t.1)) (within_more tt (term_within r c.requires (length c.loop-from.yielded) t.0)))

pub loop-from-preserved : goal.loop-from-preserved
loop-from-preserved c =
    let r = c.args.corners.now in
    let i = length c.loop-from.yielded in
    let t = turn (goal.at.loop-from-preserved c).In-Some in
    let more = c.plus-more.ensures ∙ ap (λ v. vector c.loop-from.normal +ᵛ v) (term_is (goal.at.loop-from-preserved c).After-cross t.1) in
    subst (λ n. SoFar r n (vector c.plus-more.result)) (sym (length_push c.loop-from.yielded (c.in-Some.from, c.in-Some.to)))
    (subst (SoFar r (i + 1)) (sym more) (sum_more r c.requires i (vector c.loop-from.normal) t.0 c.loop-from.invariant))

pub invariant_of-result : goal.invariant_of-result
invariant_of-result c =
    let r = c.args.corners.now in
    let i = length c.loop-from.yielded in
    let long = edge_end r (cc) c.loop-from.yielded c.loop-from.from-iterator c.loop-from.yielded_by c.next.result c.next.new.self c.in-None.is c.next.ensures.steps in
    let l : i ≤ length r = omega (arith, long) in
    let m : length r ≤ i = omega (arith, long) in
    record {
      tidy = c.requires;
      is_normal = sum_all r i (vector c.loop-from.normal) m c.loop-from.invariant;
      large = sum_large r c.requires i (vector c.loop-from.normal) l c.loop-from.invariant;
    }
