-- Each pair of edges is tested once. At the end all are clear, and where the loops are left one is not.
use Rattle.std.proofs.Common.{◌≡◌, ℕ, ◌<◌, Bool, length, Decides, sym, ap, subst, inl, inr, arith, below_more}
use Rattle.std.proofs.lemmas.Bool.{cases_lt, both_ways, false≢true}
use Rattle.std.proofs.lemmas.List.{length_push}
use Rattle.solid.specs.Corners.{ring_of}
use Rattle.solid.specs.Faces.{Edge, edges}
use Rattle.ring.specs.Places.{Clear, edge, edge_of}
use Rattle.ring.proofs.Places.{edges_length, edge_inside, starts_apart, ends_meet, few_at, simple_from, pair_from}
use Rattle.ring.proofs.Turns.{numbered_turn, numbered_end, few_turn, few_end}
use Rattle.ring.proofs.ring.Ring.is_simple.Goals as goal
use Rattle.ring.proofs.ring.Ring.is_simple.Goals.{In-Some, In-Some-f}

pub pairs-init-derived : goal.pairs-init-derived
pairs-init-derived c =
    let r = c.args.self.now.corners.now in
    let from : c.into_iter-i-iterator.result.iter ≡ edges (ring_of r) = cc in
    let zero : c.into_iter-i-iterator.result.count ≡ 0 = cc in
    ((tt, tt, inl (omega (arith, zero, ap length from, edges_length r, few_at r c.args.self.now.tidy))), tt)

-- the later edge of a pair
later : (c : In-Some) → (c.in-Some.i ≡ length c.pairs.yielded) × (c.in-Some.i < length c.args.self.now.corners.now) × (edge_of c.in-Some.e ≡ edge c.args.self.now.corners.now c.in-Some.i)
later c =
    numbered_turn c.args.self.now.corners.now (cc) (cc) c.pairs.yielded c.pairs.i-iterator c.pairs.yielded_by c.next.result c.next.new.self c.in-Some.i c.in-Some.e c.in-Some.is c.next.ensures.steps

-- and the earlier
earlier : (c : In-Some-f) → c.in-Some.i < length c.args.self.now.corners.now → (length c.loop-f.yielded < c.in-Some.i) × (edge_of c.in-Some-f.f ≡ edge c.args.self.now.corners.now (length c.loop-f.yielded))
earlier c l =
    few_turn c.args.self.now.corners.now c.in-Some.i (omega (arith, l)) (cc) (cc) c.loop-f.yielded c.loop-f.f-iterator c.loop-f.yielded_by c.next-in-loop-f.result c.next-in-loop-f.new.self c.in-Some-f.f c.in-Some-f.is c.next-in-loop-f.ensures.steps

pub is_clear-requires : goal.is_clear-requires
is_clear-requires c =
    let r = c.args.self.now.corners.now in
    let tidy = c.args.self.now.tidy in
    let l = later (goal.at.is_clear-requires c).In-Some in
    let e = earlier (goal.at.is_clear-requires c).In-Some-f l.1 in
    let j-in : length c.loop-f.yielded < length r = omega (arith, e.0, l.1) in
    record {
      first = edge_inside r tidy _ j-in _ e.1;
      second = edge_inside r tidy _ l.1 _ l.2;
      starts = starts_apart r tidy _ _ l.1 e.0 _ _ e.1 l.2;
      there = ends_meet r tidy _ _ j-in l.1 _ _ e.1 l.2;
      back = ends_meet r tidy _ _ l.1 j-in _ _ l.2 e.1;
    }

-- what the test says of the pair
tested : {e e' f f' : Edge} (t : Bool) → e ≡ e' → f ≡ f' → Decides t (Clear e f) → Decides t (Clear e' f')
tested {e} {e'} {f} {f'} t p q h = subst (λ x. Decides t (Clear e' x)) q (subst (λ x. Decides t (Clear x f)) p h)

pub loop-f-preserved : goal.loop-f-preserved
loop-f-preserved c =
    let r = c.args.self.now.corners.now in
    let l = later (goal.at.loop-f-preserved c).In-Some in
    let e = earlier (goal.at.loop-f-preserved c).In-Some-f l.1 in (
      c.loop-f.invariant.0,
      subst (λ n. (q : ℕ) → q < n → Clear (edge r q) (edge r c.in-Some.i)) (sym (length_push c.loop-f.yielded c.in-Some-f.f))
          (below_more (λ q. Clear (edge r q) (edge r c.in-Some.i)) (length c.loop-f.yielded) c.loop-f.invariant.1 ((tested c.is_clear.result e.1 l.2 c.is_clear.ensures).0 c.if-not-is_clear.false)),
    )

pub pairs-preserved : goal.pairs-preserved
pairs-preserved c =
    let r = c.args.self.now.corners.now in
    let i = length c.pairs.yielded in
    let l = later (goal.at.pairs-preserved c).In-Some in
    let long = few_end r c.in-Some.i (omega (arith, l.1)) (cc) (cc) c.loop-f.yielded c.loop-f.f-iterator c.loop-f.yielded_by c.next-in-loop-f.result c.next-in-loop-f.new.self c.in-None-f.is c.next-in-loop-f.ensures.steps in (
      c.loop-f.invariant.0,
      λ p q a b. elim (cases_lt p i) [
        | inl before ↦ c.pairs.invariant.1 p q a before
        | inr at_i ↦
            let same : c.in-Some.i ≡ p = omega (arith, l.0, b, length_push c.pairs.yielded (c.in-Some.i, c.in-Some.e)) in
            subst (λ n. Clear (edge r q) (edge r n)) same (c.loop-f.invariant.1 q (omega (arith, long, same)))
      ],
    )

pub returns-in-None : goal.returns-in-None
returns-in-None c =
    let r = c.args.self.now.corners.now in
    let long = numbered_end r (cc) (cc) c.pairs.yielded c.pairs.i-iterator c.pairs.yielded_by c.next.result c.next.new.self c.in-None.is c.next.ensures.steps in
    (λ _. simple_from r c.args.self.now.tidy (λ p q a b. c.pairs.invariant.1 p q a (omega (arith, long))), λ _. c.pairs.invariant.0)

pub returns-then-not-is_clear : goal.returns-then-not-is_clear
returns-then-not-is_clear c =
    let r = c.args.self.now.corners.now in
    let l = later (goal.at.returns-then-not-is_clear c).In-Some in
    let e = earlier (goal.at.returns-then-not-is_clear c).In-Some-f l.1 in (
      λ t. absurd (false≢true t),
      λ simple. absurd (both_ways c.is_clear.result c.if-not-is_clear.true
          ((tested c.is_clear.result e.1 l.2 c.is_clear.ensures).1 (pair_from r simple (length c.loop-f.yielded) c.in-Some.i (omega (arith, e.0, l.1)) l.1))),
    )
