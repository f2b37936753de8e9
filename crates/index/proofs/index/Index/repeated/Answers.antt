use Rattle.std.proofs.Common.{◌≡◌, ℕ, ◌<◌, length, is_some, sym, ap, ◌∙◌, subst, arith, below_more}
use Rattle.std.proofs.lemmas.List.{length_push}
use Rattle.std.specs.FinMap.{find}
use Rattle.solid.specs.Corners.{ring_of}
use Rattle.solid.specs.Faces.{all_edges, same_edge}
use Rattle.solid.specs.Lists.{In, has}
use Rattle.ring.specs.Places.{edge, edge_of}
use Rattle.ring.proofs.Places.{edge_in}
use Rattle.ring.proofs.Turns.{edge_turn, edge_end}
use Rattle.index.specs.Meaning.{faces_of}
use Rattle.tracking.specs.Tables.{edge_cmp, end_keys, edge_pairs}
use Rattle.tracking.proofs.Edges.{found_edge, first_repeated, fresh_from, is_there, not_there}
use Rattle.index.proofs.Meanings.{edge_found}
use Rattle.index.proofs.index.Index.repeated.Goals as goal
use Rattle.index.proofs.index.Index.repeated.Goals.{In-Some, After-is_some}

turn : (c : In-Some) → (length c.loop-a.yielded < length c.args.ring.now) × (edge_of (c.in-Some.a, c.in-Some.b) ≡ edge c.args.ring.now (length c.loop-a.yielded))
turn c = edge_turn c.args.ring.now (cc) c.loop-a.yielded c.loop-a.a-iterator c.loop-a.yielded_by c.next.result c.next.new.self (c.in-Some.a, c.in-Some.b) c.in-Some.is c.next.ensures.steps

-- what the test says of the edge at hand
tested : (c : After-is_some) → (length c.loop-a.yielded < length c.args.ring.now) × (edge_of (c.in-Some.a, c.in-Some.b) ≡ edge c.args.ring.now (length c.loop-a.yielded)) → c.is_some.result ≡ has same_edge (edge c.args.ring.now (length c.loop-a.yielded)) (all_edges (faces_of c.args.self.now))
tested c t =
    let x = c.args.self.now in
    let fs = faces_of x in
    let r = c.args.ring.now in
    let n = length c.loop-a.yielded in
    c.is_some.ensures
    ∙ ap is_some (c.find.ensures ∙ edge_found x _ ∙ ap (λ e. find edge_cmp (end_keys e) (edge_pairs 0 (all_edges fs))) t.1)
    ∙ found_edge fs (ring_of r) c.requires (edge r n) (edge_in r n t.0)

pub returns-then-is_some : goal.returns-then-is_some
returns-then-is_some c =
    let fs = faces_of c.args.self.now in
    let r = c.args.ring.now in
    let n = length c.loop-a.yielded in
    let t = turn (goal.at.returns-then-is_some c).In-Some in
    let there = is_there (edge r n) (all_edges fs) c.is_some.result (tested (goal.at.returns-then-is_some c).After-is_some t) c.if-is_some.true in
    (edge r n, first_repeated fs r n t.0 c.loop-a.invariant there, ap (λ e. e.0.key) t.1, ap (λ e. e.1.key) t.1)

pub loop-a-preserved : goal.loop-a-preserved
loop-a-preserved c =
    let fs = faces_of c.args.self.now in
    let r = c.args.ring.now in
    let n = length c.loop-a.yielded in
    subst (λ m. (j : ℕ) → j < m → In (edge r j) (all_edges fs) → ⊥) (sym (length_push c.loop-a.yielded (c.in-Some.a, c.in-Some.b)))
    (below_more (λ j. In (edge r j) (all_edges fs) → ⊥) n c.loop-a.invariant (not_there (edge r n) (all_edges fs) c.is_some.result (tested (goal.at.loop-a-preserved c).After-is_some (turn (goal.at.loop-a-preserved c).In-Some)) c.if-is_some.false))

pub returns : goal.returns
returns c =
    let r = c.args.ring.now in
    let long = edge_end r (cc) c.loop-a.yielded c.loop-a.a-iterator c.loop-a.yielded_by c.next.result c.next.new.self c.in-None.is c.next.ensures.steps in
    fresh_from (faces_of c.args.self.now) r (λ j l. c.loop-a.invariant j (omega (arith, l, long)))
