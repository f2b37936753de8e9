use Rattle.std.proofs.Common.{◌≡◌, ℕ, ◌+◌, ◌<◌, List, [], ◌∷◌, ◌++◌, length, get_or, take, sym, ap, ap₂, ◌∙◌, subst, arith, inl}
use Rattle.std.proofs.lemmas.List.{take_all, length_push}
use Rattle.solid.specs.Places.{no_edge}
use Rattle.solid.specs.Corners.{ring_of}
use Rattle.solid.specs.Faces.{Edge, edges}
use Rattle.ring.specs.Places.{edge, edge_of}
use Rattle.ring.proofs.Places.{edges_at, edges_length, few_at}
use Rattle.ring.proofs.Turns.{numbered_turn, numbered_end}
use Rattle.tracking.specs.Growth.{Grows}
use Rattle.tracking.specs.Tables.{edge_cmp, end_keys, edge_pairs}
use Rattle.tracking.proofs.Grows.{grows_one, grows_on, edge_pairs_more}
use Rattle.tracking.proofs.Orders.{edge_cmp_total, edge_cmp_tells}
use Rattle.index.proofs.index.growth.add_edges.Goals as goal
use Rattle.index.proofs.index.growth.add_edges.Goals.{In-Some}

pub loop-i-init-derived : goal.loop-i-init-derived
loop-i-init-derived c =
    let r = c.args.ring.now.corners.now in
    let from : c.into_iter-i-iterator.result.iter ≡ edges (ring_of r) = cc in
    let zero : c.into_iter-i-iterator.result.count ≡ 0 = cc in
    ((tt, tt, inl (omega (arith, zero, ap length from, edges_length r, few_at r c.args.ring.now.tidy))), tt)

-- the edge of a turn, with its number
turn : (c : In-Some) → (c.in-Some.i ≡ length c.loop-i.yielded) × (c.in-Some.i < length c.args.ring.now.corners.now) × (edge_of (c.in-Some.a, c.in-Some.b) ≡ edge c.args.ring.now.corners.now c.in-Some.i)
turn c = numbered_turn c.args.ring.now.corners.now (cc) (cc) c.loop-i.yielded c.loop-i.i-iterator c.loop-i.yielded_by c.next.result c.next.new.self c.in-Some.i (c.in-Some.a, c.in-Some.b) c.in-Some.is c.next.ensures.steps

pub overflow_add-first : goal.overflow_add-first
overflow_add-first c =
    let r = c.args.ring.now.corners.now in
    omega (arith, c.requires, (turn (goal.at.overflow_add-first c).In-Some).1, few_at r c.args.ring.now.tidy)

pub loop-i-preserved : goal.loop-i-preserved
loop-i-preserved c =
    let r = c.args.ring.now.corners.now in
    let es : List Edge = edges (ring_of r) in
    let i = c.in-Some.i in
    let t = turn (goal.at.loop-i-preserved c).In-Some in
    let here : end_keys (get_or es i no_edge) ≡ (c.in-Some.a.key, c.in-Some.b.key) = ap end_keys (edges_at r no_edge i t.1 ∙ sym t.2) in
    let one = c.insert.ensures in
    let whole = grows_on edge_cmp_total edge_cmp_tells c.args.table.now c.loop-i.table c.insert.new.self _ _ c.loop-i.invariant (grows_one edge_cmp_total edge_cmp_tells c.loop-i.table c.insert.new.self _ _ c.insert.result one.ok one.refuses one.room) in
    let ys = c.loop-i.yielded in
    let more : edge_pairs c.args.first (take (length (ys ++ (i, (c.in-Some.a, c.in-Some.b)) ∷ [])) es) ≡ edge_pairs c.args.first (take (length ys) es) ++ ((c.in-Some.a.key, c.in-Some.b.key), c.args.first + i) ∷ [] =
    ap (λ n. edge_pairs c.args.first (take n es)) (length_push ys (i, (c.in-Some.a, c.in-Some.b)) ∙ ap (λ n. n + 1) (sym t.0))
    ∙ edge_pairs_more c.args.first es i no_edge (omega (arith, t.1, edges_length r))
    ∙ ap₂ (λ n k. edge_pairs c.args.first (take n es) ++ (k, c.args.first + i) ∷ []) t.0 here in
    subst (λ (ps : List ((ℕ × ℕ) × ℕ)). Grows edge_cmp c.args.table.now ps c.insert.new.self) (sym more) whole

pub returns : goal.returns
returns c =
    let r = c.args.ring.now.corners.now in
    let long = numbered_end r (cc) (cc) c.loop-i.yielded c.loop-i.i-iterator c.loop-i.yielded_by c.next.result c.next.new.self c.in-None.is c.next.ensures.steps in
    subst (λ es. Grows edge_cmp c.args.table.now (edge_pairs c.args.first es) c.loop-i.table) (take_all (length c.loop-i.yielded) (edges (ring_of r)) (omega (arith, long, edges_length r))) c.loop-i.invariant
