use Rattle.std.proofs.Common.{◌≡◌, ℕ, ◌<◌, false, true, Some, None, Option, is_some, length, sym, ap, ◌∙◌, subst, ap₂, true≢false, arith, below_more}
use Rattle.std.specs.Option.{MatchOption}
use Rattle.fault.specs.declared.shape.ShapeFault.TheVariants.{OpenEdge}
use Rattle.solid.specs.Faces.{Corner, Edge, flip, all_edges}
use Rattle.solid.specs.Lists.{In}
use Rattle.solid.specs.Places.{edge_at}
use Rattle.solid.specs.Soundness.{Closed}
use Rattle.solid.proofs.Closing.{in_open_edges, closed_none_open}
use Rattle.solid.proofs.Places.{place_of, edge_among}
use Rattle.index.specs.Meaning.{faces_of}
use Rattle.index.proofs.Meanings.{twin_found}
use Rattle.index.proofs.index.Index.closed.Goals as goal

-- what is said of nothing, and of something
on_none : (A : Type 0) (B : ℕ → Type 0) (r : Option ℕ) → MatchOption r A B → is_some r ≡ false → A
on_none A B None a e = a
on_none A B (Some n) b e = absurd (true≢false e)

on_some : (A : Type 0) (B : ℕ → Type 0) (r : Option ℕ) → MatchOption r A B → is_some r ≡ true → (n : ℕ) × B n
on_some A B None a e = absurd (true≢false (sym e))
on_some A B (Some n) b e = (n, b)

-- an edge without its reverse is open
pub returns-then-is_none : goal.returns-then-is_none
returns-then-is_none c =
    let x = c.args.self.now in
    let fs = faces_of x in
    let p = c.loop-place.place in
    let l : p < length (all_edges fs) = omega (arith, c.loop-place-test.true, c.edge_count-place-end.ensures) in
    let out = on_none _ _ c.find.result (twin_found x p c.next.result l c.next.ensures _ _ c.key-from.ensures c.key-to.ensures c.find.result c.find.ensures) c.if-is_none.ensures in
    (edge_at fs p, in_open_edges fs (edge_at fs p) (edge_among fs p l) out, ap₂ OpenEdge c.key-from.ensures (c.key-to.ensures ∙ ap (λ (d : Corner). d.key) c.next.ensures.joined))

pub loop-place-preserved : goal.loop-place-preserved
loop-place-preserved c =
    let x = c.args.self.now in
    let fs = faces_of x in
    let p = c.loop-place.place in
    let l : p < length (all_edges fs) = omega (arith, c.loop-place-test.true, c.edge_count-place-end.ensures) in
    let t = on_some _ _ c.find.result (twin_found x p c.next.result l c.next.ensures _ _ c.key-from.ensures c.key-to.ensures c.find.result c.find.ensures) c.if-is_none.ensures in
    below_more (λ p. In (flip (edge_at fs p)) (all_edges fs)) p c.loop-place.invariant (subst (λ (e : Edge). In e (all_edges fs)) t.1.reverse (edge_among fs t.0 t.1.within))

-- each edge has its reverse: none is open
pub invariant_of-result : goal.invariant_of-result
invariant_of-result c =
    let fs = faces_of c.args.self.now in
    let closed : Closed fs = λ e i. (
    let t = place_of fs e i in
    subst (λ (d : Edge). In (flip d) (all_edges fs)) (sym t.2) (c.loop-place.invariant t.0 (omega (arith, t.1, c.loop-place-test.false, c.edge_count-place-end.ensures)))
    ) in
    record { closed = ap length (closed_none_open fs closed) }
