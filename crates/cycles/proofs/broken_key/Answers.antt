use Rattle.std.proofs.Common.{◌≡◌, ℕ, ◌+◌, ◌<◌, Bool, true, false, not, eqb, List, map, length, get_or, Option, None, Some, sym, refl, ap, ◌∙◌, subst, true≢false, arith, lit<, eqb-true, eq-eqb}
use Rattle.std.specs.Option.{option_eq}
use Rattle.std.proofs.lemmas.List.{length-map, get_or-map}
use Rattle.index.specs.Closed.{faces_in}
use Rattle.index.specs.Meaning.{faces_of, places_by_key}
use Rattle.index.specs.declared.index.Index.{Index}
use Rattle.index.proofs.Meanings.{consistent, ordered, closed_out}
use Rattle.marks.specs.Bits.{members, Held}
use Rattle.marks.specs.declared.Marks.{Marks}
use Rattle.solid.specs.Certifying.{LeastNotRound}
use Rattle.solid.specs.Cycles.{GoneRound}
use Rattle.solid.specs.Faces.{all_edges}
use Rattle.solid.specs.Places.{edge_at, key_at}
use Rattle.solid.proofs.Cycling.{Rounds, rounds_none, rounds_new, rounds_same, rounds_all, rounds_fail}
use Rattle.tracking.specs.Tables.{end_keys}
use Rattle.cycles.proofs.broken_key.Goals as goal
use Rattle.cycles.proofs.broken_key.Goals.{In-loop-key, then-ne, else-ne}

-- ---- the edges by key, of x, which is the index y
module _ (x y : Index) (same : x ≡ y) (es : List ((ℕ × ℕ) × ℕ)) (by : map (λ e. e.1) es ≡ places_by_key x) where
  order : map (λ e. e.1) es ≡ places_by_key y
  order = by ∙ ap places_by_key same

  long : length es ≡ length (places_by_key y)
  long = sym (length-map es (λ e. e.1)) ∙ ap length order

  placed : (i : ℕ) → i < length es → (get_or es i ((0, 0), 0)).1 ≡ get_or (places_by_key y) i 0
  placed i l = sym (get_or-map (λ (e : (ℕ × ℕ) × ℕ). e.1) es i ((0, 0), 0) 0 l) ∙ ap (λ l. get_or l i 0) order

  within : (i : ℕ) → i < length es → (get_or es i ((0, 0), 0)).1 < length (all_edges (faces_of y))
  within i l = subst (λ n. n < length (all_edges (faces_of y))) (sym (placed i l)) ((ordered y).within i (omega (arith, l, long)))

  keyed : (i : ℕ) → i < length es → (get_or es i ((0, 0), 0)).0 ≡ end_keys (edge_at (faces_of x) (get_or es i ((0, 0), 0)).1) → (get_or es i ((0, 0), 0)).0.0 ≡ key_at (faces_of y) (get_or (places_by_key y) i 0)
  keyed i l e = ap (λ k. k.0) e ∙ ap (λ z. key_at (faces_of z) (get_or es i ((0, 0), 0)).1) same ∙ ap (key_at (faces_of y)) (placed i l)

-- ---- the last key
module _ (o : Option ℕ) (k : ℕ) (t : Bool) (e : t ≡ not (option_eq eqb o (Some k))) where
  same_key : t ≡ false → o ≡ Some k
  same_key f = by o (sym f ∙ e)
    where
      by : (o : Option ℕ) → false ≡ not (option_eq eqb o (Some k)) → o ≡ Some k
      by None g = absurd (true≢false (sym g))
      by (Some v) g = at (eqb v k) refl g
        where
          at : (b : Bool) → eqb v k ≡ b → false ≡ not b → Some v ≡ Some k
          at true p g = ap Some (eqb-true v k p)
          at false p g = absurd (true≢false (sym g))

  other_key : t ≡ true → o ≡ Some k → ⊥
  other_key f same = true≢false (sym f ∙ e ∙ ap (λ p. not (option_eq eqb p (Some k))) same ∙ ap not (eq-eqb k k refl))

held : Marks 48 → ℕ → Type 0
held m = Held (members m.words)

pub loop-key-init : goal.loop-key-init
loop-key-init c = rounds_none _ _ _ (λ p h. true≢false (sym h ∙ c.none-marks.ensures p))

pub go_round-requires : goal.go_round-requires
go_round-requires c = record { within = within _ _ c.index.ensures _ c.edges_by_key-key-items.ensures.places c.loop-key.key-index c.loop-key-test.true; stays = c.loop-key.invariant.stays }

pub has-requires : goal.has-requires
has-requires c = (lit< tt, omega (arith, within _ _ c.index.ensures _ c.edges_by_key-key-items.ensures.places c.loop-key.key-index c.loop-key-test.true, (consistent c.args.closed.now.index.now).limits.edges))

-- the place at hand is the next in order, and the key is the one at which its edge begins
at_place : (c : In-loop-key) → (get_or c.edges_by_key-key-items.result.now c.loop-key.key-index ((0, 0), 0)).1 ≡ get_or (places_by_key c.args.closed.now.index.now) c.loop-key.key-index 0
at_place c = placed _ _ c.index.ensures _ c.edges_by_key-key-items.ensures.places c.loop-key.key-index c.loop-key-test.true

key_is : (c : In-loop-key) → (get_or c.edges_by_key-key-items.result.now c.loop-key.key-index ((0, 0), 0)).0.0 ≡ key_at (faces_in c.args.closed.now) (get_or (places_by_key c.args.closed.now.index.now) c.loop-key.key-index 0)
key_is c = keyed _ _ c.index.ensures _ c.edges_by_key-key-items.ensures.places c.loop-key.key-index c.loop-key-test.true (c.edges_by_key-key-items.ensures.keys c.loop-key.key-index c.loop-key-test.true)

pub returns-then-not-has : goal.returns-then-not-has
unfolding held
returns-then-not-has c =
    let y = c.args.closed.now.index.now in
    let b = (goal.at.returns-then-not-has c).In-loop-key in
    let i = c.loop-key.key-index in
    let place = (get_or c.edges_by_key-key-items.result.now i ((0, 0), 0)).1 in
    let key = (get_or c.edges_by_key-key-items.result.now i ((0, 0), 0)).0.0 in
    let total = long _ _ c.index.ensures _ c.edges_by_key-key-items.ensures.places in
    let range : i < length (places_by_key y) = omega (arith, total, c.loop-key-test.true) in
    let out : held c.if-ne.marks place → ⊥ = λ h. true≢false (sym h ∙ sym c.has.ensures ∙ c.if-not-has.true) in
    elim c.if-ne.branch [
      | then-ne w ↦ absurd (out (subst (λ (m : Marks 48). held m place) (sym w.marks-is) w.go_round.ensures.first))
      | else-ne w ↦ subst (LeastNotRound (faces_of y)) (sym (key_is b))
          (rounds_fail (faces_of y) (places_by_key y) (consistent y) (ordered y) (held c.loop-key.marks) i c.loop-key.last (omega (arith, range)) c.loop-key.invariant (closed_out c.args.closed.now) range
          (same_key c.loop-key.last key c.ne.result c.ne.ensures w.if-ne.false ∙ ap Some (key_is b))
          (λ h. out (subst (λ (m : Marks 48). held m place) (sym w.marks-is) (subst (held c.loop-key.marks) (sym (at_place b)) h))))
    ]

pub loop-key-preserved : goal.loop-key-preserved
unfolding held
loop-key-preserved c =
    let y = c.args.closed.now.index.now in
    let order = places_by_key y in
    let b = (goal.at.loop-key-preserved c).In-loop-key in
    let i = c.loop-key.key-index in
    let place = (get_or c.edges_by_key-key-items.result.now i ((0, 0), 0)).1 in
    let key = (get_or c.edges_by_key-key-items.result.now i ((0, 0), 0)).0.0 in
    let total = long _ _ c.index.ensures _ c.edges_by_key-key-items.ensures.places in
    let range : i < length order = omega (arith, total, c.loop-key-test.true) in
    let old = held c.loop-key.marks in
    let met : held c.if-ne.marks place = sym c.has.ensures ∙ c.if-not-has.false in
    elim c.if-ne.branch [
      | then-ne w ↦ (
          let new = held w.go_round.new.marks in
          let gone : GoneRound (faces_of y) (get_or order i 0) old new = subst (λ p. GoneRound (faces_of y) p old new) (at_place b) w.go_round.ensures in
          let rounds = rounds_new (faces_of y) order (consistent y) (ordered y) old new i c.loop-key.last range
          (λ e. other_key c.loop-key.last key c.ne.result c.ne.ensures w.if-ne.true (e ∙ ap Some (sym (key_is b)))) c.loop-key.invariant gone in
          subst (λ (m : Marks 48). Rounds (faces_of y) order (held m) (i + 1) c.if-ne.last) (sym w.marks-is)
          (subst (Rounds (faces_of y) order new (i + 1)) (sym (w.last-is ∙ ap Some (key_is b))) rounds)
          )
      | else-ne w ↦ (
          let here : old (get_or order i 0) = subst (λ p. old p) (at_place b) (subst (λ (m : Marks 48). held m place) w.marks-is met) in
          let rounds = rounds_same (faces_of y) order (consistent y) (ordered y) old i c.loop-key.last (same_key c.loop-key.last key c.ne.result c.ne.ensures w.if-ne.false ∙ ap Some (key_is b)) here c.loop-key.invariant in
          subst (λ (m : Marks 48). Rounds (faces_of y) order (held m) (i + 1) c.if-ne.last) (sym w.marks-is)
          (subst (Rounds (faces_of y) order old (i + 1)) (sym w.last-is) rounds)
          )
    ]

pub returns : goal.returns
returns c =
    let y = c.args.closed.now.index.now in
    let total = long _ _ c.index.ensures _ c.edges_by_key-key-items.ensures.places in
    rounds_all (faces_of y) (places_by_key y) (consistent y) (ordered y) (Held (members c.loop-key.marks.words)) c.loop-key.key-index c.loop-key.last (omega (arith, total, c.loop-key.auto.key-index-end)) c.loop-key.invariant (omega (arith, total, c.loop-key-test.false))
