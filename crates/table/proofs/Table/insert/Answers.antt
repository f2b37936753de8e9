-- The three ways of an insertion: the key is there, there is no room, and the entry goes to its place.
use Rattle.std.proofs.Common.{◌≡◌, true, is_ok, true≢false, sym, refl, subst, ap, ◌∙◌, T, arith}
use Rattle.std.proofs.lemmas.Bool.{cond-true}
use Rattle.std.specs.List.{insert as list_insert}
use Rattle.std.specs.FinMap.{is_sorted, from_sorted}
use Rattle.table.proofs.Maps.{stays, not_new, at_most, len_sorted, sorted_insert, map_insert, on_ok, not_both}
use Rattle.table.proofs.Table.insert.Given as given
use Rattle.table.proofs.Table.insert.Goals as goal
use Rattle.table.proofs.Table.insert.Goals.{After-map_err}

pub returns-in_default-clause-ok : goal.returns-in_default-clause-ok
returns-in_default-clause-ok g c = stays _ c.args.key c.args.value _ c.in_default.ensures

pub returns-in_default-clause-refuses : goal.returns-in_default-clause-refuses
returns-in_default-clause-refuses g c = (λ e. absurd (true≢false (sym e)), λ h. absurd (not_new _ c.args.key c.args.value _ c.in_default.ensures h.0))

pub returns-then-len-capacity-clause-refuses : goal.returns-then-len-capacity-clause-refuses
returns-then-len-capacity-clause-refuses g c = (λ _. (c.in-Err.ensures.1, rw (← c.self.view_is, len_sorted g.K.Ord.cmp _ c.self.invariant) (omega arith)), λ _. refl)

pub insert-requires : goal.insert-requires
insert-requires g c = omega (arith, at_most g.K.Ord.cmp _ c.self.invariant _ _ (rw (← c.self.view_is) at c.in-Err.ensures))

-- there is room, so the vector takes the entry in
done : (g : given.Over) (c : After-map_err g) → is_ok c.insert.result ≡ true
done g c = c.insert.ensures.succeeds (omega arith)

items : (g : given.Over) (c : After-map_err g) → c.insert.new.self.items ≡ list_insert c.self.inside.entries.items c.in-Err.at (c.args.key, c.args.value)
items g c = c.insert.ensures.items ∙ cond-true _ _ _ (done g c)

pub invariant_of-self : goal.invariant_of-self
invariant_of-self g c =
    subst (λ xs. T (is_sorted g.K.Ord.cmp xs)) (sym (items g c))
    (sorted_insert g.K.Ord.cmp _ c.self.invariant c.args.key c.args.value _ (rw (← c.self.view_is) at c.in-Err.ensures))

pub returns-clause-ok : goal.returns-clause-ok
returns-clause-ok g c =
    on_ok c.map_err.result (ap from_sorted (items g c)
    ∙ rw (← c.self.view_is) (map_insert g.K.Ord.cmp _ c.self.invariant c.args.key c.args.value _ (rw (← c.self.view_is) at c.in-Err.ensures)))

pub returns-clause-refuses : goal.returns-clause-refuses
returns-clause-refuses g c = (
  λ e. absurd (not_both c.map_err.result (c.map_err.ensures.variant ∙ done g c) e),
  λ h. absurd (c.if-len-capacity.false (omega (arith, rw (← c.self.view_is, len_sorted g.K.Ord.cmp _ c.self.invariant) at h.1))),
)
