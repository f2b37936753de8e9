use Rattle.std.proofs.Common.{sym, ◌∙◌}
use Rattle.std.specs.FinMap.{entries-from_sorted}
use Rattle.table.proofs.Table.entries.Goals as goal

pub returns : goal.returns
returns g c = rw (← c.self.view_is) (c.deref.ensures.value ∙ sym (entries-from_sorted g.K.Ord.cmp _ c.self.invariant))
