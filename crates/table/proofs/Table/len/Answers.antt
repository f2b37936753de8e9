use Rattle.std.proofs.Common.{sym, ◌∙◌}
use Rattle.table.proofs.Maps.{len_sorted}
use Rattle.table.proofs.Table.len.Goals as goal

pub returns : goal.returns
returns g c = rw (← c.self.view_is) (c.len.ensures ∙ c.self.inside.entries.ok.0 ∙ sym (len_sorted g.K.Ord.cmp _ c.self.invariant))
