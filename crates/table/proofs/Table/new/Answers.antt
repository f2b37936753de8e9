use Rattle.std.proofs.Common.{ap, ◌∙◌}
use Rattle.std.specs.FinMap.{from_sorted}
use Rattle.table.proofs.Maps.{map_nothing}
use Rattle.table.proofs.Table.new.Goals as goal

pub returns : goal.returns
returns g c = (ap from_sorted c.in_ok-entries.ensures.items ∙ map_nothing g.K.Ord.cmp, c.in_ok-entries.ensures.capacity)
