use Rattle.table.proofs.Maps.{map_nothing}
use Rattle.table.proofs.Table.clear.Goals as goal

pub returns-clause-map : goal.returns-clause-map
returns-clause-map g c = cc (map_nothing {V = g.row.V.Denot} g.K.Ord.cmp)
