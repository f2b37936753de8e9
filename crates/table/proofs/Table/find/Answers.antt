use Rattle.std.proofs.Common.{arith}
use Rattle.table.proofs.Maps.{read, within}
use Rattle.table.proofs.Table.find.Goals as goal

pub index-requires : goal.index-requires
index-requires g c = omega (arith, within g.K.Ord.cmp _ c.self.invariant _ _ (rw (← c.self.view_is) at c.in-Ok.ensures))

pub returns-in-Ok : goal.returns-in-Ok
returns-in-Ok g c = rw (← c.self.view_is) (read g.K.Ord.cmp _ c.self.invariant _ _ (rw (← c.self.view_is) at c.in-Ok.ensures) _ c.index.ensures)
