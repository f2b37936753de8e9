use Rattle.marks.proofs.Words.{none_in}
use Rattle.marks.proofs.Marks.none.Goals as goal

pub returns : goal.returns
returns g c = none_in g.row.N
