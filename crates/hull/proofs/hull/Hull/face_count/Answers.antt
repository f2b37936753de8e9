use Rattle.hull.proofs.Laws.{asked}
use Rattle.hull.proofs.hull.Hull.face_count.Goals as goal

pub returns : goal.returns
returns c = record { value = c.face_count.ensures; law = asked c.args.self.now }
