use Rattle.std.proofs.Common.{sym, ◌∙◌}
use Rattle.faces.proofs.Pushes.{face_count}
use Rattle.faces.proofs.held.Faces.len.Goals as goal

pub returns : goal.returns
returns c = c.len.ensures ∙ sym (face_count c.args.self.now)
