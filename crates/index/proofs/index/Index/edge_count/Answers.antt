use Rattle.std.proofs.Common.{sym, ◌∙◌}
use Rattle.tracking.proofs.Keys.{edge_total}
use Rattle.index.proofs.index.Index.edge_count.Goals as goal

pub returns : goal.returns
returns c = c.corner_count.ensures ∙ sym (edge_total c.args.self.now.faces)
