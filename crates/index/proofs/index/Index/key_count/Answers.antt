use Rattle.std.proofs.Common.{◌∙◌}
use Rattle.index.proofs.Meanings.{keys_total}
use Rattle.index.proofs.index.Index.key_count.Goals as goal

pub returns : goal.returns
returns c = let x = c.args.self.now in c.len.ensures ∙ keys_total x
