use Rattle.std.proofs.Common.{sym, ◌∙◌}
use Rattle.std.proofs.lemmas.List.{nil_from_length}
use Rattle.solid.proofs.Closing.{none_open_closed}
use Rattle.hull.specs.Meaning.{faces_of}
use Rattle.hull.proofs.Props.{counted_out}
use Rattle.hull.proofs.hull.Hull.closed.Goals as goal

pub new-requires : goal.new-requires
new-requires c =
    let h = c.args.self.now in
    none_open_closed (faces_of h) (nil_from_length _ (sym (counted_out h.counted).open_count ∙ c.if-self-eq0.true))
