use Rattle.std.proofs.Common.{sym, ap, ◌∙◌, arith}
use Rattle.solid.specs.Faces.{Corner}
use Rattle.tracking.proofs.Keys.{edge_total}
use Rattle.tracking.proofs.Places.{start_held}
use Rattle.index.proofs.index.Index.key.Goals as goal

pub key-requires : goal.key-requires
key-requires c = omega (arith, c.requires, edge_total c.args.self.now.faces)

pub returns : goal.returns
returns c =
    let f = c.args.self.now.faces in
    c.key.ensures ∙ sym (ap (λ (d : Corner). d.key) (start_held f c.args.place (omega (arith, c.requires, edge_total f))))
