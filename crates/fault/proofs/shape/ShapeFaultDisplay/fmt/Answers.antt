-- The texts with an edge, whose number is that of the kind.
use Rattle.std.proofs.Common.{ap, ◌∙◌, subst}
use Rattle.std.specs.Fmt.{HasWritten}
use Rattle.fault.specs.Numbers.{shape_number}
use Rattle.fault.specs.Printed.{at_face_edge, at_edge}
use Rattle.fault.proofs.shape.ShapeFaultDisplay.fmt.Goals as goal

pub returns-in-EdgeTwice-clause-writes : goal.returns-in-EdgeTwice-clause-writes
returns-in-EdgeTwice-clause-writes g c = λ plain ok.
    rw (c.in-EdgeTwice.is)
    (subst (λ n. HasWritten g.W.Write.write_str_gives c.args.f.now (at_face_edge n c.in-EdgeTwice.face c.in-EdgeTwice.from c.in-EdgeTwice.to) c.write-in-EdgeTwice.new.self)
    (c.number-number.ensures ∙ ap shape_number c.in-EdgeTwice.is) (c.write-in-EdgeTwice.ensures.writes plain ok))

pub returns-in-OpenEdge-clause-writes : goal.returns-in-OpenEdge-clause-writes
returns-in-OpenEdge-clause-writes g c = λ plain ok.
    rw (c.in-OpenEdge.is)
    (subst (λ n. HasWritten g.W.Write.write_str_gives c.args.f.now (at_edge n c.in-OpenEdge.from c.in-OpenEdge.to) c.write-in-OpenEdge.new.self)
    (c.number-number.ensures ∙ ap shape_number c.in-OpenEdge.is) (c.write-in-OpenEdge.ensures.writes plain ok))
