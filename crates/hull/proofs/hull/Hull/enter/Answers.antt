use Rattle.std.proofs.Common.{List, [], ◌∷◌, ◌++◌, Ok, Err, sym, refl, ap, ◌∙◌, subst}
use Rattle.std.proofs.lemmas.Result.{err_from_is_err_and}
use Rattle.solid.specs.Corners.{ring_of}
use Rattle.solid.specs.Entering.{EnterSays}
use Rattle.solid.specs.declared.Corner.{Corner as StoredCorner}
use Rattle.hull.specs.Meaning.{faces_of}
use Rattle.hull.proofs.Laws.{entered_law}
use Rattle.hull.proofs.hull.Hull.enter.Goals as goal

pub put-requires : goal.put-requires
put-requires c = subst (λ (r : List StoredCorner). EnterSays (faces_of c.args.self.now) (ring_of r) (Ok tt)) (sym c.in_ok-tested.ensures.1) c.in_ok-tested.ensures.0

pub returns-in_err-tested : goal.returns-in_err-tested
returns-in_err-tested c =
    let h = c.args.self.now in
    let says = c.in_err-tested.ensures in
    let p = err_from_is_err_and c.from_residual.result c.from_residual.ensures.1 in
    rw (p.1, p.2) (record { says = says; faces = refl; left = refl; law = entered_law h h (ring_of c.args.ring.now) (Err c.in_err-tested.field-0.0) says refl })

pub returns : goal.returns
returns c =
    let h = c.args.self.now in
    let says = c.in_ok-tested.ensures.0 in
    let faces = c.put.ensures ∙ ap (λ (r : List StoredCorner). faces_of h ++ ring_of r ∷ []) c.in_ok-tested.ensures.1 in
    record { says = says; faces = faces; left = tt; law = entered_law h c.put.new.self (ring_of c.args.ring.now) (Ok tt) says faces }
