-- What is left begins with the edge at the place.
use Rattle.std.proofs.Common.{◌+◌, ◌∷◌, drop, sym, ap, ◌∙◌, subst, rules}
use Rattle.std.specs.Iterator.{YieldsFirstBy}
use Rattle.solid.specs.Corners.{corner_of, ring_of}
use Rattle.solid.specs.Faces.{edges}
use Rattle.ring.specs.Places.{blank, corner, edge_of}
use Rattle.ring.proofs.Places.{left_at, none_left}
use Rattle.ring.proofs.edges.RingEdgesIterator.next.Goals as goal

pub returns-in_err-from-clause-steps : goal.returns-in_err-from-clause-steps
returns-in_err-from-clause-steps c =
    let none = sym c.self.view_is ∙ none_left c.self.inside.ring.now c.self.inside.place c.in_err-from.ensures.lookup.3 in
    subst (λ r. YieldsFirstBy edge_of (λ e. e) c.args.self.now r c.args.self.now) (sym c.from_residual.ensures) (none, none)

pub returns-clause-steps : goal.returns-clause-steps
returns-clause-steps c =
    let r = c.self.inside.ring.now in
    let i = c.self.inside.place in
    let here = c.in_ok-from.ensures.lookup.3 in
    sym c.self.view_is
    ∙ left_at r i c.following.result here.0 c.following.ensures.is
    ∙ ap (λ x. (corner_of x, corner r c.following.result) ∷ drop (i + 1) (edges (ring_of r))) (sym (here.1 blank))

pub returns-clause-goes : goal.returns-clause-goes
returns-clause-goes c =
    let r = c.self.inside.ring.now in
    let left = sym c.self.view_is ∙ left_at r c.self.inside.place c.following.result c.in_ok-from.ensures.lookup.3.0 c.following.ensures.is in
    search rules
