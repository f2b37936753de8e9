use Rattle.std.proofs.Common.{◌≡◌, ◌*◌, ◌<◌, Bool, List, length, sym, ap, ◌∙◌, subst, arith}
use Rattle.index.specs.Meaning.{faces_of}
use Rattle.index.proofs.Meanings.{consistent}
use Rattle.marks.specs.Bits.{members, ones_of, Held}
use Rattle.marks.proofs.Sets.{held_set, set_held, set_here, ones_length, ones_set}
use Rattle.marks.proofs.Words.{members_long}
use Rattle.solid.proofs.Cycling.{going_none, going_more, going_done}
use Rattle.cycles.proofs.go_round.Goals as goal
use Rattle.cycles.proofs.go_round.Goals.{After-has}

pub loop-marks-init : goal.loop-marks-init
loop-marks-init c = (c.requires.within, going_none (faces_of c.args.closed.now.index.now) (consistent c.args.closed.now.index.now) c.args.start _ c.requires.stays)

pub has-requires : goal.has-requires
has-requires c = omega (arith, c.loop-marks.invariant.0, (consistent c.args.closed.now.index.now).limits.edges)

pub mark-requires : goal.mark-requires
mark-requires c = omega (arith, c.loop-marks.invariant.0, (consistent c.args.closed.now.index.now).limits.edges)

long : (c : After-has) → length (members c.loop-marks.marks.words) ≡ 64 * 48
long c = members_long 48 c.loop-marks.marks

fits : (c : After-has) → c.loop-marks.at < length (members c.loop-marks.marks.words)
fits c = omega (arith, c.loop-marks.invariant.0, (consistent c.args.closed.now.index.now).limits.edges, long c)

pub loop-marks-smaller : goal.loop-marks-smaller
loop-marks-smaller c =
    let w = (goal.at.loop-marks-smaller c).After-has in
    let xs = members c.loop-marks.marks.words in
    let more = ap ones_of c.mark.ensures ∙ ones_set xs c.loop-marks.at (fits w) (sym c.has.ensures ∙ c.loop-marks-test.true) in
    let most = ones_length (members c.mark.new.self.words) in
    let total = members_long 48 c.mark.new.self in
    omega (arith, more, most, total)

pub loop-marks-preserved : goal.loop-marks-preserved
loop-marks-preserved c =
    let w = (goal.at.loop-marks-preserved c).After-has in
    let fs = faces_of c.args.closed.now.index.now in
    let at = c.loop-marks.at in
    let xs = members c.loop-marks.marks.words in
    let ys = members c.mark.new.self.words in
    let new = c.mark.ensures in (
      c.onward-at.ensures.within,
      going_more fs (consistent c.args.closed.now.index.now) c.args.start (Held (members c.args.marks.now.words)) (Held xs) (Held ys) at c.onward-at.result c.onward-at.ensures
          (λ p h. subst (λ (bs : List Bool). Held bs p) (sym new) (set_held xs at p (fits w) h))
          (subst (λ (bs : List Bool). Held bs at) (sym new) (set_here xs at (fits w)))
          (λ p h. held_set xs at p (subst (λ (bs : List Bool). Held bs p) new h))
          c.loop-marks.invariant.1,
    )

pub returns : goal.returns
returns c =
    let fs = faces_of c.args.closed.now.index.now in
    going_done fs (consistent c.args.closed.now.index.now) c.args.start (Held (members c.args.marks.now.words)) (Held (members c.loop-marks.marks.words)) c.loop-marks.at (sym c.has.ensures ∙ c.loop-marks-test.false) c.loop-marks.invariant.1
