use Rattle.std.proofs.Common.{arith, below_more}
use Rattle.std.proofs.lemmas.Bool.Decides.{not_from_Decides}
use Rattle.std.proofs.lemmas.List.{take-map}
use Rattle.solid.specs.Corners.{corner_of}
use Rattle.index.specs.Meaning.{faces_of}
use Rattle.tracking.proofs.Allowed.{AllowedAt, all_allowed, first_misfit}
use Rattle.index.proofs.index.Index.misfit.Goals as goal

pub returns-then-not-is_allowed : goal.returns-then-not-is_allowed
returns-then-not-is_allowed c =
    first_misfit (faces_of c.args.self.now) c.args.ring.now c.loop-i.i c.loop-i-test.true c.loop-i.invariant
    (not_from_Decides c.is_allowed.result (rw (take-map corner_of c.loop-i.i c.args.ring.now) c.is_allowed.ensures) c.if-not-is_allowed.true)

pub loop-i-preserved : goal.loop-i-preserved
loop-i-preserved c =
    below_more (AllowedAt (faces_of c.args.self.now) c.args.ring.now) c.loop-i.i c.loop-i.invariant (rw (take-map corner_of c.loop-i.i c.args.ring.now) (c.is_allowed.ensures.0 c.if-not-is_allowed.false))

pub returns : goal.returns
returns c = all_allowed (faces_of c.args.self.now) c.args.ring.now (λ i l. c.loop-i.invariant i (omega arith))
