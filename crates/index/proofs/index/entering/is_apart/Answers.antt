use Rattle.std.proofs.Common.{refl, List, subst}
use Rattle.std.proofs.lemmas.Bool.{false≢true}
use Rattle.std.proofs.lemmas.Bool.Decides.{not_from_Decides}
use Rattle.std.proofs.lemmas.List.{take_all}
use Rattle.solid.specs.Corners.{corner_of, ring_of}
use Rattle.solid.specs.declared.Corner.{Corner as StoredCorner}
use Rattle.tracking.specs.Tests.{Apart}
use Rattle.tracking.proofs.Allowed.{apart_more}
use Rattle.ring.proofs.Places.{corner_in}
use Rattle.index.proofs.index.entering.is_apart.Goals as goal

pub returns-then-not-differs : goal.returns-then-not-differs
returns-then-not-differs c = (
  λ t. absurd (false≢true t),
  λ apart. absurd (not_from_Decides c.differs.result c.differs.ensures c.if-not-differs.true (apart _ (corner_in c.args.before.now c.loop-b.b-index c.loop-b-test.true))),
)

pub loop-b-preserved : goal.loop-b-preserved
loop-b-preserved c = apart_more c.args.before.now c.loop-b.b-index (corner_of c.args.c) c.loop-b-test.true c.loop-b.invariant (c.differs.ensures.0 c.if-not-differs.false)

pub returns : goal.returns
returns c =
    let all = take_all c.loop-b.b-index c.args.before.now c.loop-b-test.false in
    (λ _. subst (λ (cs : List StoredCorner). Apart (ring_of cs) (corner_of c.args.c)) all c.loop-b.invariant, λ _. refl)
