use Rattle.std.proofs.Common.{◌≡◌, Bool, Decides, rules, ap, subst}
use Rattle.algebra.specs.Vector.{V3}
use Rattle.algebra.specs.Segments.{OnlyCorner}
use Rattle.ring.specs.Places.{Clear, edge_of}
use Rattle.ring.proofs.Pairs.{follows, precedes}
use Rattle.ring.proofs.ring.is_clear.Goals as goal

-- the test, at the positions of the edges' ends
at_ends : {a b c : V3} (r : Bool) → Decides r (OnlyCorner a b c) → (a' b' c' : V3) → a ≡ a' → b ≡ b' → c ≡ c' → Decides r (OnlyCorner a' b' c')
at_ends {a} {b} {c} r h a' b' c' p q s =
    subst (λ x. Decides r (OnlyCorner a' b' x)) s (subst (λ x. Decides r (OnlyCorner a' x c)) q (subst (λ x. Decides r (OnlyCorner x b c)) p h))

pub returns-then-e-f : goal.returns-then-e-f
returns-then-e-f c =
    let e = edge_of c.args.e in
    let f = edge_of c.args.f in
    let r = c.shares_only_its_end.result in
    subst (λ x. Decides r (Clear e (x, f.1))) (c.requires.there c.if-e-f.true)
    (follows e.0 e.1 f.1 r (at_ends r c.shares_only_its_end.ensures e.0.position e.1.position f.1.position (search rules) (search rules) (search rules)))

pub returns-then-f-e : goal.returns-then-f-e
returns-then-f-e c =
    let e = edge_of c.args.e in
    let f = edge_of c.args.f in
    let r = c.shares_only_its_end-then-f-e.result in
    subst (λ x. Decides r (Clear (x, e.1) f)) (c.requires.back c.if-f-e.true)
    (precedes f.1 e.1 f.0 r (λ same. c.if-e-f.false (ap (λ x. x.key) same))
    (at_ends r c.shares_only_its_end-then-f-e.ensures f.0.position f.1.position e.1.position (search rules) (search rules) (search rules)))
