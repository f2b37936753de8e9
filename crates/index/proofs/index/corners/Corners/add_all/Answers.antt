use Rattle.std.proofs.Common.{ℕ, List, ℤ, sym, subst}
use Rattle.std.proofs.lemmas.List.{take_all}
use Rattle.std.specs.Cmp.{nat_cmp_total}
use Rattle.std.specs.FinMap.{nat_cmp-IsAntisymmetric}
use Rattle.std.specs.Ordering.{nat_cmp}
use Rattle.algebra.specs.Vector.{vector, coordinates}
use Rattle.ring.specs.Places.{blank}
use Rattle.solid.specs.declared.Corner.{Corner as StoredCorner}
use Rattle.tracking.specs.Growth.{Grows}
use Rattle.tracking.specs.Tables.{position_cmp, key_pairs, position_pairs}
use Rattle.tracking.proofs.Grows.{grows_on, pairs_more}
use Rattle.tracking.proofs.Orders.{position_cmp_total, position_cmp_tells}
use Rattle.index.proofs.index.corners.Corners.add_all.Goals as goal

pub loop-c-preserved : goal.loop-c-preserved
loop-c-preserved c =
    let r = c.args.corners.now in
    let i = c.loop-c.c-index in
    let one = c.add.ensures in (
      subst (λ (ps : List (ℕ × List ℤ)). Grows nat_cmp c.args.self.now.positions ps c.add.new.self.positions) (sym (pairs_more (λ (s : StoredCorner). (s.key, s.position)) r i blank c.loop-c-test.true))
          (grows_on nat_cmp_total nat_cmp-IsAntisymmetric _ _ _ _ _ c.loop-c.invariant.0 one.positions),
      subst (λ (ps : List (List ℤ × ℕ)). Grows position_cmp c.args.self.now.keys ps c.add.new.self.keys) (sym (pairs_more (λ (s : StoredCorner). (coordinates (vector s.position), s.key)) r i blank c.loop-c-test.true))
          (grows_on position_cmp_total position_cmp_tells _ _ _ _ _ c.loop-c.invariant.1 one.keys),
    )

pub returns : goal.returns
returns c =
    let all = take_all c.loop-c.c-index c.args.corners.now c.loop-c-test.false in
    record {
      positions = subst (λ (cs : List StoredCorner). Grows nat_cmp c.args.self.now.positions (key_pairs cs) c.loop-c.self.positions) all c.loop-c.invariant.0;
      keys = subst (λ (cs : List StoredCorner). Grows position_cmp c.args.self.now.keys (position_pairs cs) c.loop-c.self.keys) all c.loop-c.invariant.1;
    }
