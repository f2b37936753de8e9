use Rattle.std.proofs.Common.{arith}
use Rattle.tracking.proofs.Empty.{empty_kept}
use Rattle.tracking.proofs.Props.{kept_out}
use Rattle.index.proofs.index.Index.clear.Goals as goal

pub invariant_of-self : goal.invariant_of-self
invariant_of-self c =
    let k = kept_out c.args.self.now.kept in
    let none = c.clear-2.ensures in record {
      kept = ∣ empty_kept _ _ _ _ c.clear.ensures.rings c.clear.ensures.corners (c.clear.ensures.room 512 3072 k.face_room)
          (record { nothing = none.none.0; space = omega (arith, k.table_room.0, none.room.0) })
          (record { nothing = none.none.1; space = omega (arith, k.table_room.1, none.room.1) })
          (record { nothing = c.clear-3.ensures.map; space = omega (arith, k.table_room.2, c.clear-3.ensures.room) }) ∣₁;
    }
