use Rattle.std.proofs.Common.{◌≡◌, ℕ, List, [], ◌∷◌, length, ℤ, rules}
use Rattle.std.specs.Cmp.{nat_cmp_total}
use Rattle.std.specs.FinMap.{nat_cmp-IsAntisymmetric}
use Rattle.tracking.proofs.Orders.{position_cmp_total, position_cmp_tells}
use Rattle.algebra.specs.Vector.{V3, vector, coordinates}
use Rattle.algebra.proofs.Arrays.{coordinates_of}
use Rattle.table.specs.declared.Table.{Table}
use Rattle.tracking.specs.Growth.{Grows}
use Rattle.tracking.specs.Tables.{position_cmp}
use Rattle.tracking.proofs.Grows.{grows_one}
use Rattle.index.proofs.index.corners.Corners.add.Goals as goal

-- a position that is put in stands there as the coordinates of its vector
by_vector : (t u : Table (List ℤ) ℕ) (p : List ℤ) (n : ℕ) → Grows position_cmp t ((p, n) ∷ []) u → (v : V3) → length p ≡ 3 → vector p ≡ v → Grows position_cmp t ((coordinates v, n) ∷ []) u
by_vector t u p n h v e is = rw (← is, coordinates_of p e) h

pub returns : goal.returns
returns c =
    let p = c.insert.ensures in
    let k = c.insert-2.ensures in
    let put = by_vector _ _ _ _ (grows_one position_cmp_total position_cmp_tells c.args.self.now.keys c.insert-2.new.self _ _ c.insert-2.result k.ok k.refuses k.room) (vector c.args.c.position) (search rules) (search rules) in
    record {
      positions = grows_one nat_cmp_total nat_cmp-IsAntisymmetric c.args.self.now.positions c.insert.new.self _ _ c.insert.result p.ok p.refuses p.room;
      keys = put;
    }
