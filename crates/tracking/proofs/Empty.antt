-- Empty tables are those of no faces.
use Rattle.std.proofs.Common.{◌≡◌, ℕ, ◌≤◌, List, [], map, ℤ, sym, ap, subst}
use Rattle.std.specs.declared.cmp.Ordering.{Ordering}
use Rattle.std.specs.Ordering.{nat_cmp}
use Rattle.std.specs.FinMap.{empty}
use Rattle.faces.specs.Held.{stored_corners, stored_rings, rings, Room}
use Rattle.faces.specs.declared.held.Faces.{Faces}
use Rattle.solid.specs.Corners.{ring_of}
use Rattle.solid.specs.Faces.{Ring, all_edges}
use Rattle.solid.specs.Rules.{Consistent}
use Rattle.solid.specs.declared.Corner.{Corner as StoredCorner}
use Rattle.solid.proofs.Rolls.{consistent_none}
use Rattle.table.specs.Seen.{map_of}
use Rattle.table.specs.declared.Table.{Table}
use Rattle.tracking.specs.Tables.{position_cmp, edge_cmp, key_pairs, position_pairs, edge_pairs, Tracks, Kept}

-- an empty table with its room
pub record Empty {K V : Type 0} (R : K → K → Ordering) (t : Table K V) (room : ℕ) : Type 0 where
  pub nothing : map_of R t ≡ empty
  pub space : room ≤ t.room

pub rings_none : (f : Faces) → stored_rings f ≡ [] → rings f ≡ []
rings_none f e = ap (map ring_of) e

pub empty_kept : (f : Faces) (positions : Table ℕ (List ℤ)) (keys : Table (List ℤ) ℕ) (edges : Table (ℕ × ℕ) ℕ) → stored_rings f ≡ [] → stored_corners f ≡ [] → Room f 512 3072 → Empty nat_cmp positions 1024 → Empty position_cmp keys 1024 → Empty edge_cmp edges 3072 → Kept f positions keys edges
empty_kept f positions keys edges no-rings no-corners space p k e =
    let none = rings_none f no-rings in
    record {
      consistent = subst Consistent (sym none) consistent_none;
      positions_held = subst (λ (cs : List StoredCorner). Tracks nat_cmp positions (key_pairs cs)) (sym no-corners) p.nothing;
      keys_held = subst (λ (cs : List StoredCorner). Tracks position_cmp keys (position_pairs cs)) (sym no-corners) k.nothing;
      edges_held = subst (λ (fs : List Ring). Tracks edge_cmp edges (edge_pairs 0 (all_edges fs))) (sym none) e.nothing;
      face_room = space;
      table_room = (p.space, k.space, e.space);
    }
