-- Sorted tables that are kept in step with faces, and find their keys, positions and edges.
use Rattle.std.specs.Prelude.{◌≡◌, ℕ, ◌+◌, ◌≤◌, List, [], ◌∷◌, map, ℤ}
use Rattle.std.specs.declared.cmp.Ordering.{Ordering}
use Rattle.std.specs.Ordering.{nat_cmp, int_cmp, ordering_then}
use Rattle.std.specs.Cmp.Lexicographic.{slice_cmp}
use Rattle.std.specs.FinMap.{from_entries}
use Rattle.algebra.specs.Vector.{vector, coordinates}
use Rattle.faces.specs.Held.{stored_corners, rings, Room}
use Rattle.faces.specs.declared.held.Faces.{Faces}
use Rattle.solid.specs.Faces.{Edge, all_edges}
use Rattle.solid.specs.Rules.{Consistent}
use Rattle.solid.specs.declared.Corner.{Corner as StoredCorner}
use Rattle.table.specs.Seen.{map_of}
use Rattle.table.specs.declared.Table.{Table}

-- the order of positions, by the first coordinate that differs
abbrev pub position_cmp : List ℤ → List ℤ → Ordering
position_cmp = slice_cmp int_cmp

-- the order of directed edges by the keys of their ends
abbrev pub edge_cmp : ℕ × ℕ → ℕ × ℕ → Ordering
edge_cmp p q = ordering_then (nat_cmp p.0 q.0) (nat_cmp p.1 q.1)

-- the keys of the ends of a directed edge
abbrev pub end_keys : Edge → ℕ × ℕ
end_keys e = (e.0.key, e.1.key)

-- the position of each key, in order of entry
abbrev pub key_pairs : List StoredCorner → List (ℕ × List ℤ)
key_pairs cs = map (λ c. (c.key, c.position)) cs

-- the key at each position, in order of entry
abbrev pub position_pairs : List StoredCorner → List (List ℤ × ℕ)
position_pairs cs = map (λ c. (coordinates (vector c.position), c.key)) cs

-- the number of each edge in order of entry, of which the first has the number i
abbrev pub edge_pairs : ℕ → List Edge → List ((ℕ × ℕ) × ℕ)
edge_pairs i [] = []
edge_pairs i (e ∷ es) = (end_keys e, i) ∷ edge_pairs (i + 1) es

-- the table holds the map of these pairs: for each key the value of its first pair
abbrev pub Tracks : {K V : Type 0} → (K → K → Ordering) → Table K V → List (K × V) → Type 0
Tracks R t ps = map_of R t ≡ from_entries ps

-- the tables are those of the faces, which are consistent, and all have their room
pub record Kept (f : Faces) (positions : Table ℕ (List ℤ)) (keys : Table (List ℤ) ℕ) (edges : Table (ℕ × ℕ) ℕ) : Type 0 where
  pub consistent : Consistent (rings f)
  pub positions_held : Tracks nat_cmp positions (key_pairs (stored_corners f))
  pub keys_held : Tracks position_cmp keys (position_pairs (stored_corners f))
  pub edges_held : Tracks edge_cmp edges (edge_pairs 0 (all_edges (rings f)))
  pub face_room : Room f 512 3072
  pub table_room : (1024 ≤ positions.room) × (1024 ≤ keys.room) × (3072 ≤ edges.room)
