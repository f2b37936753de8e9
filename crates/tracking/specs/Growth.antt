-- What a face adds to the tables, and how many of its edges close others.
use Rattle.std.specs.Prelude.{◌≡◌, ℕ, ◌≤◌, List, ◌++◌, length, filter}
use Rattle.std.specs.declared.cmp.Ordering.{Ordering}
use Rattle.std.specs.FinMap.{from_entries, len}
use Rattle.solid.specs.Faces.{Ring, flip, edges, all_edges, same_edge}
use Rattle.solid.specs.Lists.{has}
use Rattle.table.specs.declared.Table.{Table}
use Rattle.tracking.specs.Tables.{Tracks}

-- a table that tracks some pairs, with room for these after them, tracks all of them then
abbrev pub Grows : {K V : Type 0} → (K → K → Ordering) → Table K V → List (K × V) → Table K V → Type 0
Grows {K} {V} R t more u = ((ps : List (K × V)) → Tracks R t ps → len (from_entries {R = R} (ps ++ more)) ≤ t.room → Tracks R u (ps ++ more)) × (u.room ≡ t.room)

-- n of the ring's edges have their reverse among those of the faces
abbrev pub Reverses : List Ring → Ring → ℕ → Type 0
Reverses fs r n = n ≡ length (filter (λ e. has same_edge (flip e) (all_edges fs)) (edges r))
