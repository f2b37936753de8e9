-- What a table is seen as: entries and their room, and the map that these are.
use Rattle.std.specs.Prelude.{◌≡◌, ℕ, ◌<◌, ◌≤◌, List, insert as list_insert, slice_index_or, if◌then◌else◌, Some, None, Ok, Err, Result}
use Rattle.std.specs.declared.cmp.Ordering.{Ordering}
use Rattle.std.specs.declared.cmp.Ordering.TheVariants.{Equal}
use Rattle.std.specs.FinMap.{FinMap, from_sorted, contains_key, get, insert, entries, len}

-- entries in rising order of the keys, and how many the memory can hold
pub record Seen (K V : Type 0) : Type 0 where
  pub entries : List (K × V)
  pub room : ℕ

module _ {K V : Type 0} where
  -- in the order R of the keys
  abbrev pub map_of : (R : K → K → Ordering) → Seen K V → FinMap R V
  map_of R t = from_sorted t.entries

  module _ {R : K → K → Ordering} where
    -- a key that is there keeps its value
    abbrev pub insert_new : FinMap R V → K → V → FinMap R V
    insert_new m k v = if contains_key m k then m else insert m k v

    -- at a place stands an entry of the key, with the value under it, or else the key would go to a place
    abbrev pub Placed : FinMap R V → K → Result ℕ ℕ → Type 0
    Placed m k (Ok i) = (i < len m) × ((d : K × V) → (R (slice_index_or (entries m) i d).0 k ≡ Equal) × (get m k ≡ Some (slice_index_or (entries m) i d).1))
    Placed m k (Err i) = (i ≤ len m) × (get m k ≡ None) × ((v : V) → entries (insert m k v) ≡ list_insert (entries m) i (k, v))
