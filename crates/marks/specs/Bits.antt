-- Words as rows of bits, the lowest first.
use Rattle.std.specs.Prelude.{◌≡◌, ℕ, zero, suc, ◌+◌, ◌/◌, ◌%◌, Bool, true, false, cond, List, [], ◌∷◌, ◌++◌, ◌==◌, slice_index_or}

-- the lowest k bits
unfoldable pub bits : ℕ → ℕ → List Bool
bits zero w = []
bits (suc k) w = (w % 2 == 1) ∷ bits k (w / 2)

-- the bits of words of 64
abbrev pub members : List ℕ → List Bool
members [] = []
members (w ∷ ws) = bits 64 w ++ members ws

-- how many are set
abbrev pub ones_of : List Bool → ℕ
ones_of [] = 0
ones_of (b ∷ bs) = cond b 1 0 + ones_of bs

-- the number is in the set
abbrev pub Held : List Bool → ℕ → Type 0
Held bs i = slice_index_or bs i false ≡ true
