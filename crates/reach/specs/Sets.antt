-- What a set of reached faces has, and what a face more, a face taken up, or all faces across the edges of one, make of it.
use Rattle.std.specs.Prelude.{◌≡◌, ℕ, ◌+◌, ◌≤◌, ◌⊎◌, List, [], ◌∷◌, ◌++◌, Option, None, Some}
use Rattle.arrayvec.specs.ArrayVec.{array_vec_len}
use Rattle.marks.specs.Bits.{members, ones_of, Held}
use Rattle.solid.specs.Faces.{Ring}
use Rattle.solid.specs.Lists.{In}
use Rattle.solid.specs.Places.{Home, Across}
use Rattle.reach.specs.declared.reached.Reached.{Reached}

abbrev pub size_of : Reached → ℕ
size_of r = ones_of (members r.marks.words)

abbrev pub Has : Reached → ℕ → Type 0
Has r g = Held (members r.marks.words) g

-- the face's edges are still to be crossed
abbrev pub Waits : Reached → ℕ → Type 0
Waits r g = In g r.waiting.items

-- the faces of one set are in the other, and those that wait still do
pub record Longer (before after : Reached) : Type 0 where
  pub keeps : (g : ℕ) → Has before g → Has after g
  pub stays : (g : ℕ) → Waits before g → Waits after g
  -- those that wait are old ones that did, or in the set
  pub met : (g : ℕ) → Waits after g → Waits before g ⊎ Has after g
  -- each new one waits
  pub grows : size_of before ≤ size_of after
  pub evenly : array_vec_len after.waiting + size_of before ≡ array_vec_len before.waiting + size_of after

pub record Added (face : ℕ) (before after : Reached) : Type 0 where
  pub longer : Longer before after
  pub here : Has after face
  pub only : (g : ℕ) → Has after g → Has before g ⊎ (Waits after g × (g ≡ face))

-- a face was taken up from those that wait, where there are any; the set stays
abbrev pub Taken : Reached → Reached → Option ℕ → Type 0
Taken before after None = (before.waiting.items ≡ []) × (after ≡ before)
Taken before after (Some face) = (before.waiting.items ≡ after.waiting.items ++ face ∷ []) × (after.marks ≡ before.marks)

-- g is a face across an edge of the face f
abbrev pub Beside : List Ring → ℕ → ℕ → Type 0
Beside fs f g = (p : ℕ) × Home fs p f × Across fs p g

pub record Expanded (fs : List Ring) (face : ℕ) (before after : Reached) : Type 0 where
  pub longer : Longer before after
  pub all : (p g : ℕ) → Home fs p face → Across fs p g → Has after g
  pub only : (g : ℕ) → Has after g → Has before g ⊎ (Waits after g × Beside fs face g)
