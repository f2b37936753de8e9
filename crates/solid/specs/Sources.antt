-- What a source of faces means: a number of faces, of each face a number of corners, and each corner; in place of each there may be a fault. Places count from 0.
use Rattle.std.specs.Prelude.{◌≡◌, ℕ, ◌<◌, ◌≤◌, ◌↔◌, List, [], length, slice_index_or}
use Rattle.fault.specs.declared.record.RecordFault.{RecordFault}
use Rattle.solid.specs.Faces.{Corner, Ring}

-- an answer, a fault, or nothing at that place
pub data Reply (A : Type 0) : Type 0 where
  is : A → Reply A
  fault : RecordFault → Reply A
  nothing : Reply A

pub record Meaning : Type 0 where
  pub faces : Reply ℕ
  -- the number of corners of a face
  pub sides : ℕ → Reply ℕ
  pub corner : ℕ → ℕ → Reply Corner

-- the laws of a source whose faces have at most so many corners: there is nothing exactly beyond the numbers
pub record Lawful (m : Meaning) (most : ℕ) : Type 0 where
  pub room : (3 ≤ most) × (most ≤ 64)
  pub counted : m.faces ≡ nothing → ⊥
  pub faces : (n : ℕ) → m.faces ≡ is n → (i : ℕ) → (m.sides i ≡ nothing) ↔ (n ≤ i)
  pub sides : (n i k : ℕ) → m.faces ≡ is n → m.sides i ≡ is k → k ≤ most
  pub corners : (n i k : ℕ) → m.faces ≡ is n → m.sides i ≡ is k → (j : ℕ) → (m.corner i j ≡ nothing) ↔ (k ≤ j)

-- face i is r, without a fault
pub record FaceIs (m : Meaning) (i : ℕ) (r : Ring) : Type 0 where
  pub sides : m.sides i ≡ is (length r)
  pub corner : (j : ℕ) (d : Corner) → j < length r → m.corner i j ≡ is (slice_index_or r j d)

-- the first faces are those of the list, without a fault
abbrev pub Begins : Meaning → List Ring → Type 0
Begins m fs = (i : ℕ) → i < length fs → FaceIs m i (slice_index_or fs i [])

-- no question within the numbers has a fault, and the faces are fs
pub record Gives (m : Meaning) (fs : List Ring) : Type 0 where
  pub faces : m.faces ≡ is (length fs)
  pub each : Begins m fs
