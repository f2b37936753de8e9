-- The rules of a ring alone and of faces together. Each speaks of what is *in* a list and not of where it stands, wherever the rule allows that.
use Rattle.std.specs.Prelude.{◌≡◌, ℕ, ◌^◌, ◌<◌, ◌≤◌, List, [], ◌∷◌, ◌++◌, map, length, pos, ◌≢◌, nat_eq}
use Rattle.algebra.specs.Vector.{null, ◌-ᵛ◌, dot, Inside}
use Rattle.algebra.specs.Segments.{Meets}
use Rattle.solid.specs.Lists.{In, Distinct, kinds}
use Rattle.solid.specs.Faces.{Corner, Ring, Edge, edges, all_edges, D, start}

-- ---- one ring

-- the key is at least 1, as a number of 32 bits, and the position in range
pub record Valid (c : Corner) : Type 0 where
  pub key : (1 ≤ c.key) × (c.key < 2 ^ 32)
  pub position : Inside c.position

abbrev pub Sized : Ring → Type 0
Sized r = (3 ≤ length r) × (length r ≤ 64)

-- what the corners of a ring meet alone, before its shape is looked at
pub record Tidy (r : Ring) : Type 0 where
  pub sized : Sized r
  pub valid : (c : Corner) → In c r → Valid c
  pub keys : Distinct (map (λ c. c.key) r)

-- every corner lies in the plane through the first one that D is normal to
abbrev pub Flat : Ring → Type 0
Flat r = (c : Corner) → In c r → dot (c.position -ᵛ start r) (D r) ≡ pos 0

abbrev pub Planar : Ring → Type 0
Planar r = (D r ≢ null) × Flat r

-- the segments of two edges share a point
abbrev pub Meet : Edge → Edge → Type 0
Meet e f = Meets e.0.position e.1.position f.0.position f.1.position

-- two edges that are not neighbours share no point, and neighbours only their common corner: the end of the first, the start of the second
pub record NoCrossing (e f : Edge) : Type 0 where
  pub apart : (e ≢ f) → (e.1 ≢ f.0) → (f.1 ≢ e.0) → Meet e f → ⊥
  pub joined : e.1 ≡ f.0 → (m : Meet e f) → (m.s ≡ m.d) × (m.t ≡ 0)

abbrev pub Simple : Ring → Type 0
Simple r = (e f : Edge) → In e (edges r) → In f (edges r) → NoCrossing e f

-- what a ring meets alone
pub record Proper (r : Ring) : Type 0 where
  pub tidy : Tidy r
  pub planar : Planar r
  pub simple : Simple r

-- ---- faces together

abbrev pub corners : List Ring → List Corner
corners [] = []
corners (r ∷ rs) = r ++ corners rs

-- how many keys there are
abbrev pub key_count_of : List Ring → ℕ
key_count_of fs = kinds nat_eq (map (λ c. c.key) (corners fs))

-- a key has one position, and a position one key
abbrev pub Agree : Corner → Corner → Type 0
Agree a b = (a.key ≡ b.key → a.position ≡ b.position) × (a.position ≡ b.position → a.key ≡ b.key)

pub record Limits (fs : List Ring) : Type 0 where
  pub faces : length fs ≤ 512
  pub keys : key_count_of fs ≤ 1024
  pub edges : length (all_edges fs) ≤ 3072

-- no directed edge of the ring is among those of the faces
abbrev pub Fresh : List Ring → Ring → Type 0
Fresh fs r = (e : Edge) → In e (edges r) → In e (all_edges fs) → ⊥

-- the tests of entering, made for one ring against faces, find no fault
pub record Enterable (fs : List Ring) (r : Ring) : Type 0 where
  pub proper : Proper r
  pub agree : (a b : Corner) → In a r → In b (corners (r ∷ fs)) → Agree a b
  pub fresh : Fresh fs r
  pub limits : Limits (fs ++ r ∷ [])

-- the same of all faces together
pub record Consistent (fs : List Ring) : Type 0 where
  pub proper : (r : Ring) → In r fs → Proper r
  pub agree : (a b : Corner) → In a (corners fs) → In b (corners fs) → Agree a b
  pub once : Distinct (all_edges fs)
  pub limits : Limits fs

-- each of some faces may be entered after fs and those before it
abbrev pub InTurn : List Ring → List Ring → Type 0
InTurn fs [] = Unit {0}
InTurn fs (r ∷ rs) = Enterable fs r × InTurn (fs ++ r ∷ []) rs
