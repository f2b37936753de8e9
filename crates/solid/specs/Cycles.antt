-- Going round keys by places: which places steps reach from one, and what a set of places that is closed under steps is.
use Rattle.std.specs.Prelude.{◌≡◌, ℕ, ◌<◌, ◌≤◌, ◌⊎◌, List, length, slice_index}
use Rattle.solid.specs.Faces.{Ring, all_edges}
use Rattle.solid.specs.Places.{key_at, Onward}

-- from the place p by steps round the start of its edge
pub data Goes (fs : List Ring) (p : ℕ) : ℕ → Type 0 where
  stay : Goes fs p p
  step : {q r : ℕ} → Goes fs p q → Onward fs q r → Goes fs p r

-- a set of places that no step leaves
abbrev pub NoStepLeaves : List Ring → (ℕ → Type 0) → Type 0
NoStepLeaves fs M = (p q : ℕ) → M p → Onward fs p q → M q

-- the places of all edges, in rising order of the keys at which they begin
pub record ByKey (fs : List Ring) (order : List ℕ) : Type 0 where
  pub long : length order ≡ length (all_edges fs)
  pub within : (i : ℕ) → i < length order → slice_index order i < length (all_edges fs)
  pub every : (p : ℕ) → p < length (all_edges fs) → (i : ℕ) × (i < length order) × (slice_index order i ≡ p)
  pub rising : (i j : ℕ) → i < j → j < length order → key_at fs (slice_index order i) ≤ key_at fs (slice_index order j)

-- going round from a place to the end makes of the set M the set N
pub record GoneRound (fs : List Ring) (start : ℕ) (M N : ℕ → Type 0) : Type 0 where
  pub keeps : (p : ℕ) → M p → N p
  pub adds : (p : ℕ) → N p → M p ⊎ Goes fs start p
  pub first : N start
  pub stays : NoStepLeaves fs N
