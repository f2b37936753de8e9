-- When faces are sound: consistent, closed, one cycle of faces round each key, connected, and of positive kept volume. And their certificate.
use Rattle.std.specs.Prelude.{◌≡◌, ℕ, ◌/◌, List, [], ◌∷◌, length, ℤ, pos, ◌≤ℤ◌}
use Rattle.solid.specs.Lists.{In}
use Rattle.solid.specs.Faces.{Corner, Ring, Edge, flip, edges, all_edges, kept_volume_of}
use Rattle.solid.specs.Rules.{corners, key_count_of, Consistent}

-- every edge has its reverse
abbrev pub Closed : List Ring → Type 0
Closed fs = (e : Edge) → In e (all_edges fs) → In (flip e) (all_edges fs)

-- from r by steps of a relation, each to one of the faces
pub data Walk (R : Ring → Ring → Type 0) (fs : List Ring) (r : Ring) : Ring → Type 0 where
  here : Walk R fs r r
  next : {s t : Ring} → Walk R fs r s → In t fs → R s t → Walk R fs r t

-- one has (a, b) and the other (b, a)
abbrev pub Touch : Ring → Ring → Type 0
Touch r s = (e : Edge) × In e (edges r) × In (flip e) (edges s)

-- from a face with (v, w) to the face with (w, v)
abbrev pub Step : ℕ → Ring → Ring → Type 0
Step v r s = (e : Edge) × (e.0.key ≡ v) × In e (edges r) × In (flip e) (edges s)

abbrev pub HasKey : ℕ → Ring → Type 0
HasKey v r = (c : Corner) × (c.key ≡ v) × In c r

-- from one face the steps round v visit all faces with v
abbrev pub Round : List Ring → ℕ → Type 0
Round fs v = (r : Ring) × In r fs × HasKey v r × ((s : Ring) → In s fs → HasKey v s → Walk (Step v) fs r s)

abbrev pub AllRound : List Ring → Type 0
AllRound fs = (c : Corner) → In c (corners fs) → Round fs c.key

-- the first face reaches every face
abbrev pub FromFirst : List Ring → Type 0
FromFirst [] = Unit {0}
FromFirst (r ∷ rs) = (s : Ring) → In s (r ∷ rs) → Walk Touch (r ∷ rs) r s

pub record Sound (fs : List Ring) : Type 0 where
  pub consistent : Consistent fs
  pub closed : Closed fs
  pub round : AllRound fs
  pub reached : FromFirst fs
  pub volume : pos 1 ≤ℤ kept_volume_of fs

-- the numbers of keys, edges and faces, and the kept volume
pub record Certificate : Type 0 where
  pub v : ℕ
  pub e : ℕ
  pub f : ℕ
  pub n : ℤ

-- of closed faces: an edge of the solid is two directed edges
abbrev pub certificate : List Ring → Certificate
certificate fs = record { v = key_count_of fs; e = length (all_edges fs) / 2; f = length fs; n = kept_volume_of fs }
