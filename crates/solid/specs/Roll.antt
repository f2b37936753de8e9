-- The roll of a hull: a list of faces, made from the calls' arguments and nothing that the hull keeps.
use Rattle.std.specs.Prelude.{◌≡◌, ◌⊎◌, List, [], ◌∷◌, ◌++◌}
use Rattle.solid.specs.Faces.{Ring}
use Rattle.solid.specs.Rules.{Enterable}
use Rattle.solid.specs.Soundness.{Sound}
use Rattle.solid.specs.Sources.{Meaning, Gives}

-- a call on a hull, with its argument; that of a check is what the source means, so that one history may have sources of different types
pub data Call : Type 0 where
  enter : Ring → Call
  check : Meaning → Call
  ask : Call
  certify : Call
  clear : Call

-- the source has no fault, and its faces, fs, are sound
abbrev pub Certified : Meaning → List Ring → Type 0
Certified m fs = Gives m fs × Sound fs

-- what a call makes of the roll
abbrev pub After : Call → List Ring → List Ring → Type 0
After (enter r) old new = (Enterable old r × (new ≡ old ++ r ∷ [])) ⊎ ((Enterable old r → ⊥) × (new ≡ old))
After (check m) old new = Certified m new ⊎ (((fs : List Ring) → Certified m fs → ⊥) × (new ≡ []))
After ask old new = new ≡ old
After certify old new = new ≡ old
After clear old new = new ≡ []

-- the roll after calls, of which the last stands first
abbrev pub Rolls : List Call → List Ring → Type 0
Rolls [] fs = fs ≡ []
Rolls (c ∷ earlier) fs = (old : List Ring) × Rolls earlier old × After c old fs
