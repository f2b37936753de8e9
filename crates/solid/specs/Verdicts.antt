-- The calls that end in a verdict, certifying and checking: which faces they judge, and what they may answer.
use Rattle.std.specs.Prelude.{◌≡◌, List}
use Rattle.solid.specs.Faces.{Ring}
use Rattle.solid.specs.Sources.{Gives}
use Rattle.solid.specs.Certifying.{Verdict, CertifySays}
use Rattle.solid.specs.Checking.{CheckSays}
use Rattle.solid.specs.Roll.{Call, enter, check, ask, certify, clear}

-- certifying judges the faces on the roll, and a check those of its source, where that has no fault
abbrev pub Judges : Call → List Ring → List Ring → Type 0
Judges (enter r) roll fs = ⊥
Judges (check m) roll fs = Gives m fs
Judges ask roll fs = ⊥
Judges certify roll fs = fs ≡ roll
Judges clear roll fs = ⊥

-- the verdict is the certificate, or the first fault in the order of asking and testing
abbrev pub Says : Call → List Ring → Verdict → Type 0
Says (enter r) roll x = ⊥
Says (check m) roll x = CheckSays m x
Says ask roll x = ⊥
Says certify roll x = CertifySays roll x
Says clear roll x = ⊥
