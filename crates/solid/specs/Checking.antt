-- What checking a source answers: the first fault in the order of asking and testing, or the certificate of its faces.
use Rattle.std.specs.Prelude.{◌≡◌, ℕ, ◌+◌, ◌<◌, List, [], ◌∷◌, ◌++◌, length, Ok, Err}
use Rattle.fault.specs.declared.record.RecordFault.{RecordFault}
use Rattle.fault.specs.declared.shape.ShapeFault.{ShapeFault}
use Rattle.fault.specs.declared.shape.ShapeFault.TheVariants.{Source}
use Rattle.solid.specs.Faces.{Corner, Ring}
use Rattle.solid.specs.Entering.{EnterSays}
use Rattle.solid.specs.Certifying.{Verdict, CertifySays}
use Rattle.solid.specs.Sources.{Meaning, is, fault, FaceIs, Gives}

-- the first fault of face i: in its number of corners, or in one of its corners, in order
pub data FaceFault (m : Meaning) (i : ℕ) (f : RecordFault) : Type 0 where
  in_sides : m.sides i ≡ fault f → FaceFault m i f
  in_corner : (k j : ℕ) → m.sides i ≡ is k → j < k → ((l : ℕ) → l < j → (c : Corner) × (m.corner i l ≡ is c)) → m.corner i j ≡ fault f → FaceFault m i f

-- of n faces the first, fs, are entered: the next is read and entered, and after the last they are certified
pub data CheckFrom (m : Meaning) (n : ℕ) : List Ring → Verdict → Type 0 where
  unread : {fs : List Ring} {f : RecordFault} → length fs < n → FaceFault m (length fs) f → CheckFrom m n fs (Err (Source (length fs + 1) f))
  refused : {fs : List Ring} {r : Ring} {f : ShapeFault} → length fs < n → FaceIs m (length fs) r → EnterSays fs r (Err f) → CheckFrom m n fs (Err f)
  taken : {fs : List Ring} {r : Ring} {x : Verdict} → length fs < n → FaceIs m (length fs) r → EnterSays fs r (Ok tt) → CheckFrom m n (fs ++ r ∷ []) x → CheckFrom m n fs x
  done : {fs : List Ring} {x : Verdict} → length fs ≡ n → CertifySays fs x → CheckFrom m n fs x

pub data CheckSays (m : Meaning) : Verdict → Type 0 where
  uncounted : {f : RecordFault} → m.faces ≡ fault f → CheckSays m (Err (Source 0 f))
  counted : {n : ℕ} {x : Verdict} → m.faces ≡ is n → CheckFrom m n [] x → CheckSays m x

-- the faces after a check: those of the source where it is certified, else none
abbrev pub Checked : Meaning → Verdict → List Ring → Type 0
Checked m (Ok c) fs = Gives m fs
Checked m (Err f) fs = fs ≡ []
