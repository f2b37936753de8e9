-- The promise: the volume is one number from every point of counting. Checking a source and certifying a hull each keep all of it.
use Rattle.std.specs.Prelude.{◌≡◌, ◌⊎◌, ◌↔◌, List, pos, ◌≤ℤ◌, Ok}
use Rattle.algebra.specs.Vector.{V3}
use Rattle.solid.specs.Alike.{Alike}
use Rattle.solid.specs.Certifying.{Verdict, NamesOpenEdge}
use Rattle.solid.specs.Checking.{Checked}
use Rattle.solid.specs.Faces.{Ring, count}
use Rattle.solid.specs.Roll.{Call, enter, check, ask, certify, clear, Rolls}
use Rattle.solid.specs.Soundness.{Sound, Certificate, certificate}
use Rattle.solid.specs.Verdicts.{Judges, Says}
use Rattle.hull.specs.Law.{Law}
use Rattle.hull.specs.Meaning.{faces_of}
use Rattle.hull.specs.declared.hull.Hull.{Hull}

-- what a call leaves: a check the faces of its source where it certifies and else none, certifying the whole hull as it was
abbrev pub Leaves : Call → Hull → Hull → Verdict → Type 0
Leaves (enter r) before after x = ⊥
Leaves (check m) before after x = Checked m x (faces_of after)
Leaves ask before after x = ⊥
Leaves certify before after x = after ≡ before
Leaves clear before after x = ⊥

-- what a certificate says of faces: N is at least 1, they count N from every whole-number point, and V, E and F are counted of them
pub record Attests (c : Certificate) (fs : List Ring) : Type 0 where
  pub positive : pos 1 ≤ℤ c.n
  pub from_every : (q : V3) → count q fs ≡ c.n
  pub counted : c ≡ certificate fs

-- a call, a check of a source or certifying, took a hull from `before` to `after` and answered a verdict
pub record Promise (call : Call) (before after : Hull) (verdict : Verdict) : Type 0 where
  -- One volume. After every list of calls the faces that their arguments alone put on the roll are the hull's faces, and count from each
  -- whole-number point q the kept volume less q · edge sum, both as the hull answers them
  pub one_volume : Law call before after
  -- Exactly. It certifies exactly when there are faces to judge (a source has no fault) and they are sound, ..
  pub exactly : (c : Certificate) → (verdict ≡ Ok c) ↔ ((fs : List Ring) × Judges call (faces_of before) fs × Sound fs × (c ≡ certificate fs))
  -- .. and otherwise it answers the first fault in the order of asking and testing, ..
  pub first_fault : Says call (faces_of before) verdict
  -- .. of which there is one, but for the open edge that it may name
  pub one_answer : (other : Verdict) → Says call (faces_of before) other → (verdict ≡ other) ⊎ ((fs : List Ring) × Judges call (faces_of before) fs × NamesOpenEdge fs verdict × NamesOpenEdge fs other)
  -- Certificate. It is of the faces that are then on the roll, which are those judged
  pub certificate : (c : Certificate) → verdict ≡ Ok c → Attests c (faces_of after) × Judges call (faces_of before) (faces_of after)
  -- the hull after it
  pub left : Leaves call before after verdict
  -- Alike. Let any other such call, on any roll or of any source, judge faces that differ from these at most in their order and in the corner
  -- where each ring begins: both calls certify, with the same V, E, F and N, or neither does
  pub alike : (other : Call) (calls : List Call) (roll : List Ring) → Rolls calls roll → (fs gs : List Ring) → Judges call (faces_of before) fs → Judges other roll gs → Alike fs gs → (verdict' : Verdict) → Says other roll verdict' → (c : Certificate) → (verdict ≡ Ok c) ↔ (verdict' ≡ Ok c)
