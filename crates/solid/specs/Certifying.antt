-- What certifying faces answers: the fault of the first test that fails, in order, with its number and its values, or the certificate.
use Rattle.std.specs.Prelude.{◌≡◌, ℕ, ◌<◌, List, map, pos, ◌≤ℤ◌, Ok, Result}
use Rattle.fault.specs.declared.shape.ShapeFault.{ShapeFault}
use Rattle.fault.specs.declared.shape.ShapeFault.TheVariants.{OpenEdge, KeyCycle, Disconnected, NoVolume}
use Rattle.solid.specs.Lists.{In}
use Rattle.solid.specs.Faces.{Corner, Ring, Edge, kept_volume_of, open_edges_of}
use Rattle.solid.specs.Rules.{corners}
use Rattle.solid.specs.Soundness.{Closed, Round, AllRound, FromFirst, Certificate, certificate}
use Rattle.solid.specs.Entering.{Refused, OrElse}

-- a certificate, or a fault
abbrev pub Verdict : Type 0
Verdict = Result Certificate ShapeFault

-- the answer names an open edge of the faces by its keys; which one is free
abbrev pub NamesOpenEdge : List Ring → Verdict → Type 0
NamesOpenEdge fs x = (e : Edge) × In e (open_edges_of fs) × Refused 19 (OpenEdge e.0.key e.1.key) x

-- v is the least key whose faces the steps round it do not all visit
pub record LeastNotRound (fs : List Ring) (v : ℕ) : Type 0 where
  pub some : In v (map (λ (c : Corner). c.key) (corners fs))
  pub fails : Round fs v → ⊥
  pub least : (c : Corner) → In c (corners fs) → c.key < v → Round fs c.key

-- the tests in order
abbrev pub CertifySays : List Ring → Verdict → Type 0
CertifySays fs =
    OrElse (Closed fs) (NamesOpenEdge fs)
    (OrElse (AllRound fs) (λ x. (v : ℕ) × LeastNotRound fs v × Refused 20 (KeyCycle v) x)
    (OrElse (FromFirst fs) (Refused 21 Disconnected)
    (OrElse (pos 1 ≤ℤ kept_volume_of fs) (Refused 22 NoVolume)
    (λ x. x ≡ Ok (certificate fs)))))
