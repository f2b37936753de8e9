-- Certificates and verdicts of the code, in the words of the rules.
use Rattle.std.specs.Prelude.{Ok, Err, Result}
use Rattle.fault.specs.declared.shape.ShapeFault.{ShapeFault}
use Rattle.solid.specs.Certifying.{Verdict}
use Rattle.solid.specs.Soundness.{Certificate}
use Rattle.hull.specs.declared.hull.certificate.Certificate.{Certificate as StoredCertificate}

abbrev pub certificate_of : StoredCertificate → Certificate
certificate_of c = record { v = c.keys; e = c.edges; f = c.faces; n = c.volume }

abbrev pub verdict_of : Result StoredCertificate ShapeFault → Verdict
verdict_of (Ok c) = Ok (certificate_of c)
verdict_of (Err f) = Err f
