use Rattle.hull.specs.Certificates.{verdict_of}
use Rattle.hull.proofs.Promises.{certify_promise}
use Rattle.hull.proofs.hull.Hull.certify.Goals as goal

pub returns : goal.returns
returns c = certify_promise c.args.self.now (verdict_of c.verdict.result) c.verdict.ensures
