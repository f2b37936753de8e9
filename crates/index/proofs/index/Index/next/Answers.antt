use Rattle.std.proofs.Common.{◌+◌, sym, subst, arith}
use Rattle.solid.specs.Places.{Follows}
use Rattle.tracking.proofs.Keys.{edge_total}
use Rattle.tracking.proofs.Places.{follows_from}
use Rattle.index.specs.Meaning.{faces_of}
use Rattle.index.proofs.index.Index.next.Goals as goal

pub home-requires : goal.home-requires
home-requires c = omega (arith, c.requires, edge_total c.args.self.now.faces)

pub returns : goal.returns
returns c =
    let x = c.args.self.now in
    let span = c.span-start in
    subst (λ n. Follows (faces_of x) c.args.place (span.result.start + n)) (sym c.following.ensures.is)
    (follows_from x.faces c.args.place c.home.result c.home.ensures span.result.start span.result.end span.ensures.start span.ensures.end)
