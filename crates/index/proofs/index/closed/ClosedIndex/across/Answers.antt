use Rattle.std.proofs.Common.{subst, arith}
use Rattle.solid.specs.Faces.{Edge, edges}
use Rattle.solid.specs.Lists.{In}
use Rattle.solid.specs.Places.{face_at}
use Rattle.solid.proofs.Places.{home_in}
use Rattle.tracking.proofs.Keys.{edge_total}
use Rattle.index.specs.Closed.{faces_in}
use Rattle.index.proofs.index.closed.ClosedIndex.across.Goals as goal

pub home-requires : goal.home-requires
home-requires c = omega (arith, c.reverse.ensures.within, edge_total c.args.self.now.index.now.faces)

pub returns : goal.returns
returns c =
    let fs = faces_in c.args.self.now in
    let home = c.home.ensures in
    record { face = home.face; reverse = subst (λ (e : Edge). In e (edges (face_at fs c.home.result))) c.reverse.ensures.reverse (home_in fs c.reverse.result c.home.result home) }
