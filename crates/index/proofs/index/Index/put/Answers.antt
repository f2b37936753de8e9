-- The tables with the face are kept in step.
use Rattle.std.proofs.Common.{sym, arith}
use Rattle.solid.specs.Corners.{ring_of}
use Rattle.solid.specs.Rules.{Enterable}
use Rattle.solid.proofs.Answered.{enter_taken}
use Rattle.index.specs.Meaning.{faces_of}
use Rattle.tracking.proofs.Grown.{rings_grown, grown}
use Rattle.tracking.proofs.Keys.{edge_total}
use Rattle.tracking.proofs.Props.{kept_out}
use Rattle.index.proofs.index.Index.put.Goals as goal
use Rattle.index.proofs.index.Index.put.Goals.{Start}

may : (c : Start) → Enterable (faces_of c.args.self.now) (ring_of c.args.ring.now.corners.now)
may c = enter_taken (faces_of c.args.self.now) (ring_of c.args.ring.now.corners.now) c.requires

pub add_edges-requires : goal.add_edges-requires
add_edges-requires c =
    let x = c.args.self.now in
    omega (arith, c.corner_count-first.ensures, edge_total x.faces, (kept_out x.kept).consistent.limits.edges)

pub invariant_of-self : goal.invariant_of-self
invariant_of-self c =
    let x = c.args.self.now in record {
      kept = ∣ grown x.faces c.push.new.self c.args.ring.now.corners.now x.corners.positions c.add_all.new.self.positions x.corners.keys c.add_all.new.self.keys x.edges c.add_edges.new.table c.push.result
          (kept_out x.kept) (may (goal.at.invariant_of-self c).Start) c.push.ensures c.add_all.ensures.positions c.add_all.ensures.keys (rw (sym c.corner_count-first.ensures) c.add_edges.ensures) ∣₁;
    }

pub returns : goal.returns
returns c =
    let x = c.args.self.now in
    rings_grown x.faces c.push.new.self c.args.ring.now.corners.now x.corners.positions c.add_all.new.self.positions x.corners.keys c.add_all.new.self.keys x.edges c.add_edges.new.table c.push.result
    (kept_out x.kept) (may (goal.at.returns c).Start) c.push.ensures
