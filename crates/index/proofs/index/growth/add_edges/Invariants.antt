use Rattle.std.proofs.Common.{length, take}
use Rattle.solid.specs.Corners.{ring_of}
use Rattle.solid.specs.Faces.{edges}
use Rattle.tracking.specs.Growth.{Grows}
use Rattle.tracking.specs.Tables.{edge_cmp, edge_pairs}
use Rattle.index.proofs.index.growth.add_edges.Given as goal

abbrev pub invariant-loop-i : goal.invariant-loop-i
invariant-loop-i l = Grows edge_cmp l.initial.table (edge_pairs l.first (take (length l.yielded) (edges (ring_of l.ring.corners.now)))) l.table
