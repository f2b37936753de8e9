use Rattle.std.proofs.Common.{ℕ, ◌<◌}
use Rattle.solid.specs.Faces.{flip, all_edges}
use Rattle.solid.specs.Lists.{In}
use Rattle.solid.specs.Places.{edge_at}
use Rattle.index.specs.Meaning.{faces_of}
use Rattle.index.proofs.index.Index.closed.Given as goal

abbrev pub invariant-loop-place : goal.invariant-loop-place
invariant-loop-place l = (p : ℕ) → p < l.place → In (flip (edge_at (faces_of l.self) p)) (all_edges (faces_of l.self))
