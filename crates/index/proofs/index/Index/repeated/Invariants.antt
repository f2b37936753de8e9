use Rattle.std.proofs.Common.{ℕ, ◌<◌, length}
use Rattle.solid.specs.Faces.{all_edges}
use Rattle.solid.specs.Lists.{In}
use Rattle.ring.specs.Places.{edge}
use Rattle.index.specs.Meaning.{faces_of}
use Rattle.index.proofs.index.Index.repeated.Given as goal

abbrev pub invariant-loop-a : goal.invariant-loop-a
invariant-loop-a l = (j : ℕ) → j < length l.yielded → In (edge l.ring j) (all_edges (faces_of l.self)) → ⊥
