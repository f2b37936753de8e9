use Rattle.std.proofs.Common.{ℕ, ◌<◌}
use Rattle.index.specs.Meaning.{faces_of}
use Rattle.tracking.proofs.Allowed.{AllowedAt}
use Rattle.index.proofs.index.Index.misfit.Given as goal

abbrev pub invariant-loop-i : goal.invariant-loop-i
invariant-loop-i l = (j : ℕ) → j < l.i → AllowedAt (faces_of l.self) l.ring j
