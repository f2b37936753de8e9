use Rattle.std.proofs.Common.{take}
use Rattle.solid.specs.Corners.{corner_of, ring_of}
use Rattle.tracking.specs.Tests.{Apart}
use Rattle.index.proofs.index.entering.is_apart.Given as goal

abbrev pub invariant-loop-b : goal.invariant-loop-b
invariant-loop-b l = Apart (ring_of (take l.b-index l.before)) (corner_of l.c)
