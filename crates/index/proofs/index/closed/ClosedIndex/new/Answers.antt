use Rattle.std.proofs.Common.{length, ap}
use Rattle.solid.proofs.Closing.{closed_none_open}
use Rattle.index.specs.Meaning.{faces_of}
use Rattle.index.proofs.index.closed.ClosedIndex.new.Goals as goal

pub invariant_of-result : goal.invariant_of-result
invariant_of-result c = record { closed = ap length (closed_none_open (faces_of c.args.index.now) c.requires) }
