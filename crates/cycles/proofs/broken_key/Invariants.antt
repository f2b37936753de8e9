use Rattle.index.specs.Closed.{faces_in}
use Rattle.index.specs.Meaning.{places_by_key}
use Rattle.marks.specs.Bits.{members, Held}
use Rattle.solid.proofs.Cycling.{Rounds}
use Rattle.cycles.proofs.broken_key.Given as goal

abbrev pub invariant-loop-key : goal.invariant-loop-key
invariant-loop-key l = Rounds (faces_in l.closed) (places_by_key l.closed.index.now) (Held (members l.marks.words)) l.key-index l.last
