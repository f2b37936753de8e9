use Rattle.std.proofs.Common.{◌-◌, ◌<◌, length}
use Rattle.index.specs.Meaning.{faces_of}
use Rattle.index.proofs.Meanings.{consistent}
use Rattle.marks.specs.Bits.{members, ones_of, Held}
use Rattle.solid.specs.Faces.{all_edges}
use Rattle.solid.proofs.Cycling.{Going}
use Rattle.cycles.proofs.go_round.Given as goal

abbrev pub invariant-loop-marks : goal.invariant-loop-marks
invariant-loop-marks l = (l.at < length (all_edges (faces_of l.closed.index.now))) × Going (faces_of l.closed.index.now) (consistent l.closed.index.now) l.start (Held (members l.initial.marks.words)) (Held (members l.marks.words)) l.at

abbrev pub decreases-loop-marks : goal.decreases-loop-marks
decreases-loop-marks l = 3072 - ones_of (members l.marks.words)
