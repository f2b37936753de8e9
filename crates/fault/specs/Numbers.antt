-- The number of each fault, and the values that it carries: the one definition that every contract cites.
use Rattle.std.specs.Prelude.{ℕ}
use Rattle.fault.specs.declared.text.TextFault.{TextFault}
use Rattle.fault.specs.declared.text.TextFault.TheVariants.{TooLong, NoToken, Unexpected, TooDeep, Level, NoRoom, Again}
use Rattle.fault.specs.declared.record.RecordFault.{RecordFault}
use Rattle.fault.specs.declared.record.RecordFault.TheVariants.{Text, Absent, Outside, Keyword, Count, Kind, Value, Twice}
use Rattle.fault.specs.declared.shape.ShapeFault.{ShapeFault}
use Rattle.fault.specs.declared.shape.ShapeFault.TheVariants.{Source, CornerCount, Corner, NotPlanar, Crossing, EdgeTwice, Full, OpenEdge, KeyCycle, Disconnected, NoVolume}

abbrev pub text_number : TextFault → ℕ
text_number (TooLong place) = 1
text_number (NoToken place) = 2
text_number (Unexpected place) = 3
text_number (TooDeep place) = 4
text_number (Level place) = 5
text_number (NoRoom place) = 6
text_number (Again place) = 7

abbrev pub record_number : RecordFault → ℕ
record_number (Text number fault) = text_number fault
record_number (Absent number) = 8
record_number (Outside number) = 9
record_number (Keyword number) = 10
record_number (Count number) = 11
record_number (Kind number attribute) = 11
record_number (Value number attribute) = 12
record_number (Twice number attribute) = 13

abbrev pub shape_number : ShapeFault → ℕ
shape_number (Source face fault) = record_number fault
shape_number (CornerCount face) = 14
shape_number (Corner face key) = 14
shape_number (NotPlanar face) = 15
shape_number (Crossing face) = 16
shape_number (EdgeTwice face from to) = 17
shape_number (Full face) = 18
shape_number (OpenEdge from to) = 19
shape_number (KeyCycle key) = 20
shape_number Disconnected = 21
shape_number NoVolume = 22
