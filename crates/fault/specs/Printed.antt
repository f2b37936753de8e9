-- What each fault prints: its number, and where it is.
use Rattle.std.specs.Prelude.{ℕ, List, ◌++◌, codes, decimal}
use Rattle.fault.specs.Numbers.{text_number}
use Rattle.fault.specs.declared.text.TextFault.{TextFault}
use Rattle.fault.specs.declared.text.TextFault.TheVariants.{TooLong, NoToken, Unexpected, TooDeep, Level, NoRoom, Again}
use Rattle.fault.specs.declared.record.RecordFault.{RecordFault}
use Rattle.fault.specs.declared.record.RecordFault.TheVariants.{Text, Absent, Outside, Keyword, Count, Kind, Value, Twice}
use Rattle.fault.specs.declared.shape.ShapeFault.{ShapeFault}
use Rattle.fault.specs.declared.shape.ShapeFault.TheVariants.{Source, CornerCount, Corner, NotPlanar, Crossing, EdgeTwice, Full, OpenEdge, KeyCycle, Disconnected, NoVolume}

abbrev pub place_of : TextFault → ℕ
place_of (TooLong place) = place
place_of (NoToken place) = place
place_of (Unexpected place) = place
place_of (TooDeep place) = place
place_of (Level place) = place
place_of (NoRoom place) = place
place_of (Again place) = place

abbrev pub text_printed : TextFault → List ℕ
text_printed f = codes "fault " ++ (decimal (text_number f) ++ (codes " at place " ++ decimal (place_of f)))

-- a fault of this number at a record, and at one of its attributes
abbrev pub at_record : ℕ → ℕ → List ℕ
at_record n number = codes "fault " ++ (decimal n ++ (codes " at record " ++ decimal number))

abbrev pub at_attribute : ℕ → ℕ → ℕ → List ℕ
at_attribute n number attribute = codes "fault " ++ (decimal n ++ (codes " at record " ++ (decimal number ++ (codes ", attribute " ++ decimal attribute))))

abbrev pub record_printed : RecordFault → List ℕ
record_printed (Text number fault) = text_printed fault ++ (codes ", in record " ++ decimal number)
record_printed (Absent number) = at_record 8 number
record_printed (Outside number) = at_record 9 number
record_printed (Keyword number) = at_record 10 number
record_printed (Count number) = at_record 11 number
record_printed (Kind number attribute) = at_attribute 11 number attribute
record_printed (Value number attribute) = at_attribute 12 number attribute
record_printed (Twice number attribute) = at_attribute 13 number attribute

-- a fault of this number at a face
abbrev pub at_face : ℕ → ℕ → List ℕ
at_face n face = codes "fault " ++ (decimal n ++ (codes " at face " ++ decimal face))

-- an edge by its keys
abbrev pub edge_printed : ℕ → ℕ → List ℕ
edge_printed from to = decimal from ++ (codes " to " ++ decimal to)

abbrev pub at_face_edge : ℕ → ℕ → ℕ → ℕ → List ℕ
at_face_edge n face from to = codes "fault " ++ (decimal n ++ (codes " at face " ++ (decimal face ++ (codes ", edge " ++ edge_printed from to))))

abbrev pub at_edge : ℕ → ℕ → ℕ → List ℕ
at_edge n from to = codes "fault " ++ (decimal n ++ (codes " at edge " ++ edge_printed from to))

abbrev pub shape_printed : ShapeFault → List ℕ
shape_printed (Source face fault) = record_printed fault ++ (codes ", for face " ++ decimal face)
shape_printed (CornerCount face) = at_face 14 face
shape_printed (Corner face key) = codes "fault " ++ (decimal 14 ++ (codes " at face " ++ (decimal face ++ (codes ", key " ++ decimal key))))
shape_printed (NotPlanar face) = at_face 15 face
shape_printed (Crossing face) = at_face 16 face
shape_printed (EdgeTwice face from to) = at_face_edge 17 face from to
shape_printed (Full face) = at_face 18 face
shape_printed (OpenEdge from to) = at_edge 19 from to
shape_printed (KeyCycle key) = codes "fault " ++ (decimal 20 ++ (codes " at key " ++ decimal key))
shape_printed Disconnected = codes "fault " ++ decimal 21
shape_printed NoVolume = codes "fault " ++ decimal 22
