-- What the tests of entering find on the way, in the words of the rules.
use Rattle.std.specs.Prelude.{◌≡◌, ℕ, List, Ok, Err, Result, ◌≢◌}
use Rattle.fault.specs.declared.shape.ShapeFault.{ShapeFault}
use Rattle.ring.specs.declared.ring.Ring.{Ring as TestedRing}
use Rattle.solid.specs.Corners.{ring_of}
use Rattle.solid.specs.Entering.{FirstIn, EnterSays}
use Rattle.solid.specs.Faces.{Corner, Ring, Edge, edges, all_edges}
use Rattle.solid.specs.Lists.{In}
use Rattle.solid.specs.Rules.{corners, Agree}
use Rattle.solid.specs.declared.Corner.{Corner as StoredCorner}

-- the corner has another key and another position than each one before it
abbrev pub Apart : List Corner → Corner → Type 0
Apart before c = (d : Corner) → In d before → (d.key ≢ c.key) × (d.position ≢ c.position)

-- a corner agrees with each corner of the faces
abbrev pub AgreesWith : List Ring → Corner → Type 0
AgreesWith fs c = (d : Corner) → In d (corners fs) → Agree c d

-- the keys of the first edge of a ring that the faces have
abbrev pub FirstRepeated : List Ring → Ring → ℕ × ℕ → Type 0
FirstRepeated fs r p = (e : Edge) × FirstIn (all_edges fs) (edges r) e × (p.0 ≡ e.0.key) × (p.1 ≡ e.1.key)

-- the tests answer the ring of the corners, with its D, where they find no fault
abbrev pub Tested : List Ring → List StoredCorner → Result TestedRing ShapeFault → Type 0
Tested fs cs (Ok ring) = EnterSays fs (ring_of cs) (Ok tt) × (ring.corners.now ≡ cs)
Tested fs cs (Err f) = EnterSays fs (ring_of cs) (Err f)
