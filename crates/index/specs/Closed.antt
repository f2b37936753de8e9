-- What a closed index means, and what looking for an open edge answers: the index as one that is closed, or the fault that names an edge that is open.
use Rattle.std.specs.Prelude.{◌≡◌, List, Ok, Err, Result}
use Rattle.fault.specs.declared.shape.ShapeFault.{ShapeFault}
use Rattle.fault.specs.declared.shape.ShapeFault.TheVariants.{OpenEdge}
use Rattle.solid.specs.Faces.{Ring, Edge, open_edges_of}
use Rattle.solid.specs.Lists.{In}
use Rattle.index.specs.Meaning.{faces_of}
use Rattle.index.specs.declared.index.Index.{Index}
use Rattle.index.specs.declared.index.closed.ClosedIndex.{ClosedIndex}

abbrev pub faces_in : ClosedIndex → List Ring
faces_in c = faces_of c.index.now

abbrev pub ClosedOr : Index → Result ClosedIndex ShapeFault → Type 0
ClosedOr x (Ok c) = c.index.now ≡ x
ClosedOr x (Err f) = (e : Edge) × In e (open_edges_of (faces_of x)) × (f ≡ OpenEdge e.0.key e.1.key)
