-- Edges and faces by number. The place of a directed edge is its number among the edges of all faces, in order, from 0.
use Rattle.std.specs.Prelude.{◌≡◌, ℕ, zero, suc, ◌+◌, ◌<◌, ◌≤◌, List, [], ◌∷◌, length, slice_index_or}
use Rattle.algebra.specs.Vector.{null}
use Rattle.solid.specs.Lists.{In}
use Rattle.solid.specs.Faces.{Ring, Edge, flip, edges, all_edges}

-- what stands past the end
abbrev pub no_edge : Edge
no_edge = (record { key = 0; position = null }, record { key = 0; position = null })

abbrev pub edge_at : List Ring → ℕ → Edge
edge_at fs p = slice_index_or (all_edges fs) p no_edge

-- the key at which the edge begins
abbrev pub key_at : List Ring → ℕ → ℕ
key_at fs p = (edge_at fs p).0.key

abbrev pub face_at : List Ring → ℕ → Ring
face_at fs f = slice_index_or fs f []

-- the place of the first edge of face f
abbrev pub first_place : List Ring → ℕ → ℕ
first_place fs zero = 0
first_place [] (suc f) = 0
first_place (r ∷ rs) (suc f) = length r + first_place rs f

-- the edge at p is one of face f
pub record Home (fs : List Ring) (p f : ℕ) : Type 0 where
  pub face : f < length fs
  pub from : first_place fs f ≤ p
  pub below : p < first_place fs (suc f)

-- r is the place of the reverse of the edge at p
pub record Twin (fs : List Ring) (p r : ℕ) : Type 0 where
  pub within : r < length (all_edges fs)
  pub reverse : edge_at fs r ≡ flip (edge_at fs p)

-- q is the place of the edge after that at p in their ring
pub record Follows (fs : List Ring) (p q : ℕ) : Type 0 where
  pub within : q < length (all_edges fs)
  pub joined : (edge_at fs q).0 ≡ (edge_at fs p).1
  pub face : ℕ
  pub here : Home fs p face
  pub there : Home fs q face

-- one step round the start of the edge at p: the edge at q begins there too, in the face that has the reverse of the edge at p
pub record Onward (fs : List Ring) (p q : ℕ) : Type 0 where
  pub within : q < length (all_edges fs)
  pub same : (edge_at fs q).0 ≡ (edge_at fs p).0
  pub face : Ring
  pub among : In face fs
  pub reverse : In (flip (edge_at fs p)) (edges face)
  pub out : In (edge_at fs q) (edges face)

-- face g has the reverse of the edge at p
pub record Across (fs : List Ring) (p g : ℕ) : Type 0 where
  pub face : g < length fs
  pub reverse : In (flip (edge_at fs p)) (edges (face_at fs g))
