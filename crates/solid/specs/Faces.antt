-- Corners, rings, their directed edges, and what is counted of them.
use Rattle.std.specs.Prelude.{ℕ, Bool, false, not, ◌&&◌, List, [], ◌∷◌, ◌++◌, map, reverse, ℤ, pos, negsuc, filter, ◌==◌}
use Rattle.algebra.specs.Vector.{V3, null, ◌+ᵛ◌, ◌-ᵛ◌, dot, cross}
use Rattle.solid.specs.Lists.{total, has}

pub record Corner : Type 0 where
  pub key : ℕ
  pub position : V3

-- a face is its ring of corners, the last followed by the first
abbrev pub Ring : Type 0
Ring = List Corner

-- a directed edge, from the first corner to the second
abbrev pub Edge : Type 0
Edge = Corner × Corner

abbrev pub flip : Edge → Edge
flip e = (e.1, e.0)

-- from a through the corners of a list to z
abbrev pub steps : Corner → List Corner → Corner → List Edge
steps a [] z = (a, z) ∷ []
steps a (b ∷ bs) z = (a, b) ∷ steps b bs z

abbrev pub edges : Ring → List Edge
edges [] = []
edges (c ∷ cs) = steps c cs c

abbrev pub all_edges : List Ring → List Edge
all_edges [] = []
all_edges (r ∷ rs) = edges r ++ all_edges rs

-- the vector product of an edge's ends
abbrev pub span : Edge → V3
span e = cross e.0.position e.1.position

-- the sum of the vector products over a list of edges
abbrev pub spans : List Edge → V3
spans [] = null
spans (e ∷ es) = span e +ᵛ spans es

-- D of a face
abbrev pub D : Ring → V3
D r = spans (edges r)

-- where a ring begins
abbrev pub start : Ring → V3
start [] = null
start (c ∷ cs) = c.position

-- the volume counted from q: six times the enclosed volume of a closed hull
abbrev pub count : V3 → List Ring → ℤ
count q fs = total (λ r. dot (start r -ᵛ q) (D r)) fs

-- the kept volume: the count from the origin
abbrev pub kept_volume_of : List Ring → ℤ
kept_volume_of fs = count null fs

-- every ring turned round
abbrev pub reversed : List Ring → List Ring
reversed fs = map reverse fs

-- ---- open edges
-- tests of equality that compute
abbrev pub same_number : ℤ → ℤ → Bool
same_number (pos m) (pos n) = m == n
same_number (pos m) (negsuc n) = false
same_number (negsuc m) (pos n) = false
same_number (negsuc m) (negsuc n) = m == n

abbrev pub same_vector : V3 → V3 → Bool
same_vector p q = same_number p.x q.x && same_number p.y q.y && same_number p.z q.z

abbrev pub same_corner : Corner → Corner → Bool
same_corner a b = a.key == b.key && same_vector a.position b.position

abbrev pub same_edge : Edge → Edge → Bool
same_edge e f = same_corner e.0 f.0 && same_corner e.1 f.1

-- an edge is open among others when its reverse is not one of them
abbrev pub is_open : List Edge → Edge → Bool
is_open es e = not (has same_edge (flip e) es)

abbrev pub open_edges_of : List Ring → List Edge
open_edges_of fs = filter (is_open (all_edges fs)) (all_edges fs)

-- the edge sum: the sum of the vector products over the open edges
abbrev pub edge_sum_of : List Ring → V3
edge_sum_of fs = spans (open_edges_of fs)
