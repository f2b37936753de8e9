-- The count from q is the kept volume less q · edge sum.
use Rattle.std.proofs.Common.{◌≡◌, List, [], ◌∷◌, ℤ, ◌+ℤ◌, ◌-ℤ◌, sym, refl, ap, ◌∙◌, ap₂}
use lib.IntN.{+ℤ_idr}
use Rattle.solid.specs.Lists.{total, Distinct}
use Rattle.algebra.specs.Vector.{V3, null, ◌-ᵛ◌, dot}
use Rattle.solid.specs.Faces.{Ring, Edge, flip, edges, all_edges, span, spans, D, start, count, kept_volume_of, same_edge, open_edges_of, edge_sum_of}
use Rattle.algebra.proofs.Vectors.{dot-null, null-dot, dot_add, sub_dot, dot_cross_turns, same_products}
use Rattle.solid.proofs.Sums.{total_same, total_zero, total-append, total-minus}
use Rattle.solid.proofs.Cancel.{cancel}
use Rattle.solid.proofs.Tests.{edge_tells}

-- what an edge adds to q · D
unfoldable pub along : V3 → Edge → ℤ
along q e = dot q (span e)

pub dot-spans : (q : V3) (es : List Edge) → dot q (spans es) ≡ total (along q) es
unfolding along
dot-spans q [] = dot-null q
dot-spans q (e ∷ es) = dot_add q (span e) (spans es) ∙ ap (λ t. dot q (span e) +ℤ t) (dot-spans q es)

pub dot_faces : (q : V3) (fs : List Ring) → total (λ r. dot q (D r)) fs ≡ total (along q) (all_edges fs)
dot_faces q [] = refl
dot_faces q (r ∷ rs) = ap₂ ◌+ℤ◌ (dot-spans q (edges r)) (dot_faces q rs) ∙ sym (total-append (along q) (edges r) (all_edges rs))

-- the sum of start · D over the faces
unfoldable pub base : List Ring → ℤ
base fs = total (λ r. dot (start r) (D r)) fs

pub count_is : (q : V3) (fs : List Ring) → count q fs ≡ base fs -ℤ total (λ r. dot q (D r)) fs
unfolding base
count_is q fs =
    total_same (λ r. dot (start r -ᵛ q) (D r)) (λ r. dot (start r) (D r) -ℤ dot q (D r)) (λ r. sub_dot (start r) q (D r)) fs
    ∙ total-minus (λ r. dot (start r) (D r)) (λ r. dot q (D r)) fs

pub kept_is : (fs : List Ring) → kept_volume_of fs ≡ base fs
kept_is fs =
    count_is null fs
    ∙ ap (λ t. base fs -ℤ t) (total_zero (λ r. dot null (D r)) (λ r. null-dot (D r)) fs)
    ∙ +ℤ_idr (base fs)

-- the sum of q · (a × b) over all edges is that over the open ones
pub all_or_open : (fs : List Ring) → Distinct (all_edges fs) → (q : V3) → total (along q) (all_edges fs) ≡ dot q (edge_sum_of fs)
unfolding along
all_or_open fs d q =
    cancel same_edge edge_tells flip (λ e. refl) (along q) (λ e. dot_cross_turns q e.1.position e.0.position) (all_edges fs) d
    ∙ sym (dot-spans q (open_edges_of fs))

-- faces that have no directed edge twice count from each point q the kept volume less q · edge sum
pub counts_agree : (fs : List Ring) → Distinct (all_edges fs) → (q : V3) → count q fs ≡ kept_volume_of fs -ℤ dot q (edge_sum_of fs)
counts_agree fs d q = count_is q fs ∙ ap₂ ◌-ℤ◌ (sym (kept_is fs)) (dot_faces q fs ∙ all_or_open fs d q)

-- so the edge sum is the sum over all edges, open or not: the sum of the faces' D
pub edge_sum_is_whole : (fs : List Ring) → Distinct (all_edges fs) → edge_sum_of fs ≡ spans (all_edges fs)
edge_sum_is_whole fs d = same_products (edge_sum_of fs) (spans (all_edges fs)) (λ q. sym (all_or_open fs d q) ∙ sym (dot-spans q (all_edges fs)))
