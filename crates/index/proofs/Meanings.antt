-- What an index means is kept by it: its faces are consistent, its tables find their keys, positions and edges, and the places of its edges are in
-- the order of the keys.
use Rattle.std.proofs.Common.{◌≡◌, ℕ, ◌<◌, List, length, Option, ℤ, ap, ap₂, ◌∙◌}
use Rattle.std.specs.Option.{MatchOption}
use Rattle.std.specs.Cmp.{nat_cmp_total}
use Rattle.std.specs.FinMap.{find, get, len}
use Rattle.std.specs.Ordering.{nat_cmp}
use Rattle.std.proofs.lemmas.List.{nil_from_length}
use Rattle.faces.specs.Held.{stored_corners}
use Rattle.solid.specs.Cycles.{ByKey}
use Rattle.solid.specs.Faces.{Corner, flip, all_edges}
use Rattle.solid.specs.Lists.{In}
use Rattle.solid.specs.Places.{edge_at, key_at, Twin, Follows}
use Rattle.solid.specs.Rules.{Consistent, key_count_of}
use Rattle.solid.specs.Soundness.{Closed}
use Rattle.solid.proofs.Closing.{none_open_closed}
use Rattle.table.specs.Seen.{map_of}
use Rattle.tracking.specs.Tables.{position_cmp, edge_cmp, key_pairs, position_pairs, edge_pairs}
use Rattle.tracking.proofs.Keys.{key_size}
use Rattle.tracking.proofs.Orders.{position_cmp_total, edge_cmp_total}
use Rattle.tracking.proofs.Pairs.{tracked}
use Rattle.tracking.proofs.Places.{by_key, twin_by}
use Rattle.tracking.proofs.Props.{kept_out}
use Rattle.index.specs.Meaning.{faces_of, places_by_key}
use Rattle.index.specs.declared.index.Index.{Index}
use Rattle.index.specs.declared.index.closed.ClosedIndex.{ClosedIndex}

module _ (x : Index) where
  pub consistent : Consistent (faces_of x)
  consistent = (kept_out x.kept).consistent

  pub ordered : ByKey (faces_of x) (places_by_key x)
  ordered = by_key (faces_of x) consistent x.edges (kept_out x.kept).edges_held

  -- ---- what the tables find
  pub position_found : (k : ℕ) → get (map_of nat_cmp x.corners.positions) k ≡ find nat_cmp k (key_pairs (stored_corners x.faces))
  position_found = tracked nat_cmp_total x.corners.positions _ (kept_out x.kept).positions_held

  pub key_found : (p : List ℤ) → get (map_of position_cmp x.corners.keys) p ≡ find position_cmp p (position_pairs (stored_corners x.faces))
  key_found = tracked position_cmp_total x.corners.keys _ (kept_out x.kept).keys_held

  pub edge_found : (e : ℕ × ℕ) → get (map_of edge_cmp x.edges) e ≡ find edge_cmp e (edge_pairs 0 (all_edges (faces_of x)))
  edge_found = tracked edge_cmp_total x.edges _ (kept_out x.kept).edges_held

  -- looking up the turned keys of an edge, which are those at its place and at the next in the ring, finds its reverse
  pub twin_found : (p q : ℕ) → p < length (all_edges (faces_of x)) → Follows (faces_of x) p q → (from to : ℕ) → from ≡ key_at (faces_of x) p → to ≡ key_at (faces_of x) q → (o : Option ℕ) → o ≡ get (map_of edge_cmp x.edges) (to, from) → MatchOption o (In (flip (edge_at (faces_of x) p)) (all_edges (faces_of x)) → ⊥) (Twin (faces_of x) p)
  twin_found p q l after from to f t o e =
      twin_by (faces_of x) consistent p l o (e ∙ edge_found _ ∙ ap₂ (λ a b. find edge_cmp (a, b) (edge_pairs 0 (all_edges (faces_of x)))) (t ∙ ap (λ (d : Corner). d.key) after.joined) f)

  pub keys_total : len (map_of nat_cmp x.corners.positions) ≡ key_count_of (faces_of x)
  keys_total = ap len (kept_out x.kept).positions_held ∙ key_size x.faces

-- a closed index has no open edge, so each edge has its reverse
pub closed_out : (c : ClosedIndex) → Closed (faces_of c.index.now)
closed_out c = none_open_closed (faces_of c.index.now) (nil_from_length _ c.closed)
