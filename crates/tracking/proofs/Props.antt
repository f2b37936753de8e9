-- That tables are kept in step has one proof at most, so it comes out of the truncation in which a ghost field has it.
use Rattle.std.proofs.Common.{ℕ, List, ℤ}
use mathlib.Core.HLevel.{×_prop, ×₃_prop}
use mathlib.Core.Logic.{∥∥₁_elim}
use native.Mathlib.Bridge.{le_prop}
use Rattle.std.specs.declared.cmp.Ordering.{Ordering}
use Rattle.std.specs.Coded.{Coded, Coded-set, coded_ℕ, coded_ℤ, coded_list, coded×}
use Rattle.std.specs.FinMap.{code}
use Rattle.faces.specs.declared.held.Faces.{Faces}
use Rattle.solid.proofs.Props.{consistent_one}
use Rattle.table.specs.declared.Table.{Table}
use Rattle.tracking.specs.Tables.{Tracks, Kept}

tracks_one : {K V : Type 0} (R : K → K → Ordering) → Coded K → Coded V → (t : Table K V) (ps : List (K × V)) → IsProp (Tracks R t ps)
tracks_one R k v t ps = Coded-set (code k v) _ _

kept_one : (f : Faces) (positions : Table ℕ (List ℤ)) (keys : Table (List ℤ) ℕ) (edges : Table (ℕ × ℕ) ℕ) → IsProp (Kept f positions keys edges)
kept_one f positions keys edges p q = λ i. record {
  consistent = consistent_one _ p.consistent q.consistent i;
  positions_held = tracks_one _ coded_ℕ (coded_list coded_ℤ) positions _ p.positions_held q.positions_held i;
  keys_held = tracks_one _ (coded_list coded_ℤ) coded_ℕ keys _ p.keys_held q.keys_held i;
  edges_held = tracks_one _ (coded× coded_ℕ coded_ℕ) coded_ℕ edges _ p.edges_held q.edges_held i;
  face_room = ×_prop le_prop le_prop p.face_room q.face_room i;
  table_room = ×₃_prop le_prop le_prop le_prop p.table_room q.table_room i;
}

pub kept_out : {f : Faces} {positions : Table ℕ (List ℤ)} {keys : Table (List ℤ) ℕ} {edges : Table (ℕ × ℕ) ℕ} → ∥ Kept f positions keys edges ∥₁ → Kept f positions keys edges
kept_out {f} {positions} {keys} {edges} t = ∥∥₁_elim t (kept_one f positions keys edges) (λ k. k)
