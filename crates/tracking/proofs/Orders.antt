-- The orders of keys, positions and edges tell apart what differs.
use Rattle.std.proofs.Common.{◌≡◌, ℕ, ◌≤◌, Bool, eqb, sym, refl, arith}
use Rattle.std.specs.declared.cmp.Ordering.TheVariants.{Less, Equal, Greater}
use Rattle.std.specs.Ordering.{nat_cmp, ordering_then, eq_by_cmp}
use Rattle.std.specs.Cmp.{IsTotalOrder, nat_cmp_total, int_cmp_total, then_total, on_total, unsigned_tied}
use Rattle.std.specs.Cmp.Lexicographic.{lists_total}
use Rattle.std.specs.FinMap.{IsAntisymmetric, nat_cmp-IsAntisymmetric, int_cmp-IsAntisymmetric, slice_cmp-IsAntisymmetric}
use Rattle.std.proofs.lemmas.Cmp.{ranked}
use Rattle.solid.proofs.Cancel.{Tells}
use Rattle.tracking.specs.Tables.{position_cmp, edge_cmp}
use Rattle.tracking.proofs.Pairs.{order_tells}

pub position_cmp_total : IsTotalOrder position_cmp
position_cmp_total = lists_total int_cmp_total

pub position_cmp_tells : IsAntisymmetric position_cmp
position_cmp_tells = slice_cmp-IsAntisymmetric int_cmp-IsAntisymmetric

pub edge_cmp_total : IsTotalOrder edge_cmp
edge_cmp_total = then_total (on_total (λ (p : ℕ × ℕ). p.0) nat_cmp_total) (on_total (λ (p : ℕ × ℕ). p.1) nat_cmp_total)

pub edge_cmp_tells : IsAntisymmetric edge_cmp
edge_cmp_tells p q e =
    elim (nat_cmp p.0 q.0) as (λ r. nat_cmp p.0 q.0 ≡ r → ordering_then r (nat_cmp p.1 q.1) ≡ Equal → p ≡ q) [
      | Less ↦ λ t h. cc
      | Equal ↦ λ t h. λ i. (nat_cmp-IsAntisymmetric p.0 q.0 t i, nat_cmp-IsAntisymmetric p.1 q.1 h i)
      | Greater ↦ λ t h. cc
    ] refl e

-- the first keys do not fall
pub edge_cmp_first : (p q : ℕ × ℕ) → edge_cmp p q ≡ Less → p.0 ≤ q.0
edge_cmp_first p q e =
    elim (nat_cmp p.0 q.0) as (λ r. nat_cmp p.0 q.0 ≡ r → ordering_then r (nat_cmp p.1 q.1) ≡ Less → p.0 ≤ q.0) [
      | Less ↦ λ t h. omega (arith, ranked p.0 q.0 Less (sym t))
      | Equal ↦ λ t h. omega (arith, ranked p.0 q.0 Equal (sym t))
      | Greater ↦ λ t h. cc
    ] refl e

-- the library's test of equal numbers
pub number_test : ◌≡◌ {A = ℕ → ℕ → Bool} (eq_by_cmp nat_cmp) eqb
number_test = λ i x y. unsigned_tied x y i

-- the tests that the orders make are tests of equality
pub position_test : Tells (eq_by_cmp position_cmp)
position_test = order_tells position_cmp_total position_cmp_tells

pub ends_test : Tells (eq_by_cmp edge_cmp)
ends_test = order_tells edge_cmp_total edge_cmp_tells
