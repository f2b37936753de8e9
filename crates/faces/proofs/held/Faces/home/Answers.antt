-- The ends rise, so those that are at most the place come first.
use Rattle.std.proofs.Common.{◌≡◌, ℕ, ◌<◌, List, length, get_or, leb, vec_items, subst, sym, ap, rules, arith}
use Rattle.std.specs.List.Sorted.{IsPartitionedBy}
use Rattle.std.proofs.lemmas.Bool.Decides.{nat_tests}
use Rattle.std.proofs.lemmas.Fn.{always_returns_same}
use Rattle.std.proofs.lemmas.List.{get_or_default}
use Rattle.faces.specs.declared.held.Faces.{Faces}
use Rattle.faces.proofs.Places.{place_rise, home_found}
use Rattle.faces.proofs.held.Faces.home.Goals as goal

at_zero : (xs : List ℕ) (i d : ℕ) → i < length xs → get_or xs i d ≡ get_or xs i 0
at_zero xs i d within = get_or_default xs i d 0 within

parted : (f : Faces) (p : ℕ) → IsPartitionedBy (λ e. leb e p) (vec_items f.ends)
parted f p i j d le within at_most =
    let rise = place_rise f i j le (omega (arith, within, f.ends.ok.0)) in
    grind (arith, nat_tests, rise, at_zero (vec_items f.ends) i d (omega (arith, le, within)), at_zero (vec_items f.ends) j d within)

pub returns : goal.returns
returns c =
    let f = c.args.self.now in
    let found = c.partition_point.ensures in
    let same = c.deref.ensures.value in
    let split = found.partitioned (λ e. leb e c.args.place) (always_returns_same _ _ _ (λ a r g called. search rules)) (subst (IsPartitionedBy (λ e. leb e c.args.place)) (sym same) (parted f c.args.place)) in
    home_found f c.args.place _ c.requires
    (omega (arith, found.bound, ap length same, f.ends.ok.0))
    (λ k before. grind (arith, nat_tests, split.0 k 0 (omega arith) before, same))
    (λ k after within. grind (arith, nat_tests, split.1 k 0 after (omega (arith, within, ap length same, f.ends.ok.0)), same))
