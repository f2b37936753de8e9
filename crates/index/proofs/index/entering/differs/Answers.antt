use Rattle.std.proofs.Common.{◌≡◌, Bool, true, false, not, sym, refl, ◌∙◌, true≢false, rules}
use Rattle.std.specs.Ordering.{int_eq}
use Rattle.std.specs.Cmp.Lexicographic.{pointwise}
use Rattle.std.proofs.lemmas.Bool.{false_from_ne_true}
use Rattle.algebra.proofs.Arrays.{same_vector}
use Rattle.index.proofs.index.entering.differs.Goals as goal

unless : (r t : Bool) → r ≡ not t → (r ≡ true → t ≡ false) × (t ≡ false → r ≡ true)
unless r true e = (λ q. absurd (true≢false (sym q ∙ e)), λ q. absurd (true≢false q))
unless r false e = (λ q. refl, λ q. e)

pub returns-then-b-c : goal.returns-then-b-c
returns-then-b-c c =
    let p = c.args.b.position in
    let q = c.args.c.position in
    let same = same_vector p q (pointwise int_eq p q) (search rules) (search rules) refl in
    let turned = unless c.ne.result (pointwise int_eq p q) c.ne.ensures in (
      λ t. (c.if-b-c.true, λ e. true≢false (sym (same.1 e) ∙ turned.0 t)),
      λ h. turned.1 (false_from_ne_true (pointwise int_eq p q) (λ t. h.1 (same.0 t))),
    )
