-- The tests one after the other: what is valid, apart and agrees is allowed, and nothing else is.
use Rattle.std.proofs.Common.{sym, ◌∙◌, inr, true≢false}
use Rattle.std.proofs.lemmas.Bool.Decides.{not_from_Decides}
use Rattle.solid.specs.Corners.{corner_of, ring_of}
use Rattle.index.specs.Meaning.{faces_of}
use Rattle.tracking.proofs.Allowed.{allowed_from, allowed_apart}
use Rattle.index.proofs.index.Index.is_allowed.Goals as goal
use Rattle.index.proofs.index.Index.is_allowed.Goals.{then-is_valid, else-is_valid}

pub returns-then-is_apart : goal.returns-then-is_apart
returns-then-is_apart c = elim c.if-is_valid.branch [
  | then-is_valid w ↦ (
    λ t. allowed_from (faces_of c.args.self.now) (ring_of c.args.before.now) (corner_of c.args.c) (c.is_valid.ensures.0 w.if-is_valid.true) (w.is_apart.ensures.0 (sym w.value-is ∙ c.if-is_apart.true)) (c.agrees.ensures.0 t),
    λ allowed. c.agrees.ensures.1 (λ d i. allowed.agree d (inr i)),
  )
  | else-is_valid w ↦ absurd (true≢false (sym c.if-is_apart.true ∙ w.value-is ∙ w.if-is_valid.false))
]

pub returns-else-is_apart : goal.returns-else-is_apart
returns-else-is_apart c = (
  λ t. absurd (true≢false (sym t ∙ c.if-is_apart.false)),
  λ allowed. elim c.if-is_valid.branch [
    | then-is_valid w ↦ absurd (not_from_Decides w.is_apart.result w.is_apart.ensures (sym w.value-is ∙ c.if-is_apart.false) (allowed_apart (faces_of c.args.self.now) (ring_of c.args.before.now) (corner_of c.args.c) allowed))
    | else-is_valid w ↦ absurd (not_from_Decides c.is_valid.result c.is_valid.ensures w.if-is_valid.false allowed.valid)
  ],
)
