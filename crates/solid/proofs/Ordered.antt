-- Tests in order: what two answers of one chain have to do with each other, and what an answer without a fault has passed.
use Rattle.std.proofs.Common.{◌≡◌, ℕ, ◌⊎◌, Ok, Err, Result, sym, ◌∙◌, inl, inr}
use Rattle.fault.specs.declared.shape.ShapeFault.{ShapeFault}
use Rattle.solid.specs.Entering.{Refused, OrElse}

abbrev pub IsOk : {A : Type 0} → Result A ShapeFault → Type 0
IsOk (Ok a) = Unit {0}
IsOk (Err f) = ⊥

module _ {A : Type 0} where
  -- R holds of each two answers of Q
  abbrev pub EachTwo : (Result A ShapeFault → Type 0) → (Result A ShapeFault → Result A ShapeFault → Type 0) → Type 0
  EachTwo Q R = (x y : Result A ShapeFault) → Q x → Q y → R x y

  pub one_refused : (n : ℕ) (f : ShapeFault) → EachTwo (Refused n f) ◌≡◌
  one_refused n f x y p q = p.0 ∙ sym q.0

  pub each_or_else : (R : Result A ShapeFault → Result A ShapeFault → Type 0) (P : Type 0) (fail after : Result A ShapeFault → Type 0) → EachTwo fail R → EachTwo after R → EachTwo (OrElse P fail after) R
  each_or_else R P fail after f g x y (inl p) (inl q) = f x y p.1 q.1
  each_or_else R P fail after f g x y (inl p) (inr q) = absurd (p.0 q.0)
  each_or_else R P fail after f g x y (inr p) (inl q) = absurd (q.0 p.0)
  each_or_else R P fail after f g x y (inr p) (inr q) = g x y p.1 q.1

-- a test passed, where its failure says something else
pub passed : {P F A : Type 0} → (F → ⊥) → ((P → ⊥) × F) ⊎ (P × A) → P × A
passed n (inl p) = absurd (n p.1)
passed n (inr p) = p
