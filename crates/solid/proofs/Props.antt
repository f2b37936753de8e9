-- That faces are consistent has one proof at most. So it comes out of a truncation, as a struct's ghost field has it.
use Rattle.std.proofs.Common.{◌≡◌, ℕ, List, [], ◌∷◌}
use mathlib.Core.HLevel.{hedberg, Π_prop, ×_prop, ¬_prop, Unit-prop}
use native.Mathlib.Bridge.{le_prop}
use native.Mathlib.Decide.{ℕ_discrete}
use lib.IntN.{ℤ_set}
use Rattle.solid.specs.Lists.{Distinct}
use Rattle.algebra.specs.Vector.{V3, Within}
use Rattle.solid.specs.Faces.{Corner, Ring, Edge}
use Rattle.solid.specs.Rules.{Valid, Meet, NoCrossing, Tidy, Proper, Agree, Limits, Consistent}

ℕ_one : (m n : ℕ) → IsProp (m ≡ n)
ℕ_one m n = hedberg ℕ_discrete m n

-- two paths between vectors are one, by their three parts
pub vector_one : (a b : V3) → IsProp (a ≡ b)
vector_one a b p q = λ i j. record {
  x = ℤ_set a.x b.x (λ k. (p k).x) (λ k. (q k).x) i j;
  y = ℤ_set a.y b.y (λ k. (p k).y) (λ k. (q k).y) i j;
  z = ℤ_set a.z b.z (λ k. (p k).z) (λ k. (q k).z) i j;
}

within_one : (n : ℕ) (v : V3) → IsProp (Within n v)
within_one n v p q = λ i. record {
  x = record { abs = le_prop p.x.abs q.x.abs i };
  y = record { abs = le_prop p.y.abs q.y.abs i };
  z = record { abs = le_prop p.z.abs q.z.abs i };
}

valid_one : (c : Corner) → IsProp (Valid c)
valid_one c p q = λ i. record { key = (le_prop p.key.0 q.key.0 i, le_prop p.key.1 q.key.1 i); position = within_one 50000 c.position p.position q.position i }

pub distinct_one : {X : Type 0} (xs : List X) → IsProp (Distinct xs)
distinct_one [] = Unit-prop
distinct_one (x ∷ xs) = ×_prop ¬_prop (distinct_one xs)

no_crossing_one : (e f : Edge) → IsProp (NoCrossing e f)
no_crossing_one e f p q = λ i. record {
  apart = Π_prop (λ _. Π_prop (λ _. Π_prop (λ _. ¬_prop))) p.apart q.apart i;
  joined = Π_prop (λ _. Π_prop (λ (m : Meet e f). ×_prop (ℕ_one m.s m.d) (ℕ_one m.t 0))) p.joined q.joined i;
}

pub tidy_one : (r : Ring) → IsProp (Tidy r)
tidy_one r p q = λ i. record {
  sized = (le_prop p.sized.0 q.sized.0 i, le_prop p.sized.1 q.sized.1 i);
  valid = Π_prop (λ c. Π_prop (λ _. valid_one c)) p.valid q.valid i;
  keys = distinct_one _ p.keys q.keys i;
}

proper_one : (r : Ring) → IsProp (Proper r)
proper_one r p q = λ i. record {
  tidy = tidy_one r p.tidy q.tidy i;
  planar = (¬_prop p.planar.0 q.planar.0 i, Π_prop (λ c. Π_prop (λ _. ℤ_set _ _)) p.planar.1 q.planar.1 i);
  simple = Π_prop (λ e. Π_prop (λ f. Π_prop (λ _. Π_prop (λ _. no_crossing_one e f)))) p.simple q.simple i;
}

agree_one : (a b : Corner) → IsProp (Agree a b)
agree_one a b = ×_prop (Π_prop (λ _. vector_one a.position b.position)) (Π_prop (λ _. ℕ_one a.key b.key))

limits_one : (fs : List Ring) → IsProp (Limits fs)
limits_one fs p q = λ i. record { faces = le_prop p.faces q.faces i; keys = le_prop p.keys q.keys i; edges = le_prop p.edges q.edges i }

pub consistent_one : (fs : List Ring) → IsProp (Consistent fs)
consistent_one fs p q = λ i. record {
  proper = Π_prop (λ r. Π_prop (λ _. proper_one r)) p.proper q.proper i;
  agree = Π_prop (λ a. Π_prop (λ b. Π_prop (λ _. Π_prop (λ _. agree_one a b)))) p.agree q.agree i;
  once = distinct_one _ p.once q.once i;
  limits = limits_one fs p.limits q.limits i;
}
