-- The law of histories, which every call on a hull keeps, and what entering a face answers and leaves.
use Rattle.std.specs.Prelude.{◌≡◌, List, ◌∷◌, ◌-ℤ◌, Ok, Err}
use Rattle.algebra.specs.Vector.{V3, dot}
use Rattle.solid.specs.Entering.{Entry, EnterSays, entered}
use Rattle.solid.specs.Faces.{Ring, count}
use Rattle.solid.specs.Roll.{Call, enter, Rolls}
use Rattle.hull.specs.Meaning.{faces_of, answered_volume, answered_edge_sum}
use Rattle.hull.specs.declared.hull.Hull.{Hull}

-- from every whole-number point q the hull's faces count the kept volume less q · edge sum, both as the questions answer them
abbrev pub CountsFromEvery : Hull → Type 0
CountsFromEvery h = (q : V3) → count q (faces_of h) ≡ answered_volume h -ℤ dot q (answered_edge_sum h)

-- a call takes a hull from `before` to `after`
pub record Law (call : Call) (before after : Hull) : Type 0 where
  -- whatever calls made a roll that the hull's faces were, these calls and this one make a roll that its faces are now
  pub roll : (calls : List Call) → Rolls calls (faces_of before) → Rolls (call ∷ calls) (faces_of after)
  pub counts : CountsFromEvery after

-- where the answer is a fault
abbrev pub OnFault : Entry → Type 0 → Type 0
OnFault (Ok done) P = Unit {0}
OnFault (Err f) P = P

-- entering a ring
pub record Entered (ring : Ring) (before after : Hull) (answer : Entry) : Type 0 where
  -- the answer is exactly that of the first test that fails, in order
  pub says : EnterSays (faces_of before) ring answer
  pub faces : faces_of after ≡ entered (faces_of before) ring answer
  -- a fault leaves the whole hull as it was
  pub left : OnFault answer (after ≡ before)
  pub law : Law (enter ring) before after
