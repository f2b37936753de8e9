-- When two segments share a point, and the arithmetic that the tests of it compare.
-- A position is a vector of three integers; `◌≤ℤ◌` binds more tightly than the operations.
use Rattle.std.specs.Prelude.{◌≡◌, ℕ, ◌<◌, ◌≤◌, ℤ, pos, ◌≤ℤ◌}
use Rattle.algebra.specs.Vector.{V3, null, ◌+ᵛ◌, ◌-ᵛ◌, scale, dot, cross}

-- the segments from a to b and from c to e share a point, s of d along the first and t of d along the second
pub record Meets (a b c e : V3) : Type 0 where
  pub d : ℕ
  pub s : ℕ
  pub t : ℕ
  pub whole : 0 < d
  pub first : s ≤ d
  pub second : t ≤ d
  pub point : scale (pos d) a +ᵛ scale (pos s) (b -ᵛ a) ≡ scale (pos d) c +ᵛ scale (pos t) (e -ᵛ c)

-- every point that the segments from a to b and from b to c share is b
abbrev pub OnlyCorner : V3 → V3 → V3 → Type 0
OnlyCorner a b c = (m : Meets a b b c) → (m.s ≡ m.d) × (m.t ≡ 0)

-- p lies on the segment from a to b: on its line, and not beyond an end
pub record On (p a b : V3) : Type 0 where
  pub line : cross (p -ᵛ a) (p -ᵛ b) ≡ null
  pub between : dot (p -ᵛ a) (p -ᵛ b) ≤ℤ pos 0

-- s lies from 0 to d
pub record Part (d s : ℤ) : Type 0 where
  pub low : pos 0 ≤ℤ s
  pub high : s ≤ℤ d

-- the lines of two segments meet, where the height of one above the other is 0, at a point of both: s of d along one, t of d along the other
pub record Shared (d height s t : ℤ) : Type 0 where
  pub coplanar : height ≡ pos 0
  pub first : Part d s
  pub second : Part d t

-- segments along u and v that are not parallel, the second starting w from the first, share a point
abbrev pub Crossing : V3 → V3 → V3 → Type 0
Crossing u v w = Shared (dot (cross u v) (cross u v)) (dot w (cross u v)) (dot (cross w v) (cross u v)) (dot (cross w u) (cross u v))

-- an end of one of the segments from a to b and from c to e lies on the other; b need not be asked
pub data EndOn (a b c e : V3) : Type 0 where
  first_on : On a c e → EndOn a b c e
  third_on : On c a b → EndOn a b c e
  fourth_on : On e a b → EndOn a b c e
