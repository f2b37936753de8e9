-- Vectors of three integers. A Rattle array `[i64; 3]` is a list in a clause, and `vector` reads it.
use Rattle.std.specs.Prelude.{ℕ, ◌*◌, ◌^◌, ◌≤◌, List, [], ◌∷◌, ℤ, pos, ◌+ℤ◌, ◌-ℤ◌, ◌*ℤ◌, neg_ℤ, slice_index_or, unsigned_abs}

pub record V3 : Type 0 where
  pub x : ℤ
  pub y : ℤ
  pub z : ℤ

abbrev pub vector : List ℤ → V3
vector l = record { x = slice_index_or l 0 (pos 0); y = slice_index_or l 1 (pos 0); z = slice_index_or l 2 (pos 0) }

-- its three components in a list
abbrev pub coordinates : V3 → List ℤ
coordinates v = v.x ∷ v.y ∷ v.z ∷ []

abbrev pub null : V3
null = record { x = pos 0; y = pos 0; z = pos 0 }

infixl 6 ◌+ᵛ◌ ◌-ᵛ◌
abbrev pub ◌+ᵛ◌ : V3 → V3 → V3
a +ᵛ b = record { x = a.x +ℤ b.x; y = a.y +ℤ b.y; z = a.z +ℤ b.z }

abbrev pub ◌-ᵛ◌ : V3 → V3 → V3
a -ᵛ b = record { x = a.x -ℤ b.x; y = a.y -ℤ b.y; z = a.z -ℤ b.z }

abbrev pub negᵛ : V3 → V3
negᵛ a = record { x = neg_ℤ a.x; y = neg_ℤ a.y; z = neg_ℤ a.z }

abbrev pub scale : ℤ → V3 → V3
scale k a = record { x = k *ℤ a.x; y = k *ℤ a.y; z = k *ℤ a.z }

abbrev pub dot : V3 → V3 → ℤ
dot a b = a.x *ℤ b.x +ℤ a.y *ℤ b.y +ℤ a.z *ℤ b.z

abbrev pub cross : V3 → V3 → V3
cross a b = record {
  x = a.y *ℤ b.z -ℤ a.z *ℤ b.y;
  y = a.z *ℤ b.x -ℤ a.x *ℤ b.z;
  z = a.x *ℤ b.y -ℤ a.y *ℤ b.x;
}

-- |k| is at most n
pub record Near (n : ℕ) (k : ℤ) : Type 0 where
  pub abs : unsigned_abs k ≤ n

-- each component lies within ±n
pub record Within (n : ℕ) (v : V3) : Type 0 where
  pub x : Near n v.x
  pub y : Near n v.y
  pub z : Near n v.z

-- positions: each coordinate lies within ±50,000
abbrev pub Inside : V3 → Type 0
Inside v = Within 50000 v

-- differences of positions
abbrev pub Small : V3 → Type 0
Small v = Within 100000 v

-- sums of the vector products of positions, over up to 4,000 edges
abbrev pub Large : V3 → Type 0
Large v = Within (2 * 10 ^ 13) v
