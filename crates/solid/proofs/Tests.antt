-- The tests of equality on numbers, points, corners and edges.
use Rattle.std.proofs.Common.{◌≡◌, Bool, true, false, ◌&&◌, eqb, ℤ, pos, negsuc, sym, refl, ap, true≢false, eq-eqb, eqb-true}
use Rattle.solid.specs.Faces.{same_number, same_vector, same_corner, same_edge}
use Rattle.solid.proofs.Cancel.{Tells}

pub both : (a b : Bool) → (a && b) ≡ true → (a ≡ true) × (b ≡ true)
both true b h = (refl, h)
both false b h = absurd (true≢false (sym h))

both_back : (a b : Bool) → a ≡ true → b ≡ true → (a && b) ≡ true
both_back true b p q = q
both_back false b p q = p

pub number_tells : Tells eqb
number_tells = record { equal = eqb-true; itself = λ n. eq-eqb n n refl }

integer_equal : (a b : ℤ) → same_number a b ≡ true → a ≡ b
integer_equal (pos m) (pos n) h = ap pos (eqb-true m n h)
integer_equal (pos m) (negsuc n) h = absurd (true≢false (sym h))
integer_equal (negsuc m) (pos n) h = absurd (true≢false (sym h))
integer_equal (negsuc m) (negsuc n) h = ap negsuc (eqb-true m n h)

integer_itself : (a : ℤ) → same_number a a ≡ true
integer_itself (pos n) = eq-eqb n n refl
integer_itself (negsuc n) = eq-eqb n n refl

pub point_tells : Tells same_vector
point_tells = record {
  equal = λ p q h.
      let h₁ = both (same_number p.x q.x && same_number p.y q.y) (same_number p.z q.z) h in
      let h₂ = both (same_number p.x q.x) (same_number p.y q.y) h₁.0 in
      let x = integer_equal p.x q.x h₂.0 in
      let y = integer_equal p.y q.y h₂.1 in
      let z = integer_equal p.z q.z h₁.1 in
      λ i. record { x = x i; y = y i; z = z i };
  itself = λ p. both_back _ _ (both_back _ _ (integer_itself p.x) (integer_itself p.y)) (integer_itself p.z);
}

pub corner_tells : Tells same_corner
corner_tells = record {
  equal = λ a b h.
      let s = both (eqb a.key b.key) (same_vector a.position b.position) h in
      let k = number_tells.equal a.key b.key s.0 in
      let p = point_tells.equal a.position b.position s.1 in
      λ i. record { key = k i; position = p i };
  itself = λ a. both_back _ _ (number_tells.itself a.key) (point_tells.itself a.position);
}

pub edge_tells : Tells same_edge
edge_tells = record {
  equal = λ e f h.
      let s = both (same_corner e.0 f.0) (same_corner e.1 f.1) h in
      let p = corner_tells.equal e.0 f.0 s.0 in
      let q = corner_tells.equal e.1 f.1 s.1 in
      λ i. (p i, q i);
  itself = λ e. both_back _ _ (corner_tells.itself e.0) (corner_tells.itself e.1);
}
