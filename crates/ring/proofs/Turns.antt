-- Loops over the edges of a ring: a turn has the edge whose place is the number of turns before it.
-- ys is what a loop has yielded, from the iterator s to t, and o what `next` answered there.
use Rattle.std.proofs.Common.{◌≡◌, ℕ, ◌<◌, ◌≤◌, List, length, take, Option, Some, None, sym, ap, ◌∙◌, zero-add, arith}
use Rattle.std.proofs.lemmas.Iterator.{YieldsList, YieldsList-from_take}
use Rattle.std.proofs.lemmas.Iterator.Consumers.{YieldsList-from_first, YieldsList-from_enumerate, YieldsList-turn, YieldsList-end}
use Rattle.std.proofs.lemmas.List.{get_or-take, length-take-le}
use Rattle.std.proofs.lemmas.List.FromFn.{length-enumerate_from, get_or-enumerate_from}
use Rattle.std.specs.declared.iter.Enumerate.{Enumerate}
use Rattle.std.specs.declared.iter.Take.{Take}
use Rattle.std.specs.Iterator.{Yields, YieldsFirstBy}
use Rattle.std.specs.Iterator.Adapters.{enumerate_source, enumerate_count, enumerate_steps, take_source, take_count, take_steps}
use Rattle.std.specs.List.{enumerate_from}
use Rattle.solid.specs.declared.Corner.{Corner as StoredCorner}
use Rattle.solid.specs.Corners.{ring_of}
use Rattle.solid.specs.Faces.{Edge, edges}
use Rattle.ring.specs.Places.{edge, edge_of}
use Rattle.ring.proofs.Places.{edges_length, edges_at}

-- what the iterator's `next` does
abbrev pub Steps : List Edge → Option (StoredCorner × StoredCorner) → List Edge → Type 0
Steps = YieldsFirstBy edge_of (λ es. es)

pub road : (r : List StoredCorner) {s : List Edge} → s ≡ edges (ring_of r) → YieldsList Steps edge_of s (edges (ring_of r))
road r e = YieldsList-from_first edge_of (λ es. es) (edges (ring_of r)) e

-- `for e in edges(r)`
module _ (r : List StoredCorner) {s : List Edge} (from : s ≡ edges (ring_of r)) (ys : List (StoredCorner × StoredCorner)) (t : List Edge) (y : Yields Steps s ys t) where
  pub edge_turn : (o : Option (StoredCorner × StoredCorner)) (u : List Edge) (x : StoredCorner × StoredCorner) → o ≡ Some x → Steps t o u → (length ys < length r) × (edge_of x ≡ edge r (length ys))
  edge_turn o u x p h =
      let k = YieldsList-turn (road r from) ys t y o u x p h in
      let l : length ys < length r = omega (arith, k.0, edges_length r) in
      (l, k.1 ∙ edges_at r (edge_of x) (length ys) l)

  pub edge_end : (o : Option (StoredCorner × StoredCorner)) (u : List Edge) → o ≡ None → Steps t o u → length ys ≡ length r
  edge_end o u p h = (YieldsList-end (road r from) ys t y o u p h).1 ∙ edges_length r

-- `for (i, e) in edges(r).enumerate()`
numbered : (r : List StoredCorner) {s : Enumerate (List Edge)} → enumerate_source s ≡ edges (ring_of r) → enumerate_count s ≡ 0 → YieldsList {B = ℕ × Edge} (enumerate_steps Steps) (λ p. (p.0, edge_of p.1)) s (enumerate_from 0 (edges (ring_of r)))
numbered r e z = YieldsList-from_enumerate (road r e) z

module _ (r : List StoredCorner) {s : Enumerate (List Edge)} (from : enumerate_source s ≡ edges (ring_of r)) (zero : enumerate_count s ≡ 0) (ys : List (ℕ × (StoredCorner × StoredCorner))) (t : Enumerate (List Edge)) (y : Yields (enumerate_steps Steps) s ys t) where
  pub numbered_turn : (o : Option (ℕ × (StoredCorner × StoredCorner))) (u : Enumerate (List Edge)) (i : ℕ) (x : StoredCorner × StoredCorner) → o ≡ Some (i, x) → enumerate_steps Steps t o u → (i ≡ length ys) × (i < length r) × (edge_of x ≡ edge r i)
  numbered_turn o u i x p h =
      let k = YieldsList-turn (numbered r from zero) ys t y o u (i, x) p h in
      let l : length ys < length (edges (ring_of r)) = omega (arith, k.0, length-enumerate_from 0 (edges (ring_of r))) in
      let both = k.1 ∙ get_or-enumerate_from 0 (edges (ring_of r)) (length ys) (i, edge_of x) l in
      let same : i ≡ length ys = ap (λ (q : ℕ × Edge). q.0) both ∙ zero-add (length ys) in
      let m : length ys < length r = omega (arith, l, edges_length r) in
      (same, omega (arith, same, m), ap (λ (q : ℕ × Edge). q.1) both ∙ edges_at r (edge_of x) (length ys) m ∙ ap (edge r) (sym same))

  pub numbered_end : (o : Option (ℕ × (StoredCorner × StoredCorner))) (u : Enumerate (List Edge)) → o ≡ None → enumerate_steps Steps t o u → length ys ≡ length r
  numbered_end o u p h = (YieldsList-end (numbered r from zero) ys t y o u p h).1 ∙ length-enumerate_from 0 (edges (ring_of r)) ∙ edges_length r

-- `for e in edges(r).take(n)`
module _ (r : List StoredCorner) (n : ℕ) (few : n ≤ length r) {s : Take (List Edge)} (from : take_source s ≡ edges (ring_of r)) (count : take_count s ≡ n) (ys : List (StoredCorner × StoredCorner)) (t : Take (List Edge)) (y : Yields (take_steps Steps) s ys t) where
  first_few : YieldsList (take_steps Steps) edge_of s (take n (edges (ring_of r)))
  first_few = YieldsList-from_take n (road r from) count

  long : length (take n (edges (ring_of r))) ≡ n
  long = length-take-le n (edges (ring_of r)) (omega (arith, few, edges_length r))

  pub few_turn : (o : Option (StoredCorner × StoredCorner)) (u : Take (List Edge)) (x : StoredCorner × StoredCorner) → o ≡ Some x → take_steps Steps t o u → (length ys < n) × (edge_of x ≡ edge r (length ys))
  few_turn o u x p h =
      let k = YieldsList-turn first_few ys t y o u x p h in
      let l : length ys < n = omega (arith, k.0, long) in
      let m : length ys < length r = omega (arith, l, few) in
      (l, k.1 ∙ get_or-take n (edges (ring_of r)) (length ys) (edge_of x) l ∙ edges_at r (edge_of x) (length ys) m)

  pub few_end : (o : Option (StoredCorner × StoredCorner)) (u : Take (List Edge)) → o ≡ None → take_steps Steps t o u → length ys ≡ n
  few_end o u p h = (YieldsList-end first_few ys t y o u p h).1 ∙ long
