-- Nothing overflows, and the counts are those of the faces with this one.
use Rattle.std.proofs.Common.{◌≡◌, ◌+◌, ◌*◌, ◌^◌, ◌≤◌, [], ◌∷◌, ◌++◌, length, ◌+ℤ◌, nat_abs, sym, ap, ◌∙◌, subst, ap₂, arith, w64, to_z, of_z}
use Rattle.std.specs.Int.{w128}
use Rattle.std.proofs.lemmas.List.{length-map}
use Rattle.algebra.specs.Vector.{Near, Large, vector, ◌+ᵛ◌, dot}
use Rattle.algebra.proofs.Machine.{Bounded, ◌∷ᵇ◌, done, fits, stored, read_back, abs_fits}
use Rattle.algebra.proofs.Ring.{var, ◌⊕◌}
use Rattle.solid.specs.Corners.{corner_of, ring_of}
use Rattle.solid.specs.Faces.{Edge, flip, edges, all_edges, same_edge, is_open, open_edges_of, start, D}
use Rattle.solid.specs.Lists.{has}
use Rattle.solid.specs.Rules.{Tidy, Enterable}
use Rattle.solid.proofs.Answered.{enter_taken}
use Rattle.solid.proofs.Growth.{height_near, kept_near, edge_sum_large}
use Rattle.solid.proofs.Members.{edges_length}
use Rattle.solid.proofs.Opens.{kept_short}
use Rattle.ring.proofs.Places.{inside_at}
use Rattle.ring.proofs.Planes.{start_is}
use Rattle.hull.specs.Meaning.{faces_of}
use Rattle.hull.proofs.Counting.{opens_more, counted_more}
use Rattle.hull.proofs.Laws.{consistent}
use Rattle.hull.proofs.Props.{counted_out}
use Rattle.hull.proofs.hull.Hull.put.Goals as goal
use Rattle.hull.proofs.hull.Hull.put.Goals.{Start, After-reverses-reverses, After-dot-height, After-put}

may : (c : Start) → Enterable (faces_of c.args.self.now) (ring_of c.args.ring.now.corners.now)
may c = enter_taken (faces_of c.args.self.now) (ring_of c.args.ring.now.corners.now) c.requires

tidy : (c : Start) → Tidy (ring_of c.args.ring.now.corners.now)
tidy c = (may c).proper.tidy

pub wide-requires : goal.wide-requires
wide-requires c =
    let t = tidy (goal.at.wide-requires c).Start in
    inside_at c.args.ring.now.corners.now t 0 (omega (arith, t.sized.0, length-map c.args.ring.now.corners.now corner_of))

-- ---- the open edges
few_opens : (c : Start) → c.args.self.now.open_edges ≤ 3072
few_opens c =
    let k = counted_out c.args.self.now.counted in
    omega (arith, k.open_count, kept_short (is_open (all_edges (faces_of c.args.self.now))) (all_edges (faces_of c.args.self.now)), (consistent c.args.self.now).limits.edges)

few_reverses : (c : After-reverses-reverses) → c.reverses-reverses.result ≤ length c.args.ring.now.corners.now
few_reverses c =
    omega (arith, c.reverses-reverses.ensures, kept_short (λ (e : Edge). has same_edge (flip e) (all_edges (faces_of c.args.self.now))) (edges (ring_of c.args.ring.now.corners.now)), edges_length (ring_of c.args.ring.now.corners.now), length-map c.args.ring.now.corners.now corner_of)

pub overflow_add-self : goal.overflow_add-self
overflow_add-self c = omega (arith, few_opens (goal.at.overflow_add-self c).Start, (tidy (goal.at.overflow_add-self c).Start).sized.1, length-map c.args.ring.now.corners.now corner_of)

pub overflow_mul-self : goal.overflow_mul-self
overflow_mul-self c = omega (arith, few_reverses (goal.at.overflow_mul-self c).After-reverses-reverses, (tidy (goal.at.overflow_mul-self c).Start).sized.1, length-map c.args.ring.now.corners.now corner_of)

-- what the face adds to the volume, and the volume then
height_is : (c : After-dot-height) → c.dot-height.result ≡ dot (start (ring_of c.args.ring.now.corners.now)) (D (ring_of c.args.ring.now.corners.now))
height_is c = c.dot-height.ensures.is ∙ ap₂ dot (c.wide.ensures.is ∙ start_is c.args.ring.now.corners.now) c.args.ring.now.is_normal

bounded : (c : After-dot-height) → Tidy (ring_of c.args.ring.now.corners.now) → Bounded (c.args.self.now.volume ∷ c.dot-height.result ∷ []) (3072 * (75 * 10 ^ 13) ∷ 64 * (75 * 10 ^ 13) ∷ [])
bounded c t =
    let k = counted_out c.args.self.now.counted in
    let h = height_near (ring_of c.args.ring.now.corners.now) t in
    subst (Near (3072 * (75 * 10 ^ 13))) (sym k.kept_volume) (kept_near (faces_of c.args.self.now) (consistent c.args.self.now))
    ∷ᵇ record { abs = omega (arith, ap nat_abs (height_is c), h.abs, t.sized.1) }
    ∷ᵇ done

-- the height fits, so it is read as it was answered
height_within : (c : After-dot-height) → Tidy (ring_of c.args.ring.now.corners.now) → Near (64 * (75 * 10 ^ 13)) c.dot-height.result
height_within c t = subst (Near (64 * (75 * 10 ^ 13))) (sym (height_is c)) (record { abs = omega (arith, (height_near (ring_of c.args.ring.now.corners.now) t).abs, t.sized.1) })

height_read : (c : After-dot-height) → Tidy (ring_of c.args.ring.now.corners.now) → to_z w128 (of_z w128 c.dot-height.result) ≡ c.dot-height.result
height_read c t = read_back w128 tt (height_within c t)

pub overflow_cast-self : goal.overflow_cast-self
overflow_cast-self c =
    let d = (goal.at.overflow_cast-self c).After-dot-height in
    let t = tidy (goal.at.overflow_cast-self c).Start in
    rw (height_read d t) (abs_fits w64 c.dot-height.result (64 * (75 * 10 ^ 13)) (height_within d t).abs tt)

pub overflow_add-self-2 : goal.overflow_add-self-2
overflow_add-self-2 c =
    let d = (goal.at.overflow_add-self-2 c).After-dot-height in
    let t = tidy (goal.at.overflow_add-self-2 c).Start in
    rw (height_read d t) (fits w64 (bounded d t) (var 0 ⊕ var 1) tt)

pub plus-sum-requires : goal.plus-sum-requires
plus-sum-requires c =
    let k = counted_out c.args.self.now.counted in
    (subst Large (sym k.edge_sum) (edge_sum_large (faces_of c.args.self.now) (consistent c.args.self.now)), c.args.ring.now.large)

law : (c : After-put) (t : Enterable (faces_of c.args.self.now) (ring_of c.args.ring.now.corners.now)) → length (open_edges_of (faces_of c.args.self.now ++ ring_of c.args.ring.now.corners.now ∷ [])) + 2 * c.reverses-reverses.result ≡ length (open_edges_of (faces_of c.args.self.now)) + length c.args.ring.now.corners.now
law c t = opens_more (faces_of c.args.self.now) c.args.ring.now.corners.now (consistent c.args.self.now) t c.reverses-reverses.result c.reverses-reverses.ensures

pub overflow_sub-self : goal.overflow_sub-self
overflow_sub-self c = omega (arith, law c (may (goal.at.overflow_sub-self c).Start), (counted_out c.args.self.now.counted).open_count)

pub invariant_of-self : goal.invariant_of-self
invariant_of-self c =
    let h = c.args.self.now in
    let begun = (goal.at.invariant_of-self c).Start in
    let k = counted_out h.counted in record {
      counted = ∣ counted_more (faces_of h) c.args.ring.now.corners.now (consistent h) (may begun) c.reverses-reverses.result c.reverses-reverses.ensures _ h.open_edges _ h.volume _ h.edge_sum _ c.put.ensures k
          (omega (arith, law (goal.at.invariant_of-self c).After-put (may begun), k.open_count))
          (rw (height_read (goal.at.invariant_of-self c).After-dot-height (tidy begun)) (stored w64 (bounded (goal.at.invariant_of-self c).After-dot-height (tidy begun)) (var 0 ⊕ var 1) tt) ∙ ap (λ m. h.volume +ℤ m) (height_is (goal.at.invariant_of-self c).After-dot-height))
          (c.plus-sum.ensures ∙ ap (λ v. vector h.edge_sum +ᵛ v) c.args.ring.now.is_normal) ∣₁;
    }
