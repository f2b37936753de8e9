-- Each corner's height over the plane is 0 up to the turn, and at the end of all corners.
use Rattle.std.proofs.Common.{◌≡◌, ◌^◌, [], ◌∷◌, Decides, rules, ◌<◌, ℤ, pos, sym, refl, ap, ◌∙◌, subst, ap₂, arith, to_z, of_z, below_more}
use lib.Signed.{mag}
use mir.Syntax.{w128}
use Rattle.std.proofs.lemmas.Int.{to_z-of_z}
use Rattle.std.proofs.lemmas.Bool.{false≢true}
use Rattle.std.proofs.lemmas.Bool.Decides.{not_from_Decides}
use Rattle.algebra.specs.Vector.{vector, null, ◌-ᵛ◌, dot}
use Rattle.algebra.proofs.Arrays.{same_vector}
use Rattle.solid.specs.Corners.{ring_of}
use Rattle.solid.specs.Faces.{start, D}
use Rattle.ring.specs.Places.{corner}
use Rattle.ring.proofs.Places.{inside_at, least_at, corner_in, corner_from}
use Rattle.ring.proofs.Planes.{start_is}
use Rattle.ring.proofs.ring.Ring.is_planar.Goals as goal
use Rattle.ring.proofs.ring.Ring.is_planar.Goals.{After-dot-height, After-eq}

is_null : (c : After-eq) → Decides c.eq.result (vector c.args.self.now.normal ≡ null)
is_null c = same_vector c.args.self.now.normal (pos 0 ∷ pos 0 ∷ pos 0 ∷ []) c.eq.result (search rules) refl c.eq.ensures

pub difference-requires : goal.difference-requires
difference-requires c =
    let r = c.args.self.now.corners.now in
    (inside_at r c.args.self.now.tidy c.loop-corner.corner-index c.loop-corner-test.true, inside_at r c.args.self.now.tidy 0 (omega (arith, least_at r c.args.self.now.tidy)))

-- what `dot` returned
height_is : (c : After-dot-height) → c.dot-height.result ≡ dot ((corner c.args.self.now.corners.now c.loop-corner.corner-index).position -ᵛ start (ring_of c.args.self.now.corners.now)) (D (ring_of c.args.self.now.corners.now))
height_is c =
    c.dot-height.ensures.is
    ∙ ap₂ dot (c.difference.ensures.is ∙ ap (λ p. (corner c.args.self.now.corners.now c.loop-corner.corner-index).position -ᵛ p) (start_is c.args.self.now.corners.now)) c.args.self.now.is_normal

-- a test against 0 compares bits
no_bits : (k : ℤ) → mag k < 2 ^ 127 → of_z w128 k ≡ 0 → k ≡ pos 0
no_bits k h e = sym (to_z-of_z w128 k (record { sfits = h })) ∙ ap (to_z w128) e

pub loop-corner-preserved : goal.loop-corner-preserved
loop-corner-preserved c =
    let r = c.args.self.now.corners.now in
    below_more (λ i. dot ((corner r i).position -ᵛ start (ring_of r)) (D (ring_of r)) ≡ pos 0) c.loop-corner.corner-index c.loop-corner.invariant
    (sym (height_is (goal.at.loop-corner-preserved c).After-dot-height) ∙ no_bits c.dot-height.result c.dot-height.type_inv c.if-height-ne0.false)

pub returns-then-height-ne0 : goal.returns-then-height-ne0
returns-then-height-ne0 c =
    let r = c.args.self.now.corners.now in (
      λ t. absurd (false≢true t),
      λ planar. absurd (c.if-height-ne0.true (ap (of_z w128)
          (height_is (goal.at.returns-then-height-ne0 c).After-dot-height ∙ planar.1 (corner r c.loop-corner.corner-index) (corner_in r c.loop-corner.corner-index c.loop-corner-test.true)))),
    )

pub returns : goal.returns
returns c =
    let r = c.args.self.now.corners.now in (
      λ _. (
        λ z. not_from_Decides c.eq.result (is_null (goal.at.returns c).After-eq) c.if-eq.false (c.args.self.now.is_normal ∙ z),
        λ x h.
            let t = corner_from r x h in
            subst (λ y. dot (y.position -ᵛ start (ring_of r)) (D (ring_of r)) ≡ pos 0) (sym t.2) (c.loop-corner.invariant t.0 (omega (arith, t.1))),
      ),
      λ _. refl,
    )
