-- Each return is one outcome of the tests in order, by what the tests before it found.
use Rattle.std.proofs.Common.{◌≡◌, ◌+◌, Bool, List, [], ◌∷◌, ◌++◌, length, Decides, subst, inl, inr, arith}
use Rattle.std.proofs.lemmas.List.{length-map}
use Rattle.std.proofs.lemmas.Bool.Decides.{not_from_Decides}
use Rattle.solid.specs.Corners.{corner_of, ring_of}
use Rattle.solid.specs.Faces.{Ring}
use Rattle.solid.specs.Rules.{Sized, Tidy, Planar, Simple, Limits}
use Rattle.solid.specs.declared.Corner.{Corner as StoredCorner}
use Rattle.solid.proofs.Answered.{allowed_tidy}
use Rattle.index.specs.Meaning.{faces_of}
use Rattle.tracking.proofs.Keys.{face_total}
use Rattle.tracking.proofs.Props.{kept_out}
use Rattle.tracking.proofs.Says.{sized, says_count, says_misfit, says_not_planar, says_crossing, says_twice, says_full, says_taken}
use Rattle.index.proofs.index.Index.test.Goals as goal
use Rattle.index.proofs.index.Index.test.Goals.{After-len-face, Else-corners-gt-MOST_CORNERS, In_default}

-- what a test says of the ring, said of the corners that it was made of
of_corners : {r cs : List StoredCorner} {t : Bool} → r ≡ cs → (P : Ring → Type 0) → Decides t (P (ring_of r)) → Decides t (P (ring_of cs))
of_corners {t = t} same P h = subst (λ (xs : List StoredCorner). Decides t (P (ring_of xs))) same h

face_is : (c : After-len-face) → c.len-face.result + 1 ≡ length (faces_of c.args.self.now) + 1
face_is c = omega (arith, c.len-face.ensures, face_total c.args.self.now.faces)

is_sized : (c : Else-corners-gt-MOST_CORNERS) → Sized (ring_of c.args.corners.now)
is_sized c = sized c.args.corners.now c.if-corners-lt-LEAST_CORNERS.false c.if-corners-gt-MOST_CORNERS.false

is_tidy : (c : In_default) → Tidy (ring_of c.args.corners.now)
is_tidy c = allowed_tidy (faces_of c.args.self.now) (ring_of c.args.corners.now) (sized c.args.corners.now c.if-corners-lt-LEAST_CORNERS.false c.if-corners-gt-MOST_CORNERS.false) c.in_default.ensures

pub overflow_add-face : goal.overflow_add-face
overflow_add-face c = omega (arith, c.len-face.ensures, face_total c.args.self.now.faces, (kept_out c.args.self.now.kept).consistent.limits.faces)

pub returns-then-corners-lt-LEAST_CORNERS : goal.returns-then-corners-lt-LEAST_CORNERS
returns-then-corners-lt-LEAST_CORNERS c =
    says_count (faces_of c.args.self.now) (ring_of c.args.corners.now) (c.len-face.result + 1) (face_is (goal.at.returns-then-corners-lt-LEAST_CORNERS c).After-len-face)
    (λ size. elim c.then-corners-lt-LEAST_CORNERS.either [
      | inl few ↦ omega (arith, size.0, length-map c.args.corners.now corner_of)
      | inr many ↦ omega (arith, many.1, size.1, length-map c.args.corners.now corner_of)
    ])

pub returns-in-Some : goal.returns-in-Some
returns-in-Some c =
    says_misfit (faces_of c.args.self.now) (ring_of c.args.corners.now) (c.len-face.result + 1) (face_is (goal.at.returns-in-Some c).After-len-face)
    (is_sized (goal.at.returns-in-Some c).Else-corners-gt-MOST_CORNERS) c.in-Some.key c.in-Some.ensures

pub new-ring-requires : goal.new-ring-requires
new-ring-requires c = is_tidy c

pub returns-then-not-is_planar : goal.returns-then-not-is_planar
returns-then-not-is_planar c =
    says_not_planar (faces_of c.args.self.now) (ring_of c.args.corners.now) (c.len-face.result + 1) (face_is (goal.at.returns-then-not-is_planar c).After-len-face)
    (is_sized (goal.at.returns-then-not-is_planar c).Else-corners-gt-MOST_CORNERS) c.in_default.ensures
    (not_from_Decides c.is_planar.result (of_corners c.new-ring.ensures (λ r. Planar r) c.is_planar.ensures) c.if-not-is_planar.true)

pub returns-then-not-is_simple : goal.returns-then-not-is_simple
returns-then-not-is_simple c =
    says_crossing (faces_of c.args.self.now) (ring_of c.args.corners.now) (c.len-face.result + 1) (face_is (goal.at.returns-then-not-is_simple c).After-len-face)
    (is_sized (goal.at.returns-then-not-is_simple c).Else-corners-gt-MOST_CORNERS) c.in_default.ensures ((of_corners c.new-ring.ensures (λ r. Planar r) c.is_planar.ensures).0 c.if-not-is_planar.false)
    (not_from_Decides c.is_simple.result (of_corners c.new-ring.ensures (λ r. Simple r) c.is_simple.ensures) c.if-not-is_simple.true)

pub returns-in-Some-repeated : goal.returns-in-Some-repeated
returns-in-Some-repeated c =
    says_twice (faces_of c.args.self.now) (ring_of c.args.corners.now) (c.len-face.result + 1) (face_is (goal.at.returns-in-Some-repeated c).After-len-face)
    (is_sized (goal.at.returns-in-Some-repeated c).Else-corners-gt-MOST_CORNERS) c.in_default.ensures ((of_corners c.new-ring.ensures (λ r. Planar r) c.is_planar.ensures).0 c.if-not-is_planar.false) ((of_corners c.new-ring.ensures (λ r. Simple r) c.is_simple.ensures).0 c.if-not-is_simple.false)
    c.in-Some-repeated.from c.in-Some-repeated.to c.in-Some-repeated.ensures

pub returns-then-not-has_room : goal.returns-then-not-has_room
returns-then-not-has_room c =
    says_full (faces_of c.args.self.now) (ring_of c.args.corners.now) (c.len-face.result + 1) (face_is (goal.at.returns-then-not-has_room c).After-len-face)
    (is_sized (goal.at.returns-then-not-has_room c).Else-corners-gt-MOST_CORNERS) c.in_default.ensures ((of_corners c.new-ring.ensures (λ r. Planar r) c.is_planar.ensures).0 c.if-not-is_planar.false) ((of_corners c.new-ring.ensures (λ r. Simple r) c.is_simple.ensures).0 c.if-not-is_simple.false)
    c.in_default-repeated.ensures (not_from_Decides c.has_room.result (of_corners c.new-ring.ensures (λ r. Limits (faces_of c.args.self.now ++ r ∷ [])) c.has_room.ensures) c.if-not-has_room.true)

pub returns : goal.returns
returns c = (
  says_taken (faces_of c.args.self.now) (ring_of c.args.corners.now) (c.len-face.result + 1) (face_is (goal.at.returns c).After-len-face)
      (is_sized (goal.at.returns c).Else-corners-gt-MOST_CORNERS) c.in_default.ensures ((of_corners c.new-ring.ensures (λ r. Planar r) c.is_planar.ensures).0 c.if-not-is_planar.false) ((of_corners c.new-ring.ensures (λ r. Simple r) c.is_simple.ensures).0 c.if-not-is_simple.false)
      c.in_default-repeated.ensures ((of_corners c.new-ring.ensures (λ r. Limits (faces_of c.args.self.now ++ r ∷ [])) c.has_room.ensures).0 c.if-not-has_room.false),
  c.new-ring.ensures,
)
