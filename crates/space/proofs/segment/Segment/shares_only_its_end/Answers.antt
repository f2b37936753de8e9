-- The segments bend where they join, or lie on one line, where the sign of the dot product says whether they go on straight.
use Rattle.std.proofs.Common.{◌≡◌, ◌^◌, ◌<◌, [], ◌∷◌, not, ℤ, pos, neg_ℤ, ◌≤ℤ◌, ◌<ℤ◌, Decides, rules, sym, refl, ap, ◌∙◌, subst, ap₂, arith, SFits, to_z, of_z}
use lib.Signed.{mag, lt_z}
use mir.Syntax.{w128}
use borrow.Author.Differences.{ints}
use Rattle.std.proofs.lemmas.Int.{by_lt_z}
use Rattle.std.proofs.lemmas.Bool.Decides.{not_from_Decides}
use Rattle.algebra.specs.Vector.{V3, vector, null, ◌-ᵛ◌, negᵛ, cross, dot}
use Rattle.algebra.specs.Segments.{OnlyCorner}
use Rattle.algebra.proofs.Ring.{⊝}
use Rattle.algebra.proofs.Vectors.{𝐚, 𝐛, 𝐜, ◌-ᴱ◌, negᴱ, dotᴱ, crossᴱ, by_ring, by_ringᵛ}
use Rattle.algebra.proofs.Arrays.{same_vector}
use Rattle.algebra.proofs.Corners.{only_bent, only_opposite, not_only}
use Rattle.space.proofs.segment.Segment.shares_only_its_end.Goals as goal
use Rattle.space.proofs.segment.Segment.shares_only_its_end.Goals.{After-ne}

-- ---- the tests of a corner, by the directions of the segments from a to b and from b to e
module _ (a b e : V3) where
  cross_back : cross (a -ᵛ b) (e -ᵛ b) ≡ negᵛ (cross (b -ᵛ a) (e -ᵛ b))
  cross_back = by_ringᵛ (a ∷ b ∷ e ∷ []) (crossᴱ (𝐚 -ᴱ 𝐛) (𝐜 -ᴱ 𝐛)) (negᴱ (crossᴱ (𝐛 -ᴱ 𝐚) (𝐜 -ᴱ 𝐛))) tt

  cross_on : cross (b -ᵛ a) (e -ᵛ b) ≡ negᵛ (cross (a -ᵛ b) (e -ᵛ b))
  cross_on = by_ringᵛ (a ∷ b ∷ e ∷ []) (crossᴱ (𝐛 -ᴱ 𝐚) (𝐜 -ᴱ 𝐛)) (negᴱ (crossᴱ (𝐚 -ᴱ 𝐛) (𝐜 -ᴱ 𝐛))) tt

  dot_back : dot (a -ᵛ b) (e -ᵛ b) ≡ neg_ℤ (dot (b -ᵛ a) (e -ᵛ b))
  dot_back = by_ring (a ∷ b ∷ e ∷ []) (dotᴱ (𝐚 -ᴱ 𝐛) (𝐜 -ᴱ 𝐛)) (⊝ (dotᴱ (𝐛 -ᴱ 𝐚) (𝐜 -ᴱ 𝐛))) tt

  bent_only : (cross (b -ᵛ a) (e -ᵛ b) ≡ null → ⊥) → OnlyCorner a b e
  bent_only n = only_bent a b e (λ z. n (cross_on ∙ ap negᵛ z))

  straight_only : pos 0 <ℤ dot (b -ᵛ a) (e -ᵛ b) → OnlyCorner a b e
  straight_only l = only_opposite a b e (let d = dot_back in omega (arith, ints))

  turned_not : cross (b -ᵛ a) (e -ᵛ b) ≡ null → dot (b -ᵛ a) (e -ᵛ b) ≤ℤ pos 0 → OnlyCorner a b e → ⊥
  turned_not z l = not_only a b e (cross_back ∙ ap negᵛ z) (let d = dot_back in omega (arith, ints))

-- the directions that the code computes
bent : (c : After-ne) → Decides (not c.ne.result) (vector c.cross.result ≡ null)
bent c = same_vector c.cross.result (pos 0 ∷ pos 0 ∷ pos 0 ∷ []) (not c.ne.result) (search rules) refl (search rules)

onward : (c : After-ne) → vector c.difference-v.result ≡ vector c.args.next.to -ᵛ vector c.args.self.to
onward c = c.difference-v.ensures.is ∙ ap (λ s. vector c.args.next.to -ᵛ s) c.requires

pub returns-then-ne : goal.returns-then-ne
returns-then-ne c =
    let d = (goal.at.returns-then-ne c).After-ne in (
      λ _. bent_only (vector c.args.self.from) (vector c.args.self.to) (vector c.args.next.to)
          (λ line. not_from_Decides (not c.ne.result) (bent d) (ap not c.if-ne.true) (c.cross.ensures ∙ ap₂ cross c.difference-u.ensures.is (onward d) ∙ line)),
      λ _. c.if-ne.true,
    )

-- the test that the code makes
above : (k : ℤ) → mag k < 2 ^ 127 → Decides (lt_z (pos 0) (to_z w128 (of_z w128 k))) (pos 0 <ℤ k)
above k h = let f : SFits w128 k = record { sfits = h } in search (rules, ints)

pub returns-else-ne : goal.returns-else-ne
returns-else-ne c =
    let d = (goal.at.returns-else-ne c).After-ne in
    let line = sym (ap₂ cross c.difference-u.ensures.is (onward d)) ∙ sym c.cross.ensures ∙ (bent d).0 (ap not c.if-ne.false) in
    let value = c.dot.ensures.is ∙ ap₂ dot c.difference-u.ensures.is (onward d) in
    let test = above c.dot.result c.dot.type_inv in (
      λ e. straight_only (vector c.args.self.from) (vector c.args.self.to) (vector c.args.next.to) (subst (λ k. pos 0 <ℤ k) value (test.0 e)),
      λ only. by_lt_z (pos 0) c.dot.result test.1 (λ l. absurd (turned_not (vector c.args.self.from) (vector c.args.self.to) (vector c.args.next.to) line (subst (λ k. k ≤ℤ pos 0) value l) only)),
    )
