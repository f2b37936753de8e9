-- The cross products lie within ±2 · 10^10, and the four numbers are the dot products of them.
use Rattle.std.proofs.Common.{◌≡◌, ◌^◌, ◌<◌, Bool, ℤ, Decides, ap, ◌∙◌, subst, ap₂, to_z, of_z}
use lib.Signed.{mag}
use mir.Syntax.{w128}
use Rattle.std.proofs.lemmas.Int.{to_z-of_z}
use Rattle.algebra.specs.Vector.{vector, dot}
use Rattle.algebra.proofs.Bounds.{within_more}
use Rattle.algebra.specs.Segments.{Shared}
use Rattle.algebra.proofs.Sizes.{cross_large}
use Rattle.space.proofs.segment.crosses.Goals as goal

pub dot-requires : goal.dot-requires
dot-requires c =
    let n = cross_large c.cross-n.ensures c.requires.first c.requires.second in
    (n, n)

pub dot-requires-2 : goal.dot-requires-2
dot-requires-2 c = (within_more tt c.requires.apart, cross_large c.cross-n.ensures c.requires.first c.requires.second)

pub dot-requires-3 : goal.dot-requires-3
dot-requires-3 c = (cross_large c.cross-along_u.ensures c.requires.apart c.requires.second, cross_large c.cross-n.ensures c.requires.first c.requires.second)

pub dot-requires-4 : goal.dot-requires-4
dot-requires-4 c = (cross_large c.cross-along_v.ensures c.requires.apart c.requires.first, cross_large c.cross-n.ensures c.requires.first c.requires.second)

moved : {d d' h h' s s' t t' : ℤ} (r : Bool) → d ≡ d' → h ≡ h' → s ≡ s' → t ≡ t' → Decides r (Shared d h s t) → Decides r (Shared d' h' s' t')
moved {d} {d'} {h} {h'} {s} {s'} {t} {t'} r dp hp sp tp x =
    subst (λ k. Decides r (Shared d' h' s' k)) tp (subst (λ k. Decides r (Shared d' h' k t)) sp (subst (λ k. Decides r (Shared d' k s t)) hp (subst (λ k. Decides r (Shared k h s t)) dp x)))

-- a number that is passed is stored and read again
passed : (k : ℤ) → mag k < 2 ^ 127 → to_z w128 (of_z w128 k) ≡ k
passed k h = to_z-of_z w128 k (record { sfits = h })

pub returns : goal.returns
returns c =
    moved c.is_shared.result (passed c.dot.result c.dot.type_inv ∙ c.dot.ensures.is ∙ ap₂ dot c.cross-n.ensures c.cross-n.ensures)
    (passed c.dot-2.result c.dot-2.type_inv ∙ c.dot-2.ensures.is ∙ ap (dot (vector c.args.w)) c.cross-n.ensures)
    (passed c.dot-3.result c.dot-3.type_inv ∙ c.dot-3.ensures.is ∙ ap₂ dot c.cross-along_u.ensures c.cross-n.ensures)
    (passed c.dot-4.result c.dot-4.type_inv ∙ c.dot-4.ensures.is ∙ ap₂ dot c.cross-along_v.ensures c.cross-n.ensures)
    c.is_shared.ensures
