-- Parallel segments share a point where an end of one lies on the other, and others where they cross.
use Rattle.std.proofs.Common.{◌≡◌, [], ◌∷◌, Bool, pos, Decides, rules, sym, refl, ◌∙◌, subst, ap₂}
use Rattle.std.proofs.lemmas.Bool.Decides.{not_from_Decides, Decides-like}
use Rattle.algebra.specs.Vector.{V3, vector, null, cross}
use Rattle.algebra.specs.Segments.{Crossing}
use Rattle.algebra.proofs.Arrays.{same_vector}
use Rattle.algebra.proofs.Crossings.{crossing, crossing_meets}
use Rattle.algebra.proofs.Parallels.{meets_end, end_meets}
use Rattle.space.proofs.segment.Segment.meets.Goals as goal
use Rattle.space.proofs.segment.Segment.meets.Goals.{After-eq}

are_parallel : (c : After-eq) → Decides c.eq.result (vector c.cross.result ≡ null)
are_parallel c = same_vector c.cross.result (pos 0 ∷ pos 0 ∷ pos 0 ∷ []) c.eq.result (search rules) refl c.eq.ensures

pub returns-then-eq : goal.returns-then-eq
returns-then-eq c =
    let parallel = sym (ap₂ cross c.difference-u.ensures.is c.difference-v.ensures.is) ∙ sym c.cross.ensures ∙ (are_parallel (goal.at.returns-then-eq c).After-eq).0 c.if-eq.true in
    Decides-like c.touches.result
    (end_meets (vector c.args.self.from) (vector c.args.self.to) (vector c.args.other.from) (vector c.args.other.to))
    (meets_end (vector c.args.self.from) (vector c.args.self.to) (vector c.args.other.from) (vector c.args.other.to) parallel)
    c.touches.ensures

moved : {u u' v v' w w' : V3} (r : Bool) → u ≡ u' → v ≡ v' → w ≡ w' → Decides r (Crossing u v w) → Decides r (Crossing u' v' w')
moved {u} {u'} {v} {v'} {w} {w'} r p q s h =
    subst (λ x. Decides r (Crossing u' v' x)) s (subst (λ x. Decides r (Crossing u' x w)) q (subst (λ x. Decides r (Crossing x v w)) p h))

pub returns-else-eq : goal.returns-else-eq
returns-else-eq c =
    Decides-like c.crosses.result
    (crossing_meets (vector c.args.self.from) (vector c.args.self.to) (vector c.args.other.from) (vector c.args.other.to)
    (λ line. not_from_Decides c.eq.result (are_parallel (goal.at.returns-else-eq c).After-eq) c.if-eq.false (c.cross.ensures ∙ ap₂ cross c.difference-u.ensures.is c.difference-v.ensures.is ∙ line)))
    (crossing (vector c.args.self.from) (vector c.args.self.to) (vector c.args.other.from) (vector c.args.other.to))
    (moved c.crosses.result c.difference-u.ensures.is c.difference-v.ensures.is c.difference.ensures.is c.crosses.ensures)
