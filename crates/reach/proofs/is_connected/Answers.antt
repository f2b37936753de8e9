use Rattle.std.proofs.Common.{◌≡◌, ℕ, ◌<◌, ◌≤◌, List, [], ◌∷◌, ◌++◌, length, sym, refl, ap, ◌∙◌, subst, inl, inr, arith, eq-eqb, eqb-true, length-append}
use Rattle.index.specs.Closed.{faces_in}
use Rattle.index.specs.Meaning.{faces_of}
use Rattle.index.specs.declared.index.Index.{Index}
use Rattle.index.proofs.Meanings.{consistent}
use Rattle.marks.specs.Bits.{members, ones_of, Held}
use Rattle.marks.specs.declared.Marks.{Marks}
use Rattle.marks.proofs.Sets.{ones_full, ones_all, ones_length}
use Rattle.marks.proofs.Words.{members_long}
use Rattle.solid.specs.Faces.{Ring}
use Rattle.solid.specs.Lists.{In}
use Rattle.solid.specs.Soundness.{FromFirst}
use Rattle.solid.proofs.Members.{in_left, in_right}
use Rattle.solid.proofs.Reaching.{Reaching, reaching_none, reaching_more, reaching_all}
use Rattle.reach.specs.Sets.{Has, Waits, size_of}
use Rattle.reach.specs.declared.reached.Reached.{Reached}
use Rattle.reach.proofs.is_connected.Goals as goal

-- no faces: there is nothing to reach
none_to_reach : (fs : List Ring) → length fs ≡ 0 → FromFirst fs
none_to_reach [] e = tt
none_to_reach (r ∷ rs) e = absurd (omega arith)

count_is : (x y : Index) (n : ℕ) → n ≡ length (faces_of x) → x ≡ y → n ≡ length (faces_of y)
count_is x y n e same = e ∙ ap (λ (z : Index). length (faces_of z)) same

pub loop-face-init : goal.loop-face-init
loop-face-init c =
    let fs = faces_in c.args.closed.now in
    let total = count_is _ _ _ c.face_count-faces.ensures c.index.ensures in
    let some : 0 < length fs = omega (arith, total, c.if-faces-eq0.false) in
    let none = c.none-reached.ensures in
    let added = c.add.ensures in (
      reaching_none fs (consistent c.args.closed.now.index.now) (Has c.add.new.self) c.add.new.self.waiting.items some added.here
          (λ g h. elim (added.only g h) [ inl old ↦ absurd (none.empty g old) | inr new ↦ (new.1, new.0) ]),
      λ g w. elim (added.longer.met g w) [ inl old ↦ absurd (subst (In g) none.waiting old) | inr h ↦ h ],
    )

-- the face at hand is reached
pub expand-requires : goal.expand-requires
expand-requires c =
    let inv = c.loop-face.invariant in
    let taken = c.in-Some.ensures in
    let was : Waits c.loop-face.reached c.in-Some.face = subst (In c.in-Some.face) (sym taken.0) (in_right c.in-Some.face c.next.new.self.waiting.items (c.in-Some.face ∷ []) (inl refl)) in
    (inv.0.walk c.in-Some.face (inv.1 c.in-Some.face was)).0

few_bits : (r : Reached) → size_of r ≤ 512
few_bits r = omega (arith, ones_length (members r.marks.words), members_long 8 r.marks)

pub loop-face-smaller : goal.loop-face-smaller
loop-face-smaller c =
    let taken = c.in-Some.ensures in
    let one_less = ap length taken.0 ∙ length-append c.next.new.self.waiting.items (c.in-Some.face ∷ []) in
    let same = ap (λ (m : Marks 8). ones_of (members m.words)) taken.1 in
    let more = c.expand.ensures.longer in
    omega (arith, one_less, same, more.grows, more.evenly, few_bits c.expand.new.reached)

pub loop-face-preserved : goal.loop-face-preserved
loop-face-preserved c =
    let fs = faces_in c.args.closed.now in
    let face = c.in-Some.face in
    let before = c.loop-face.reached in
    let taken = c.in-Some.ensures in
    let inv = c.loop-face.invariant in
    let e = c.expand.ensures in
    let waiting = c.next.new.self.waiting.items in
    let old : (g : ℕ) → Has c.next.new.self g → Has before g = λ g h. subst (λ (m : Marks 8). Held (members m.words) g) taken.1 h in
    let new : (g : ℕ) → Has before g → Has c.next.new.self g = λ g h. subst (λ (m : Marks 8). Held (members m.words) g) (sym taken.1) h in
    let was : (g : ℕ) → In g (waiting ++ face ∷ []) → Has before g = λ g w. inv.1 g (subst (In g) (sym taken.0) w) in (
      reaching_more fs (consistent c.args.closed.now.index.now) (Has before) (Has c.expand.new.reached) waiting c.expand.new.reached.waiting.items face
          (subst (Reaching fs (consistent c.args.closed.now.index.now) (Has before)) taken.0 inv.0)
          (was face (in_right face waiting (face ∷ []) (inl refl)))
          (λ g h. e.longer.keeps g (new g h))
          e.longer.stays
          e.all
          (λ g h. elim (e.only g h) [ inl a ↦ inl (old g a) | inr b ↦ inr b ]),
      λ g w. elim (e.longer.met g w) [ inl a ↦ e.longer.keeps g (new g (was g (in_left g waiting (face ∷ []) a))) | inr h ↦ h ],
    )

pub returns : goal.returns
returns c =
    let fs = faces_in c.args.closed.now in
    let r = c.loop-face.reached in
    let xs = members r.marks.words in
    let total = count_is _ _ _ c.face_count-faces.ensures c.index.ensures in
    let some : 0 < length fs = omega (arith, total, c.if-faces-eq0.false) in
    let end = c.in_default.ensures in
    let size = c.count.ensures ∙ ap size_of end.1 in
    let whole = reaching_all fs (consistent c.args.closed.now.index.now) (Has r) some (subst (Reaching fs (consistent c.args.closed.now.index.now) (Has r)) end.0 c.loop-face.invariant.0) in
    let below : (g : ℕ) → Has r g → g < length fs = λ g h. (c.loop-face.invariant.0.walk g h).0 in (
      λ t. whole.1 (ones_full xs (length fs) below (sym size ∙ eqb-true _ _ t ∙ total)),
      λ from. eq-eqb _ _ (size ∙ ones_all xs (length fs) below (whole.0 from) ∙ sym total),
    )
