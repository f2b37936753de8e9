use Rattle.std.proofs.Common.{◌≡◌, ℕ, ◌+◌, ◌<◌, Bool, List, [], ◌∷◌, length, sym, refl, ap, ◌∙◌, subst, inl, inr, arith, lit<}
use Rattle.marks.specs.Bits.{members, ones_of, Held}
use Rattle.marks.proofs.Sets.{held_set, set_held, set_here, ones_length, ones_set}
use Rattle.marks.proofs.Words.{members_long}
use Rattle.solid.specs.Lists.{In}
use Rattle.solid.proofs.Members.{in_append, in_left, in_right}
use Rattle.reach.specs.declared.reached.Reached.{Reached}
use Rattle.reach.proofs.reached.Reached.add.Goals as goal
use Rattle.reach.proofs.reached.Reached.add.Goals.{After-mark}

bits_long : (r : Reached) → length (members r.marks.words) ≡ 512
bits_long r = members_long 8 r.marks

within : (r : Reached) (face : ℕ) → face < 512 → face < length (members r.marks.words)
within r face l = omega (arith, l, bits_long r)

one_more : (c : After-mark) → ones_of (members c.mark.new.self.words) ≡ ones_of (members c.args.self.now.marks.words) + 1
one_more c = ap ones_of c.mark.ensures ∙ ones_set (members c.args.self.now.marks.words) c.args.face (within c.args.self.now c.args.face c.requires) (sym c.has.ensures ∙ c.if-not-has.true)

pub push-requires : goal.push-requires
push-requires c =
    let most = ones_length (members c.mark.new.self.words) in
    let long = members_long 8 c.mark.new.self in
    (lit< tt, omega (arith, c.args.self.now.few, one_more (goal.at.push-requires c).After-mark, most, long))

pub invariant_of-self : goal.invariant_of-self
invariant_of-self c = record { few = omega (arith, c.args.self.now.few, one_more (goal.at.invariant_of-self c).After-mark, c.push.ensures.len) }

pub returns-then-not-has : goal.returns-then-not-has
returns-then-not-has c =
    let r = c.args.self.now in
    let face = c.args.face in
    let xs = members r.marks.words in
    let new = c.mark.ensures in
    let here : Held (members c.mark.new.self.words) face = subst (λ (bs : List Bool). Held bs face) (sym new) (set_here xs face (within r face c.requires)) in
    let queue = c.push.ensures.items in
    let more = one_more (goal.at.returns-then-not-has c).After-mark in
    let waits : In face c.push.new.self.items = subst (In face) (sym queue) (in_right face r.waiting.items (face ∷ []) (inl refl)) in
    record {
      longer = record {
        keeps = λ g h. subst (λ (bs : List Bool). Held bs g) (sym new) (set_held xs face g (within r face c.requires) h);
        stays = λ g w. subst (In g) (sym queue) (in_left g r.waiting.items (face ∷ []) w);
        met = λ g w. elim (in_append g r.waiting.items (face ∷ []) (subst (In g) queue w)) [
          | inl old ↦ inl old
          | inr new ↦ inr (elim new [ inl e ↦ subst (Held (members c.mark.new.self.words)) (sym e) here | inr none ↦ absurd none ])
        ];
        grows = omega (arith, more);
        evenly = omega (arith, more, c.push.ensures.len);
      };
      here = here;
      only = λ g h. elim (held_set xs face g (subst (λ (bs : List Bool). Held bs g) new h)) [
        | inl e ↦ inr (subst (λ n. In n c.push.new.self.items) (sym e) waits, e)
        | inr old ↦ inl old
      ];
    }
