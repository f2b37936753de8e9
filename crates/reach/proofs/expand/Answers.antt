use Rattle.std.proofs.Common.{◌≡◌, sym, ◌∙◌, subst, inl, inr, arith}
use Rattle.std.proofs.lemmas.Bool.{cases_lt}
use Rattle.index.specs.Closed.{faces_in}
use Rattle.index.proofs.Meanings.{consistent}
use Rattle.solid.specs.Places.{Home, Across}
use Rattle.solid.proofs.Places.{home_within}
use Rattle.solid.proofs.Reaching.{across_one}
use Rattle.reach.specs.Sets.{Has}
use Rattle.reach.proofs.expand.Goals as goal
use Rattle.reach.proofs.expand.Goals.{In-Some, After-across}

-- the place is one of the face
home : (c : In-Some) → Home (faces_in c.args.closed.now) c.in-Some.place c.args.face
home c =
    let steps = c.in-Some.ensures.steps in
    let inv = c.loop-place.invariant in
    record { face = c.requires; from = omega (arith, steps.1.1, inv.0); below = omega (arith, steps.1.0, steps.1.1, inv.1) }

pub across-requires : goal.across-requires
across-requires c = home_within (faces_in c.args.closed.now) c.in-Some.place c.args.face (home (goal.at.across-requires c).In-Some)

pub add-requires : goal.add-requires
add-requires c = omega (arith, c.across.ensures.face, (consistent c.args.closed.now.index.now).limits.faces)

pub loop-place-preserved : goal.loop-place-preserved
loop-place-preserved c =
    let fs = faces_in c.args.closed.now in
    let at = c.in-Some.place in
    let steps = c.in-Some.ensures.steps in
    let inv = c.loop-place.invariant in
    let added = c.add.ensures in
    let here = home (goal.at.loop-place-preserved c).In-Some in
    let old = inv.2 in (
      omega (arith, inv.0, steps.1.2),
      steps.0 ∙ inv.1,
      record {
        keeps = λ g h. added.longer.keeps g (old.keeps g h);
        stays = λ g w. added.longer.stays g (old.stays g w);
        met = λ g w. elim (added.longer.met g w) [
          | inl a ↦ elim (old.met g a) [ inl b ↦ inl b | inr h ↦ inr (added.longer.keeps g h) ]
          | inr h ↦ inr h
        ];
        grows = omega (arith, old.grows, added.longer.grows);
        evenly = omega (arith, old.evenly, added.longer.evenly);
      },
      λ p g h l a. elim (cases_lt p c.loop-place.place-iterator.start) [
        | inl before ↦ added.longer.keeps g (inv.3 p g h before a)
        | inr after ↦ (
            let e : p ≡ at = omega (arith, steps.1.1, steps.1.2) in
            subst (Has c.add.new.self) (across_one fs (consistent c.args.closed.now.index.now) at c.across.result g c.across.ensures (subst (λ q. Across fs q g) e a)) added.here
            )
      ],
      λ g h. elim (added.only g h) [
        | inl met ↦ elim (inv.4 g met) [ inl a ↦ inl a | inr b ↦ inr (added.longer.stays g b.0, b.1) ]
        | inr new ↦ inr (new.0, (at, here, subst (Across fs at) (sym new.1) c.across.ensures))
      ],
    )

pub returns : goal.returns
returns c =
    let inv = c.loop-place.invariant in
    record { longer = inv.2; all = λ p g h a. inv.3 p g h (omega (arith, h.below, inv.1, c.in-None.ensures.steps.1)) a; only = inv.4 }
