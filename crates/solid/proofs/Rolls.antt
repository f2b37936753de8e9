-- The roll: calls make one, and its faces are consistent.
use Rattle.std.proofs.Common.{◌≡◌, ◌⊎◌, List, [], ◌∷◌, ◌++◌, ◌-ℤ◌, sym, ◌∙◌, subst, inl, inr, append-nil, arith}
use Rattle.algebra.specs.Vector.{V3, dot}
use Rattle.solid.specs.Lists.{In, Distinct}
use Rattle.solid.specs.Faces.{Corner, Ring, Edge, edges, all_edges, count, kept_volume_of, edge_sum_of}
use Rattle.solid.specs.Rules.{Proper, corners, Agree, Enterable, Consistent}
use Rattle.solid.specs.Roll.{Call, enter, check, ask, certify, clear, After, Rolls}
use Rattle.solid.proofs.Members.{in_append, in_left, in_right, distinct_append, edges_once, all_edges-append, corners-append}
use Rattle.solid.proofs.Counting.{counts_agree}
use Rattle.solid.proofs.Meanings.{gives_one}

-- ---- consistent faces
pub consistent_none : Consistent []
consistent_none = record { proper = λ r i. absurd i; agree = λ a b i j. absurd i; once = tt; limits = record { faces = omega arith; keys = omega arith; edges = omega arith } }

pub agree_back : (a b : Corner) → Agree a b → Agree b a
agree_back a b h = (λ k. sym (h.0 (sym k)), λ p. sym (h.1 (sym p)))

module _ (fs : List Ring) (r : Ring) (h : Consistent fs) (k : Enterable fs r) where
  in_corners : (c : Corner) → In c (corners (fs ++ r ∷ [])) → In c (corners fs) ⊎ In c r
  in_corners c i =
      let j = subst (In c) (corners-append fs (r ∷ [])) i in
      elim (in_append c (corners fs) (r ++ []) j) [ inl l ↦ inl l | inr l ↦ inr (subst (In c) (append-nil r) l) ]

  pub consistent_more : Consistent (fs ++ r ∷ [])
  consistent_more = record {
    proper = λ s i. elim (in_append s fs (r ∷ []) i) [ inl j ↦ h.proper s j | inr j ↦ elim j [ inl e ↦ subst Proper (sym e) k.proper | inr n ↦ absurd n ] ];
    agree = λ a b i j. elim (in_corners a i) [
      | inl p ↦ elim (in_corners b j) [ inl q ↦ h.agree a b p q | inr q ↦ agree_back b a (k.agree b a q (in_right a r (corners fs) p)) ]
      | inr p ↦ k.agree a b p (elim (in_corners b j) [ inl q ↦ in_right b r (corners fs) q | inr q ↦ in_left b r (corners fs) q ])
    ];
    once = subst Distinct (sym (all_edges-append fs (r ∷ []))) (subst (λ (t : List Edge). Distinct (all_edges fs ++ t)) (sym (append-nil (edges r)))
        (distinct_append (all_edges fs) (edges r) h.once (edges_once r k.proper.tidy.keys) (λ e i j. k.fresh e j i)));
    limits = k.limits;
  }

pub rolls_consistent : (calls : List Call) (fs : List Ring) → Rolls calls fs → Consistent fs
rolls_consistent [] fs e = subst Consistent (sym e) consistent_none
rolls_consistent (enter r ∷ cs) fs h =
    let old = rolls_consistent cs h.0 h.1 in
    elim h.2 [ inl t ↦ subst Consistent (sym t.1) (consistent_more h.0 r old t.0) | inr t ↦ subst Consistent (sym t.1) old ]
rolls_consistent (check m ∷ cs) fs h = elim h.2 [ inl t ↦ t.1.consistent | inr t ↦ subst Consistent (sym t.1) consistent_none ]
rolls_consistent (ask ∷ cs) fs h = subst Consistent (sym h.2) (rolls_consistent cs h.0 h.1)
rolls_consistent (certify ∷ cs) fs h = subst Consistent (sym h.2) (rolls_consistent cs h.0 h.1)
rolls_consistent (clear ∷ cs) fs h = subst Consistent (sym h.2) consistent_none

-- after every list of calls the roll counts from each point the kept volume less q · edge sum
pub rolls_count : (calls : List Call) (fs : List Ring) → Rolls calls fs → (q : V3) → count q fs ≡ kept_volume_of fs -ℤ dot q (edge_sum_of fs)
rolls_count calls fs h q = counts_agree fs (rolls_consistent calls fs h).once q

-- ---- one roll
after_one : (c : Call) (old fs gs : List Ring) → After c old fs → After c old gs → fs ≡ gs
after_one (enter r) old fs gs (inl p) (inl q) = p.1 ∙ sym q.1
after_one (enter r) old fs gs (inl p) (inr q) = absurd (q.0 p.0)
after_one (enter r) old fs gs (inr p) (inl q) = absurd (p.0 q.0)
after_one (enter r) old fs gs (inr p) (inr q) = p.1 ∙ sym q.1
after_one (check m) old fs gs (inl p) (inl q) = gives_one m fs gs p.0 q.0
after_one (check m) old fs gs (inl p) (inr q) = absurd (q.0 fs p)
after_one (check m) old fs gs (inr p) (inl q) = absurd (p.0 gs q)
after_one (check m) old fs gs (inr p) (inr q) = p.1 ∙ sym q.1
after_one ask old fs gs p q = p ∙ sym q
after_one certify old fs gs p q = p ∙ sym q
after_one clear old fs gs p q = p ∙ sym q

-- calls make one roll
pub one_roll : (calls : List Call) (fs gs : List Ring) → Rolls calls fs → Rolls calls gs → fs ≡ gs
one_roll [] fs gs p q = p ∙ sym q
one_roll (c ∷ cs) fs gs p q =
    after_one c p.0 fs gs p.2 (subst (λ (t : List Ring). After c t gs) (sym (one_roll cs p.0 q.0 p.1 q.1)) q.2)
