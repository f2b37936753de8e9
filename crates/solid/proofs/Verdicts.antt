-- A call that judges faces certifies exactly where they are sound, has one answer but for the open edge that it names, and does not see how the faces are ordered or begun.
use Rattle.std.proofs.Common.{◌≡◌, ◌⊎◌, ◌↔◌, List, Ok, sym, refl, ap, ◌∙◌, subst, inl, inr}
use Rattle.solid.specs.Faces.{Ring}
use Rattle.solid.specs.Rules.{Consistent}
use Rattle.solid.specs.Soundness.{Sound, Certificate, certificate}
use Rattle.solid.specs.Certifying.{Verdict, NamesOpenEdge}
use Rattle.solid.specs.Roll.{Call, enter, check, ask, certify, clear}
use Rattle.solid.specs.Verdicts.{Judges, Says}
use Rattle.solid.specs.Alike.{Alike}
use Rattle.solid.proofs.Ordered.{IsOk}
use Rattle.solid.proofs.Meanings.{gives_one}
use Rattle.solid.proofs.Alikes.{alike_certify}
use Rattle.solid.proofs.Certifies.{certify_sound, certify_one}
use Rattle.solid.proofs.Checks.{check_sound, check_one}

-- a call judges one list of faces
pub judged_one : (call : Call) (roll fs gs : List Ring) → Judges call roll fs → Judges call roll gs → fs ≡ gs
judged_one (enter r) roll fs gs p q = absurd p
judged_one (check m) roll fs gs p q = gives_one m fs gs p q
judged_one ask roll fs gs p q = absurd p
judged_one certify roll fs gs p q = p ∙ sym q
judged_one clear roll fs gs p q = absurd p

-- the faces judged are sound, and this is their certificate
abbrev pub Passes : Call → List Ring → Certificate → Type 0
Passes call roll c = (fs : List Ring) × Judges call roll fs × Sound fs × (c ≡ certificate fs)

module _ (roll : List Ring) (consistent : Consistent roll) where
  -- a certificate may be answered exactly where the faces pass
  says_sound : (call : Call) (c : Certificate) → Says call roll (Ok c) ↔ Passes call roll c
  says_sound (enter r) c = (λ h. absurd h, λ h. absurd h.1)
  says_sound (check m) c = check_sound m c
  says_sound ask c = (λ h. absurd h, λ h. absurd h.1)
  says_sound certify c =
      let here = certify_sound roll consistent c in
      (λ h. (roll, refl, (here.0 h).0, (here.0 h).1), λ h. here.1 (subst Sound h.1 h.2, h.3 ∙ ap certificate h.1))
  says_sound clear c = (λ h. absurd h, λ h. absurd h.1)

  -- two answers are one, or both name an open edge of the faces judged
  pub says_one : (call : Call) (x y : Verdict) → Says call roll x → Says call roll y → (x ≡ y) ⊎ ((fs : List Ring) × Judges call roll fs × NamesOpenEdge fs x × NamesOpenEdge fs y)
  says_one (enter r) x y p q = absurd p
  says_one (check m) x y p q = check_one m x y p q
  says_one ask x y p q = absurd p
  says_one certify x y p q = elim (certify_one roll x y p q) [ inl e ↦ inl e | inr both ↦ inr (roll, refl, both.0, both.1) ]
  says_one clear x y p q = absurd p

  -- so the answer is a certificate exactly where the faces pass
  pub passes : (call : Call) (x : Verdict) → Says call roll x → (c : Certificate) → (x ≡ Ok c) ↔ Passes call roll c
  passes call x says c = (λ e. (says_sound call c).0 (subst (Says call roll) e says), λ h. only ((says_sound call c).1 h))
    where
      only : Says call roll (Ok c) → x ≡ Ok c
      only ok = elim (says_one call x (Ok c) says ok) [ inl e ↦ e | inr both ↦ absurd (subst IsOk both.3.2.0 tt) ]

-- two calls, on two rolls, that judge faces alike: both certify, with the same certificate, or neither does
pub says_alike : (call other : Call) (roll old fs gs : List Ring) → Consistent roll → Consistent old → Judges call roll fs → Judges other old gs → Alike fs gs → (x y : Verdict) → Says call roll x → Says other old y → (c : Certificate) → (x ≡ Ok c) ↔ (y ≡ Ok c)
says_alike call other roll old fs gs st st' j j' alike x y p q c =
    let k = alike_certify fs gs alike in
    let here = passes roll st call x p c in
    let there = passes old st' other y q c in (
      λ e. (let h = here.0 e in let same = judged_one call roll h.0 fs h.1 j in let sound = subst Sound same h.2 in there.1 (gs, j', k.0.0 sound, h.3 ∙ ap certificate same ∙ k.1 sound)),
      λ e. (let h = there.0 e in let same = judged_one other old h.0 gs h.1 j' in let sound = k.0.1 (subst Sound same h.2) in here.1 (fs, j, sound, h.3 ∙ ap certificate same ∙ sym (k.1 sound))),
    )
