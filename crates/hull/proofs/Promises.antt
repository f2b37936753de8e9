-- A check, and certifying, keep the promise whole, by what they say and leave.
use Rattle.std.proofs.Common.{◌≡◌, List, pos, ◌≤ℤ◌, Ok, sym, refl, ap, ◌∙◌, subst}
use Rattle.solid.specs.Certifying.{Verdict, CertifySays}
use Rattle.solid.specs.Checking.{CheckSays, Checked}
use Rattle.solid.specs.Faces.{Ring}
use Rattle.solid.specs.Roll.{Call, check, certify}
use Rattle.solid.specs.Soundness.{Sound, Certificate, certificate}
use Rattle.solid.specs.Sources.{Meaning}
use Rattle.solid.specs.Verdicts.{Judges, Says}
use Rattle.solid.proofs.Checks.{roll_checked}
use Rattle.solid.proofs.Closing.{sound_count}
use Rattle.solid.proofs.Rolls.{rolls_consistent}
use Rattle.solid.proofs.Verdicts.{judged_one, passes, says_one, says_alike}
use Rattle.hull.specs.Law.{Law}
use Rattle.hull.specs.Meaning.{faces_of}
use Rattle.hull.specs.Promise.{Leaves, Attests, Promise}
use Rattle.hull.specs.declared.hull.Hull.{Hull}
use Rattle.hull.proofs.Laws.{consistent, counts}

attests : (c : Certificate) (fs : List Ring) → Sound fs → c ≡ certificate fs → Attests c fs
attests c fs sound e = record {
  positive = subst (λ (d : Certificate). pos 1 ≤ℤ d.n) (sym e) sound.volume;
  from_every = λ q. sound_count fs sound q ∙ sym (ap (λ (d : Certificate). d.n) e);
  counted = e;
}

-- the faces judged, where a certificate is answered, are those on the roll after
module _ (call : Call) (before after : Hull) (x : Verdict) (law : Law call before after) (says : Says call (faces_of before) x) (leaves : Leaves call before after x) (judged : (c : Certificate) → x ≡ Ok c → Judges call (faces_of before) (faces_of after)) where
  promise_from : Promise call before after x
  promise_from = record {
    one_volume = law;
    exactly = passes (faces_of before) (consistent before) call x says;
    first_fault = says;
    one_answer = λ y says'. says_one (faces_of before) (consistent before) call x y says says';
    certificate = λ c e. (
        let h = (passes (faces_of before) (consistent before) call x says c).0 e in
        let j = judged c e in
        let same = judged_one call (faces_of before) h.0 (faces_of after) h.1 j in
        (attests c (faces_of after) (subst Sound same h.2) (h.3 ∙ ap certificate same), j)
        );
    left = leaves;
    alike = λ other calls roll rolls fs gs j j' alike y says'. says_alike call other (faces_of before) roll fs gs (consistent before) (rolls_consistent calls roll rolls) j j' alike x y says says';
  }

pub check_promise : (m : Meaning) (before after : Hull) (x : Verdict) → CheckSays m x → Checked m x (faces_of after) → Promise (check m) before after x
check_promise m before after x says leaves = promise_from (check m) before after x
    (record { roll = λ calls r. roll_checked calls (faces_of before) (faces_of after) m x r says leaves; counts = counts after })
    says leaves (λ c e. subst (λ (y : Verdict). Checked m y (faces_of after)) e leaves)

pub certify_promise : (h : Hull) (x : Verdict) → CertifySays (faces_of h) x → Promise certify h h x
certify_promise h x says = promise_from certify h h x (record { roll = λ calls r. (faces_of h, r, refl); counts = counts h }) says refl (λ c e. refl)
