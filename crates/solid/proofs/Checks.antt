-- Checking a source answers a certificate exactly where its faces are sound, and else one fault, up to which open edge it names.
use Rattle.std.proofs.Common.{◌≡◌, ℕ, ◌+◌, ◌≤◌, ◌⊎◌, ◌↔◌, List, [], ◌∷◌, ◌++◌, length, Ok, Err, sym, refl, ap, ◌∙◌, subst, inl, inr, append_assoc, append-nil, le_refl, arith, length-append}
use Rattle.fault.specs.declared.shape.ShapeFault.TheVariants.{Source}
use Rattle.solid.specs.Faces.{Ring}
use Rattle.solid.specs.Rules.{Consistent}
use Rattle.solid.specs.Soundness.{Sound, Certificate, certificate}
use Rattle.solid.specs.Entering.{EnterSays}
use Rattle.solid.specs.Certifying.{Verdict, NamesOpenEdge, CertifySays}
use Rattle.solid.specs.Sources.{Meaning, is, Begins, Gives}
use Rattle.solid.specs.Checking.{CheckFrom, unread, refused, taken, done, CheckSays, uncounted, counted, Checked}
use Rattle.solid.specs.Alike.{Alike}
use Rattle.solid.specs.Roll.{Call, check, Certified, After, Rolls}
use Rattle.solid.proofs.Ordered.{IsOk}
use Rattle.solid.proofs.Meanings.{is_same, fault_same, fault_is, face_one, fault_no_face, face_fault_one, gives_one, begins_none, begins_next, begins_more}
use Rattle.solid.proofs.Rolls.{consistent_none, consistent_more}
use Rattle.solid.proofs.Answered.{enter_one, enter_taken, enterable_taken}
use Rattle.solid.proofs.Turns.{consistent_enterable}
use Rattle.solid.proofs.Certifies.{certify_sound, certify_one}
use Rattle.solid.proofs.Alikes.{alike_certify}

-- ---- a certificate
-- all faces of the source, consistent, as certifying meets them
record Whole (m : Meaning) (n : ℕ) (x : Verdict) (fs : List Ring) : Type 0 where
  pub number : length fs ≡ n
  pub begins : Begins m fs
  pub consistent : Consistent fs
  pub says : CertifySays fs x

to_whole : (m : Meaning) (n : ℕ) (fs : List Ring) (x : Verdict) → IsOk x → Begins m fs → Consistent fs → CheckFrom m n fs x → (gs : List Ring) × Whole m n x gs
to_whole m n fs x ok b st (unread l f) = absurd ok
to_whole m n fs x ok b st (refused l k s) = absurd ok
to_whole m n fs x ok b st (taken {r = r} l k s more) =
    to_whole m n (fs ++ r ∷ []) x ok (begins_more m fs r b k) (consistent_more fs r st (enter_taken fs r s)) more
to_whole m n fs x ok b st (done e s) = (fs, record { number = e; begins = b; consistent = st; says = s })

entered_before : (m : Meaning) (n : ℕ) (x : Verdict) (fs rs : List Ring) → Begins m (fs ++ rs) → Consistent (fs ++ rs) → length (fs ++ rs) ≤ n → CheckFrom m n (fs ++ rs) x → CheckFrom m n fs x
entered_before m n x fs [] b st l h = subst (λ (gs : List Ring). CheckFrom m n gs x) (append-nil fs) h
entered_before m n x fs (r ∷ rs) b st l h =
    let same = append_assoc fs (r ∷ []) rs in
    taken (omega (arith, length-append fs (r ∷ rs))) (begins_next m fs r rs b) (enterable_taken fs r (consistent_enterable fs r rs st))
    (entered_before m n x (fs ++ r ∷ []) rs (subst (Begins m) (sym same) b) (subst Consistent (sym same) st) (subst (λ (gs : List Ring). length gs ≤ n) (sym same) l)
    (subst (λ (gs : List Ring). CheckFrom m n gs x) (sym same) h))

-- a check whose first faces, fs, are read and entered says what it says from there
pub check_reached : (m : Meaning) (n : ℕ) (x : Verdict) (fs : List Ring) → m.faces ≡ is n → Begins m fs → Consistent fs → length fs ≤ n → CheckFrom m n fs x → CheckSays m x
check_reached m n x fs e b st l h = counted e (entered_before m n x [] fs b st l h)

-- a check answers a certificate exactly where the source has no fault and its faces are sound, and that of them
pub check_sound : (m : Meaning) (c : Certificate) → CheckSays m (Ok c) ↔ ((fs : List Ring) × Gives m fs × Sound fs × (c ≡ certificate fs))
check_sound m c = (λ h. forth (Ok c) refl h, back)
  where
    forth : (x : Verdict) → x ≡ Ok c → CheckSays m x → (fs : List Ring) × Gives m fs × Sound fs × (c ≡ certificate fs)
    forth x e (uncounted f) = absurd (subst IsOk (sym e) tt)
    forth x e (counted {n = n} k h) =
        let w = to_whole m n [] x (subst IsOk (sym e) tt) (begins_none m) consistent_none h in
        let fs = w.0 in
        let s = (certify_sound fs w.1.consistent c).0 (subst (CertifySays fs) e w.1.says) in
        (fs, record { faces = k ∙ ap is (sym w.1.number); each = w.1.begins }, s.0, s.1)

    back : ((fs : List Ring) × Gives m fs × Sound fs × (c ≡ certificate fs)) → CheckSays m (Ok c)
    back h =
        let fs = h.0 in
        let st = h.2.consistent in
        check_reached m (length fs) (Ok c) fs h.1.faces h.1.each st (le_refl (length fs)) (done refl ((certify_sound fs st c).1 (h.2, h.3)))

-- ---- one answer
abbrev OneOrOpen : Meaning → Verdict → Verdict → Type 0
OneOrOpen m x y = (x ≡ y) ⊎ ((fs : List Ring) × Gives m fs × NamesOpenEdge fs x × NamesOpenEdge fs y)

from_one : (m : Meaning) (n : ℕ) → m.faces ≡ is n → (fs : List Ring) (x y : Verdict) → Begins m fs → CheckFrom m n fs x → CheckFrom m n fs y → OneOrOpen m x y
from_one m n e fs x y b (unread {f = f} l p) (unread {f = g} k q) = inl (ap (λ t. Err (Source (length fs + 1) t)) (face_fault_one m (length fs) f g p q))
from_one m n e fs x y b (unread {f = f} l p) (refused {r = r} k q s) = absurd (fault_no_face m (length fs) f r p q)
from_one m n e fs x y b (unread {f = f} l p) (taken {r = r} k q s more) = absurd (fault_no_face m (length fs) f r p q)
from_one m n e fs x y b (unread l p) (done k s) = absurd (omega arith)
from_one m n e fs x y b (refused {r = r} l p s) (unread {f = f} k q) = absurd (fault_no_face m (length fs) f r q p)
from_one m n e fs x y b (refused {r = r} {f = f} l p s) (refused {r = r'} {f = g} k q s') =
    let same : Err f ≡ Err g = enter_one fs r (Err f) (Err g) s (subst (λ (t : Ring). EnterSays fs t (Err g)) (face_one m (length fs) r' r q p) s') in
    inl (let inner : f ≡ g = cc in ap Err inner)
from_one m n e fs x y b (refused {r = r} {f = f} l p s) (taken {r = r'} k q s' more) =
    absurd (subst IsOk (enter_one fs r (Ok tt) (Err f) (subst (λ (t : Ring). EnterSays fs t (Ok tt)) (face_one m (length fs) r' r q p) s') s) tt)
from_one m n e fs x y b (refused l p s) (done k s') = absurd (omega arith)
from_one m n e fs x y b (taken {r = r} l p s more) (unread {f = f} k q) = absurd (fault_no_face m (length fs) f r q p)
from_one m n e fs x y b (taken {r = r} l p s more) (refused {r = r'} {f = f} k q s') =
    absurd (subst IsOk (enter_one fs r (Ok tt) (Err f) s (subst (λ (t : Ring). EnterSays fs t (Err f)) (face_one m (length fs) r' r q p) s')) tt)
from_one m n e fs x y b (taken {r = r} l p s more) (taken {r = r'} k q s' more') =
    from_one m n e (fs ++ r ∷ []) x y (begins_more m fs r b p) more (subst (λ (t : Ring). CheckFrom m n (fs ++ t ∷ []) y) (face_one m (length fs) r' r q p) more')
from_one m n e fs x y b (taken l p s more) (done k s') = absurd (omega arith)
from_one m n e fs x y b (done l s) (unread k q) = absurd (omega arith)
from_one m n e fs x y b (done l s) (refused k q s') = absurd (omega arith)
from_one m n e fs x y b (done l s) (taken k q s' more) = absurd (omega arith)
from_one m n e fs x y b (done l s) (done k s') = elim (certify_one fs x y s s') [
  | inl same ↦ inl same
  | inr both ↦ inr (fs, record { faces = e ∙ ap is (sym l); each = b }, both.0, both.1)
]

-- two answers are one, or both name an open edge of the source's faces
pub check_one : (m : Meaning) (x y : Verdict) → CheckSays m x → CheckSays m y → (x ≡ y) ⊎ ((fs : List Ring) × Gives m fs × NamesOpenEdge fs x × NamesOpenEdge fs y)
check_one m x y (uncounted {f = f} p) (uncounted {f = g} q) = inl (ap (λ t. Err (Source 0 t)) (fault_same {A = ℕ} f g (sym p ∙ q)))
check_one m x y (uncounted {f = f} p) (counted {n = n} q h) = absurd (fault_is f n (sym p ∙ q))
check_one m x y (counted {n = n} p h) (uncounted {f = f} q) = absurd (fault_is f n (sym q ∙ p))
check_one m x y (counted {n = n} p h) (counted {n = k} q g) =
    from_one m n p [] x y (begins_none m) h (subst (λ t. CheckFrom m t [] y) (is_same k n (sym q ∙ p)) g)

-- ---- the faces after
-- what a check says makes the next roll: the source's faces where it is certified, else none
pub check_faces : (m : Meaning) (x : Verdict) (fs : List Ring) → CheckSays m x → Checked m x fs → (old : List Ring) → After (check m) old fs
check_faces m (Ok c) fs h g old = let k = (check_sound m c).0 h in inl (g, subst Sound (gives_one m k.0 fs k.1 g) k.2)
check_faces m (Err f) fs h e old = inr (no, e)
  where
    no : (gs : List Ring) → Certified m gs → ⊥
    no gs k = elim (check_one m (Ok (certificate gs)) (Err f) ((check_sound m (certificate gs)).1 (gs, k.0, k.1, refl)) h) [
      | inl same ↦ subst IsOk same tt
      | inr named ↦ subst IsOk named.2.2.0 tt
    ]

pub roll_checked : (calls : List Call) (old fs : List Ring) (m : Meaning) (x : Verdict) → Rolls calls old → CheckSays m x → Checked m x fs → Rolls (check m ∷ calls) fs
roll_checked calls old fs m x h s g = (old, h, check_faces m x fs s g old)

-- sources with faces that are alike get the same certificate, or none
pub check_alike : (m m' : Meaning) (fs gs : List Ring) → Gives m fs → Gives m' gs → Alike fs gs → (c : Certificate) → CheckSays m (Ok c) ↔ CheckSays m' (Ok c)
check_alike m m' fs gs g g' a c =
    let k = alike_certify fs gs a in (
      λ h. (let s = (check_sound m c).0 h in let same = gives_one m s.0 fs s.1 g in let sound = subst Sound same s.2 in
          (check_sound m' c).1 (gs, g', k.0.0 sound, s.3 ∙ ap certificate same ∙ k.1 sound)),
      λ h. (let s = (check_sound m' c).0 h in let same = gives_one m' s.0 gs s.1 g' in let sound = k.0.1 (subst Sound same s.2) in
          (check_sound m c).1 (fs, g, sound, s.3 ∙ ap certificate same ∙ sym (k.1 sound))),
    )
