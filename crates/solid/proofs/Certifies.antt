-- Certifying answers a certificate exactly of sound faces, and else one fault, up to which open edge it names.
use Rattle.std.proofs.Common.{◌≡◌, ℕ, ◌<◌, ◌⊎◌, ◌↔◌, List, pos, ◌≤ℤ◌, Ok, Err, sym, refl, ap, ◌∙◌, subst, inl, inr}
use Rattle.std.proofs.lemmas.Bool.{cases_order}
use Rattle.fault.specs.declared.shape.ShapeFault.TheVariants.{OpenEdge, KeyCycle, Disconnected, NoVolume}
use Rattle.solid.specs.Lists.{In}
use Rattle.solid.specs.Faces.{Ring, Edge, kept_volume_of, open_edges_of}
use Rattle.solid.specs.Rules.{Consistent, corners}
use Rattle.solid.specs.Soundness.{Closed, Round, AllRound, FromFirst, Sound, Certificate, certificate}
use Rattle.solid.specs.Certifying.{Verdict, NamesOpenEdge, LeastNotRound, CertifySays}
use Rattle.solid.specs.Alike.{Alike}
use Rattle.solid.proofs.Closing.{open_edge_in}
use Rattle.solid.proofs.Answered.{key_in}
use Rattle.solid.proofs.Ordered.{one_refused, each_or_else, passed, IsOk}
use Rattle.solid.proofs.Alikes.{consistent_alike, alike_certify}

-- certifying consistent faces answers a certificate exactly where they are sound, and that of them
pub certify_sound : (fs : List Ring) → Consistent fs → (c : Certificate) → CertifySays fs (Ok c) ↔ (Sound fs × (c ≡ certificate fs))
certify_sound fs st c = (forth, λ h. inr (h.0.closed, inr (h.0.round, inr (h.0.reached, inr (h.0.volume, ap Ok h.1)))))
  where
    forth : CertifySays fs (Ok c) → Sound fs × (c ≡ certificate fs)
    forth h =
        let s19 = passed (λ e. subst IsOk e.2.0 tt) h in
        let s20 = passed (λ e. subst IsOk e.2.0 tt) s19.1 in
        let s21 = passed (λ e. subst IsOk e.0 tt) s20.1 in
        let s22 = passed (λ e. subst IsOk e.0 tt) s21.1 in
        let same = s22.1 in
        (record { consistent = st; closed = s19.0; round = s20.0; reached = s21.0; volume = s22.0 }, cc)

-- ---- one answer
least_one : (fs : List Ring) (v w : ℕ) → LeastNotRound fs v → LeastNotRound fs w → v ≡ w
least_one fs v w p q = elim (cases_order v w) [ inl e ↦ e | inr (inl a) ↦ absurd (below v w p q a) | inr (inr b) ↦ absurd (below w v q p b) ]
  where
    below : (v w : ℕ) → LeastNotRound fs v → LeastNotRound fs w → v < w → ⊥
    below v w p q a =
        let k = key_in v _ p.some in
        p.fails (subst (Round fs) (sym k.2) (q.least k.0 k.1 (subst (λ t. t < w) k.2 a)))

-- two answers are one, or both name an open edge
pub certify_one : (fs : List Ring) (x y : Verdict) → CertifySays fs x → CertifySays fs y → (x ≡ y) ⊎ (NamesOpenEdge fs x × NamesOpenEdge fs y)
certify_one fs =
    each_or_else _ _ _ _ (λ x y p q. inr (p, q))
    (each_or_else _ _ _ _ (λ x y p q. inl (p.2.0 ∙ ap (λ v. Err (KeyCycle v)) (least_one fs p.0 q.0 p.1 q.1) ∙ sym q.2.0))
    (each_or_else _ _ _ _ (λ x y p q. inl (one_refused _ _ x y p q))
    (each_or_else _ _ _ _ (λ x y p q. inl (one_refused _ _ x y p q)) (λ x y p q. inl (p ∙ sym q)))))

-- faces that are alike get the same certificate, or none
pub certify_alike : (fs gs : List Ring) → Alike fs gs → Consistent fs → (c : Certificate) → CertifySays fs (Ok c) ↔ CertifySays gs (Ok c)
certify_alike fs gs a st c =
    let here = certify_sound fs st c in
    let there = certify_sound gs (consistent_alike fs gs a st) c in
    let k = alike_certify fs gs a in (
      λ h. (let s = here.0 h in there.1 (k.0.0 s.0, s.1 ∙ k.1 s.0)),
      λ h. (let s = there.0 h in let t = k.0.1 s.0 in here.1 (t, s.1 ∙ sym (k.1 t))),
    )

-- ---- each outcome of the tests in order, from what the tests before it found
module _ (fs : List Ring) where
  pub says_open : (e : Edge) → In e (open_edges_of fs) → CertifySays fs (Err (OpenEdge e.0.key e.1.key))
  says_open e i = inl (λ closed. (let o = open_edge_in fs e i in o.1 (closed e o.0)), (e, i, (refl, refl)))

  module _ (closed : Closed fs) where
    pub says_key_cycle : (v : ℕ) → LeastNotRound fs v → CertifySays fs (Err (KeyCycle v))
    says_key_cycle v h = inr (closed, inl (λ round. (let k = key_in v (corners fs) h.some in h.fails (subst (Round fs) (sym k.2) (round k.0 k.1))), (v, h, (refl, refl))))

    module _ (round : AllRound fs) where
      pub says_disconnected : (FromFirst fs → ⊥) → CertifySays fs (Err Disconnected)
      says_disconnected fails = inr (closed, inr (round, inl (fails, (refl, refl))))

      module _ (reached : FromFirst fs) where
        pub says_no_volume : (pos 1 ≤ℤ kept_volume_of fs → ⊥) → CertifySays fs (Err NoVolume)
        says_no_volume fails = inr (closed, inr (round, inr (reached, inl (fails, (refl, refl)))))

        pub says_certified : (c : Certificate) → pos 1 ≤ℤ kept_volume_of fs → c ≡ certificate fs → CertifySays fs (Ok c)
        says_certified c volume same = inr (closed, inr (round, inr (reached, inr (volume, ap Ok same))))
