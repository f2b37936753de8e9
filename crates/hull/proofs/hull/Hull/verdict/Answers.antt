use Rattle.std.proofs.Common.{◌≡◌, ◌*◌, ◌/◌, ◌^◌, true, false, not, T, ℤ, pos, ◌≤ℤ◌, Err, Decides, sym, ap, ◌∙◌, subst, arith, w64, to_z, of_z}
use lib.Signed.{lt_z, lt_z_no}
use Rattle.algebra.specs.Vector.{Near}
use Rattle.algebra.proofs.Machine.{read_back}
use Rattle.fault.specs.declared.shape.ShapeFault.{ShapeFault}
use Rattle.std.proofs.lemmas.Int.{ints}
use Rattle.std.proofs.lemmas.Result.{err_from_is_err_and}
use Rattle.std.proofs.lemmas.Bool.Decides.{not_from_Decides}
use Rattle.solid.specs.Certifying.{LeastNotRound, CertifySays}
use Rattle.solid.specs.Faces.{kept_volume_of}
use Rattle.solid.proofs.Growth.{kept_near}
use Rattle.solid.proofs.Certifies.{says_open, says_key_cycle, says_disconnected, says_no_volume, says_certified}
use Rattle.index.specs.Closed.{faces_in}
use Rattle.index.specs.Meaning.{faces_of as indexed}
use Rattle.index.specs.declared.index.closed.ClosedIndex.{ClosedIndex}
use Rattle.index.proofs.Meanings.{closed_out}
use Rattle.solid.specs.Soundness.{Closed, AllRound, FromFirst}
use Rattle.hull.specs.Meaning.{faces_of}
use Rattle.hull.specs.declared.hull.Hull.{Hull}
use Rattle.hull.proofs.Laws.{consistent}
use Rattle.hull.proofs.hull.Hull.verdict.Goals as goal

pub returns-in_err-closed : goal.returns-in_err-closed
returns-in_err-closed c =
    let fs = faces_of c.args.self.now in
    let p = err_from_is_err_and c.from_residual.result c.from_residual.ensures.1 in
    let e = c.in_err-closed.ensures in
    rw (p.1, p.2) (subst (λ (f : ShapeFault). CertifySays fs (Err f)) (sym e.2) (says_open fs e.0 e.1))

-- the faces of the closed index are those of the hull, and no edge of them is open
same_faces : (h : Hull) (x : ClosedIndex) → x.index.now ≡ h.index → faces_in x ≡ faces_of h
same_faces h x same = ap indexed same

whole : (h : Hull) (x : ClosedIndex) → x.index.now ≡ h.index → Closed (faces_of h)
whole h x same = subst Closed (same_faces h x same) (closed_out x)

pub returns-in-Some : goal.returns-in-Some
returns-in-Some c = says_key_cycle (faces_of c.args.self.now) (whole c.args.self.now c.in_ok-closed.closed c.in_ok-closed.ensures) c.in-Some.key (subst (λ fs. LeastNotRound fs c.in-Some.key) (same_faces c.args.self.now c.in_ok-closed.closed c.in_ok-closed.ensures) c.in-Some.ensures)

pub returns-then-not-is_connected : goal.returns-then-not-is_connected
returns-then-not-is_connected c = says_disconnected (faces_of c.args.self.now) (whole c.args.self.now c.in_ok-closed.closed c.in_ok-closed.ensures) (subst AllRound (same_faces c.args.self.now c.in_ok-closed.closed c.in_ok-closed.ensures) c.in_default.ensures) (not_from_Decides c.is_connected.result (subst (λ fs. Decides c.is_connected.result (FromFirst fs)) (same_faces c.args.self.now c.in_ok-closed.closed c.in_ok-closed.ensures) c.is_connected.ensures) c.if-not-is_connected.true)

-- the volume is read as it was answered, since it fits 64 bits
volume_is : (h : Hull) (v : ℤ) → v ≡ kept_volume_of (faces_of h) → to_z w64 (of_z w64 v) ≡ kept_volume_of (faces_of h)
volume_is h v e = read_back w64 tt (subst (Near (3072 * (75 * 10 ^ 13))) (sym e) (kept_near (faces_of h) (consistent h))) ∙ e

too_small : (v : ℤ) → lt_z v (pos 1) ≡ true → pos 1 ≤ℤ v → ⊥
too_small v l h = grind (arith, ints)

large : (v : ℤ) → lt_z v (pos 1) ≡ false → pos 1 ≤ℤ v
large v l = lt_z_no (subst (λ b. T (not b)) (sym l) tt)

pub returns-then-volume-lt1 : goal.returns-then-volume-lt1
returns-then-volume-lt1 c =
    let h = c.args.self.now in
    says_no_volume (faces_of h) (whole c.args.self.now c.in_ok-closed.closed c.in_ok-closed.ensures) (subst AllRound (same_faces c.args.self.now c.in_ok-closed.closed c.in_ok-closed.ensures) c.in_default.ensures) ((subst (λ fs. Decides c.is_connected.result (FromFirst fs)) (same_faces c.args.self.now c.in_ok-closed.closed c.in_ok-closed.ensures) c.is_connected.ensures).0 c.if-not-is_connected.false)
    (λ l. too_small _ c.if-volume-lt1.true (subst (λ v. pos 1 ≤ℤ v) (sym (volume_is h _ c.kept_volume-volume.ensures.value.0)) l))

pub invariant_of-result : goal.invariant_of-result
invariant_of-result c = record { positive = large _ c.if-volume-lt1.false }

pub returns : goal.returns
returns c =
    let h = c.args.self.now in
    let volume = volume_is h _ c.kept_volume-volume.ensures.value.0 in
    says_certified (faces_of h) (whole c.args.self.now c.in_ok-closed.closed c.in_ok-closed.ensures) (subst AllRound (same_faces c.args.self.now c.in_ok-closed.closed c.in_ok-closed.ensures) c.in_default.ensures) ((subst (λ fs. Decides c.is_connected.result (FromFirst fs)) (same_faces c.args.self.now c.in_ok-closed.closed c.in_ok-closed.ensures) c.is_connected.ensures).0 c.if-not-is_connected.false) _
    (subst (λ v. pos 1 ≤ℤ v) volume (large _ c.if-volume-lt1.false))
    (λ i. record { v = c.key_count.ensures.value i; e = c.edge_count.ensures.value i / 2; f = c.face_count.ensures.value i; n = volume i })
