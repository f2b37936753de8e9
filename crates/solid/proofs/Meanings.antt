-- A source's replies are one each: it gives one list of faces, and a face that it gives has no fault.
use Rattle.std.proofs.Common.{◌≡◌, ℕ, ◌<◌, List, [], ◌∷◌, ◌++◌, length, get_or, sym, ap, ◌∙◌, subst, inl, inr, arith, length-append, ext_get_or}
use lib.Seq.{get_or-append_seam}
use Rattle.std.proofs.lemmas.List.{get_or_append_left}
use Rattle.std.proofs.lemmas.Bool.{cases_order}
use Rattle.fault.specs.declared.record.RecordFault.{RecordFault}
use Rattle.algebra.specs.Vector.{null}
use Rattle.solid.specs.Faces.{Corner, Ring}
use Rattle.solid.specs.Sources.{Meaning, Reply, is, fault, nothing, FaceIs, Begins, Gives}
use Rattle.solid.specs.Checking.{FaceFault, in_sides, in_corner}

-- ---- replies
pub is_same : {A : Type 0} (a b : A) → is a ≡ is b → a ≡ b
is_same a b e = cc

pub fault_same : {A : Type 0} (f g : RecordFault) → ◌≡◌ {A = Reply A} (fault f) (fault g) → f ≡ g
fault_same f g e = cc

abbrev Faulty : {A : Type 0} → Reply A → Type 0
Faulty (is a) = ⊥
Faulty (fault f) = Unit {0}
Faulty nothing = ⊥

pub fault_is : {A : Type 0} (f : RecordFault) (a : A) → fault f ≡ is a → ⊥
fault_is f a e = subst Faulty e tt

-- ---- one face
none : Corner
none = record { key = 0; position = null }

pub face_one : (m : Meaning) (i : ℕ) (r s : Ring) → FaceIs m i r → FaceIs m i s → r ≡ s
face_one m i r s p q = ext_get_or none r s long (λ j l. is_same (get_or r j none) (get_or s j none) (sym (p.corner j none l) ∙ q.corner j none (subst (λ n. j < n) long l)))
  where
    long : length r ≡ length s
    long = is_same (length r) (length s) (sym p.sides ∙ q.sides)

pub fault_no_face : (m : Meaning) (i : ℕ) (f : RecordFault) (r : Ring) → FaceFault m i f → FaceIs m i r → ⊥
fault_no_face m i f r (in_sides e) p = fault_is f (length r) (sym e ∙ p.sides)
fault_no_face m i f r (in_corner k j e l before g) p =
    let long : k ≡ length r = is_same k (length r) (sym e ∙ p.sides) in
    fault_is f (get_or r j none) (sym g ∙ p.corner j none (subst (λ n. j < n) long l))

pub face_fault_one : (m : Meaning) (i : ℕ) (f g : RecordFault) → FaceFault m i f → FaceFault m i g → f ≡ g
face_fault_one m i f g (in_sides p) (in_sides q) = fault_same {A = ℕ} f g (sym p ∙ q)
face_fault_one m i f g (in_sides p) (in_corner k j q l before h) = absurd (fault_is f k (sym p ∙ q))
face_fault_one m i f g (in_corner k j p l before h) (in_sides q) = absurd (fault_is g k (sym q ∙ p))
face_fault_one m i f g (in_corner k j p l before h) (in_corner k' j' q l' before' h') = elim (cases_order j j') [
  | inl e ↦ fault_same {A = Corner} f g (sym h ∙ ap (m.corner i) e ∙ h')
  | inr (inl a) ↦ absurd (fault_is f (before' j a).0 (sym h ∙ (before' j a).1))
  | inr (inr b) ↦ absurd (fault_is g (before j' b).0 (sym h' ∙ (before j' b).1))
]

-- ---- the faces
pub gives_one : (m : Meaning) (fs gs : List Ring) → Gives m fs → Gives m gs → fs ≡ gs
gives_one m fs gs p q = ext_get_or [] fs gs long (λ i a. face_one m i (get_or fs i []) (get_or gs i []) (p.each i a) (q.each i (subst (λ n. i < n) long a)))
  where
    long : length fs ≡ length gs
    long = is_same (length fs) (length gs) (sym p.faces ∙ q.faces)

pub begins_none : (m : Meaning) → Begins m []
begins_none m i l = absurd (omega arith)

-- the face after some faces that a source begins with is their next
pub begins_next : (m : Meaning) (fs : List Ring) (r : Ring) (rs : List Ring) → Begins m (fs ++ r ∷ rs) → FaceIs m (length fs) r
begins_next m fs r rs h = subst (FaceIs m (length fs)) (get_or-append_seam fs r rs []) (h (length fs) (omega (arith, length-append fs (r ∷ rs))))

pub begins_more : (m : Meaning) (fs : List Ring) (r : Ring) → Begins m fs → FaceIs m (length fs) r → Begins m (fs ++ r ∷ [])
begins_more m fs r h k i l = elim (cases_order i (length fs)) [
  | inl e ↦ subst (λ n. FaceIs m n (get_or (fs ++ r ∷ []) n [])) (sym e) (subst (FaceIs m (length fs)) (sym (get_or-append_seam fs r [] [])) k)
  | inr (inl a) ↦ subst (FaceIs m i) (sym (get_or_append_left fs (r ∷ []) [] i a)) (h i a)
  | inr (inr b) ↦ absurd (omega (arith, length-append fs (r ∷ [])))
]
