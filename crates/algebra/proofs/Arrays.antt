-- `==` of the code's three-element arrays decides whether their vectors are one.
use Rattle.std.proofs.Common.{◌≡◌, Bool, List, [], ◌∷◌, length, ℤ, Decides, sym, refl, ap, ◌∙◌, arith}
use Rattle.std.specs.Ordering.{int_eq}
use Rattle.std.specs.Cmp.Lexicographic.{pointwise}
use Rattle.std.proofs.lemmas.Slice.Eq.{slice_eq-Decides}
use Rattle.std.proofs.lemmas.Bool.Decides.{Decides-int_eq, Decides-like}
use Rattle.algebra.specs.Vector.{vector, coordinates}

-- a list of three is that of its vector's components
pub coordinates_of : (p : List ℤ) → length p ≡ 3 → coordinates (vector p) ≡ p
coordinates_of [] e = absurd (omega arith)
coordinates_of (x ∷ []) e = absurd (omega arith)
coordinates_of (x ∷ y ∷ []) e = absurd (omega arith)
coordinates_of (x ∷ y ∷ z ∷ []) e = refl
coordinates_of (x ∷ y ∷ z ∷ w ∷ p) e = absurd (omega arith)

-- r is `a == b`
pub same_vector : (a b : List ℤ) (r : Bool) → length a ≡ 3 → length b ≡ 3 → r ≡ pointwise int_eq a b → Decides r (vector a ≡ vector b)
same_vector a b r h k e =
    Decides-like r (λ same. ap vector same) (λ same. sym (coordinates_of a h) ∙ ap coordinates same ∙ coordinates_of b k) (slice_eq-Decides Decides-int_eq a b r e)
