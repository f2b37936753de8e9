-- What entering a ring answers: the fault of the first test that fails, in order, with its number and its values.
use Rattle.std.specs.Prelude.{◌≡◌, ℕ, ◌+◌, ◌⊎◌, List, [], ◌∷◌, ◌++◌, map, length, Ok, Err, Result}
use Rattle.fault.specs.declared.shape.ShapeFault.{ShapeFault}
use Rattle.fault.specs.declared.shape.ShapeFault.TheVariants.{CornerCount, Corner as BadCorner, NotPlanar, Crossing, EdgeTwice, Full}
use Rattle.fault.specs.Numbers.{shape_number}
use Rattle.solid.specs.Lists.{In}
use Rattle.solid.specs.Faces.{Corner, Ring, Edge, edges, all_edges}
use Rattle.solid.specs.Rules.{Valid, Sized, Planar, Simple, corners, Agree, Fresh, Limits}

-- a face entered, or a fault
abbrev pub Entry : Type 0
Entry = Result (Unit {0}) ShapeFault

-- the answer is this fault, and its number is n
abbrev pub Refused : {A : Type 0} → ℕ → ShapeFault → Result A ShapeFault → Type 0
Refused n f x = (x ≡ Err f) × (shape_number f ≡ n)

-- a test: where P fails, what `fail` says, and else what the tests after it say
abbrev pub OrElse : {A : Type 0} → Type 0 → (Result A ShapeFault → Type 0) → (Result A ShapeFault → Type 0) → Result A ShapeFault → Type 0
OrElse P fail after x = ((P → ⊥) × fail x) ⊎ (P × after x)

-- a corner meets its rules alone, against the faces and against the corners before it
pub record Allowed (fs : List Ring) (before : List Corner) (c : Corner) : Type 0 where
  pub valid : Valid c
  pub once : In c.key (map (λ d. d.key) before) → ⊥
  pub agree : (d : Corner) → In d before ⊎ In d (corners fs) → Agree c d

abbrev pub AllAllowed : List Ring → List Corner → Ring → Type 0
AllAllowed fs before [] = Unit {0}
AllAllowed fs before (c ∷ cs) = Allowed fs before c × AllAllowed fs (before ++ c ∷ []) cs

-- k is the key of the first corner that is not allowed
abbrev pub FirstMisfit : List Ring → List Corner → Ring → ℕ → Type 0
FirstMisfit fs before [] k = ⊥
FirstMisfit fs before (c ∷ cs) k = ((Allowed fs before c → ⊥) × (k ≡ c.key)) ⊎ (Allowed fs before c × FirstMisfit fs (before ++ c ∷ []) cs k)

-- e is the first of the edges that is one of the others
abbrev pub FirstIn : List Edge → List Edge → Edge → Type 0
FirstIn others [] e = ⊥
FirstIn others (f ∷ fs) e = (In f others × (e ≡ f)) ⊎ ((In f others → ⊥) × FirstIn others fs e)

-- the tests in order; the fault has the position that the face would have
abbrev pub EnterSays : List Ring → Ring → Entry → Type 0
EnterSays fs r =
    OrElse (Sized r) (Refused 14 (CornerCount (length fs + 1)))
    (OrElse (AllAllowed fs [] r) (λ x. (k : ℕ) × FirstMisfit fs [] r k × Refused 14 (BadCorner (length fs + 1) k) x)
    (OrElse (Planar r) (Refused 15 (NotPlanar (length fs + 1)))
    (OrElse (Simple r) (Refused 16 (Crossing (length fs + 1)))
    (OrElse (Fresh fs r) (λ x. (e : Edge) × FirstIn (all_edges fs) (edges r) e × Refused 17 (EdgeTwice (length fs + 1) e.0.key e.1.key) x)
    (OrElse (Limits (fs ++ r ∷ [])) (Refused 18 (Full (length fs + 1)))
    (λ x. x ≡ Ok tt))))))

-- the faces after entering: a fault leaves them
abbrev pub entered : List Ring → Ring → Entry → List Ring
entered fs r (Ok done) = fs ++ r ∷ []
entered fs r (Err f) = fs
