-- A set by its bits: one number more, and how many there are.
use Rattle.std.proofs.Common.{◌≡◌, ℕ, zero, suc, ◌+◌, ◌<◌, ◌≤◌, Bool, true, false, ◌⊎◌, List, [], ◌∷◌, length, get_or, set, sym, refl, ap, ◌∙◌, inl, inr, ⊎_elim, true≢false, arith, get_or-set_other, get_or-set_same}
use Rattle.std.proofs.lemmas.Bool.{cases_eq}
use Rattle.marks.specs.Bits.{ones_of, Held}

-- ---- one number more
pub held_set : (xs : List Bool) (j i : ℕ) → Held (set xs j true) i → (i ≡ j) ⊎ Held xs i
held_set xs j i h = ⊎_elim (λ e. inl e) (λ ne. inr (sym (get_or-set_other xs j i true false ne) ∙ h)) (cases_eq i j)

pub set_held : (xs : List Bool) (j i : ℕ) → j < length xs → Held xs i → Held (set xs j true) i
set_held xs j i l h = ⊎_elim (λ e. ap (λ k. get_or (set xs j true) k false) e ∙ get_or-set_same xs j true false l) (λ ne. get_or-set_other xs j i true false ne ∙ h) (cases_eq i j)

pub set_here : (xs : List Bool) (j : ℕ) → j < length xs → Held (set xs j true) j
set_here xs j l = get_or-set_same xs j true false l

-- ---- how many there are
pub ones_length : (xs : List Bool) → ones_of xs ≤ length xs
ones_length [] = omega arith
ones_length (true ∷ xs) = let h = ones_length xs in omega arith
ones_length (false ∷ xs) = let h = ones_length xs in omega arith

pub ones_set : (xs : List Bool) (j : ℕ) → j < length xs → get_or xs j false ≡ false → ones_of (set xs j true) ≡ ones_of xs + 1
ones_set [] j h e = absurd (omega arith)
ones_set (true ∷ xs) zero h e = absurd (true≢false e)
ones_set (false ∷ xs) zero h e = omega arith
ones_set (true ∷ xs) (suc j) h e = let r = ones_set xs j (omega arith) e in omega arith
ones_set (false ∷ xs) (suc j) h e = let r = ones_set xs j (omega arith) e in omega arith

most : (xs : List Bool) (n : ℕ) → ((i : ℕ) → Held xs i → i < n) → ones_of xs ≤ n
most [] n f = omega arith
most (true ∷ xs) zero f = let z = f 0 refl in omega arith
most (true ∷ xs) (suc n) f = let h = most xs n (λ i k. let z = f (suc i) k in omega arith) in omega arith
most (false ∷ xs) zero f = let h = most xs zero (λ i k. let z = f (suc i) k in omega arith) in omega arith
most (false ∷ xs) (suc n) f = let h = most xs n (λ i k. let z = f (suc i) k in omega arith) in omega arith

-- a set of numbers below n has n of them exactly where it has each
pub ones_full : (xs : List Bool) (n : ℕ) → ((i : ℕ) → Held xs i → i < n) → ones_of xs ≡ n → (j : ℕ) → j < n → Held xs j
ones_full [] n f e j h = absurd (omega arith)
ones_full (true ∷ xs) n f e zero h = refl
ones_full (true ∷ xs) zero f e (suc j) h = absurd (omega arith)
ones_full (true ∷ xs) (suc n) f e (suc j) h = ones_full xs n (λ i k. let z = f (suc i) k in omega arith) (omega arith) j (omega arith)
ones_full (false ∷ xs) zero f e j h = absurd (omega arith)
ones_full (false ∷ xs) (suc n) f e j h = let m = most xs n (λ i k. let z = f (suc i) k in omega arith) in absurd (omega arith)

pub ones_all : (xs : List Bool) (n : ℕ) → ((i : ℕ) → Held xs i → i < n) → ((j : ℕ) → j < n → Held xs j) → ones_of xs ≡ n
ones_all xs zero f g = let m = most xs zero f in omega arith
ones_all [] (suc n) f g = absurd (true≢false (sym (g 0 (omega arith))))
ones_all (true ∷ xs) (suc n) f g = let r = ones_all xs n (λ i k. let z = f (suc i) k in omega arith) (λ j k. g (suc j) (omega arith)) in omega arith
ones_all (false ∷ xs) (suc n) f g = absurd (true≢false (sym (g 0 (omega arith))))
