-- One part more at the end, and the parts together.
use Rattle.std.proofs.Common.{◌≡◌, ℕ, suc, ◌+◌, ◌-◌, ◌≤◌, true, List, [], ◌∷◌, ◌++◌, length, take, drop, sym, refl, ap, ◌∙◌, ap₂, arith, length-drop, take-append-drop, take_all}
use Rattle.std.proofs.lemmas.List.{take-append-le, drop-append-le}
use Rattle.std.proofs.lemmas.Bool.Decides.{nat_tests}
use Rattle.faces.specs.Cuts.{ends_rise, cut}

abbrev pub joined : {X : Type 0} → List (List X) → List X
joined [] = []
joined (x ∷ xs) = x ++ joined xs

pub ends_below : (from : ℕ) (es : List ℕ) (n : ℕ) → ends_rise from es n ≡ true → from ≤ n
ends_below from [] n h = grind (arith, nat_tests)
ends_below from (e ∷ es) n h =
    let a : from ≤ e = grind (arith, nat_tests) in
    let b = ends_below e es n (grind (arith, nat_tests)) in
    omega arith

pub ends_push : (from : ℕ) (es : List ℕ) (n m : ℕ) → ends_rise from es n ≡ true → n ≤ m → ends_rise from (es ++ m ∷ []) m ≡ true
ends_push from [] n m h l = grind (arith, nat_tests)
ends_push from (e ∷ es) n m h l =
    let r = ends_push e es n m (grind (arith, nat_tests)) l in
    grind (arith, nat_tests)

pub length_cut : {X : Type 0} (from : ℕ) (xs : List X) (es : List ℕ) → length (cut from xs es) ≡ length es
length_cut from xs [] = refl
length_cut from xs (e ∷ es) = ap suc (length_cut e (drop (e - from) xs) es)

empty_of : {X : Type 0} (xs : List X) → length xs ≡ 0 → xs ≡ []
empty_of [] h = refl
empty_of (x ∷ xs) h = absurd (omega arith)

-- the parts together are the list
pub joined-cut : {X : Type 0} (from : ℕ) (xs : List X) (es : List ℕ) → ends_rise from es (from + length xs) ≡ true → joined (cut from xs es) ≡ xs
joined-cut from xs [] h = let z : length xs ≡ 0 = grind (arith, nat_tests) in sym (empty_of xs z)
joined-cut from xs (e ∷ es) h =
    let a : from ≤ e = grind (arith, nat_tests) in
    let k : ends_rise e es (from + length xs) ≡ true = grind (arith, nat_tests) in
    let b = ends_below e es (from + length xs) k in
    let l = length-drop (e - from) xs in
    let n : from + length xs ≡ e + length (drop (e - from) xs) = omega arith in
    ap (λ t. take (e - from) xs ++ t) (joined-cut e (drop (e - from) xs) es (sym (ap (ends_rise e es) n) ∙ k)) ∙ take-append-drop (e - from) xs

pub cut_push : {X : Type 0} (from : ℕ) (xs ys : List X) (es : List ℕ) (m : ℕ) → ends_rise from es (from + length xs) ≡ true → m ≡ from + length xs + length ys → cut from (xs ++ ys) (es ++ m ∷ []) ≡ cut from xs es ++ ys ∷ []
cut_push from xs ys [] m h e =
    let z : length xs ≡ 0 = grind (arith, nat_tests) in
    let none = empty_of xs z in
    let n : m - from ≡ length ys = omega arith in
    ap₂ (λ k l. take k (l ++ ys) ∷ []) n none ∙ ap (λ l. l ∷ []) (take_all (length ys) ys (omega arith))
cut_push from xs ys (d ∷ es) m h e =
    let a : from ≤ d = grind (arith, nat_tests) in
    let k : ends_rise d es (from + length xs) ≡ true = grind (arith, nat_tests) in
    let b = ends_below d es (from + length xs) k in
    let l = length-drop (d - from) xs in
    let n : from + length xs ≡ d + length (drop (d - from) xs) = omega arith in
    let le : d - from ≤ length xs = omega arith in
    ap₂ (λ p q. p ∷ cut d q (es ++ m ∷ [])) (take-append-le (d - from) xs ys le) (drop-append-le (d - from) xs ys le)
    ∙ ap (λ q. take (d - from) xs ∷ q) (cut_push d (drop (d - from) xs) ys es m (sym (ap (ends_rise d es) n) ∙ k) (omega arith))
