-- Where the faces begin and end, by the numbers that are kept.
use Rattle.std.proofs.Common.{◌≡◌, ℕ, zero, suc, ◌+◌, ◌-◌, ◌<◌, ◌≤◌, true, List, [], ◌∷◌, map, length, get_or, take, drop, vec_items, vec_len, sym, ap, ◌∙◌, subst, inl, inr, arith, length-drop}
use Rattle.std.proofs.lemmas.List.{length-take-le, length-map}
use Rattle.std.proofs.lemmas.Bool.{cases_lt}
use Rattle.std.proofs.lemmas.Bool.Decides.{nat_tests}
use Rattle.solid.specs.Corners.{corner_of, ring_of}
use Rattle.solid.specs.Places.{first_place, Home}
use Rattle.solid.specs.declared.Corner.{Corner as StoredCorner}
use Rattle.faces.specs.Cuts.{ends_rise, cut}
use Rattle.faces.specs.Held.{stored_corners, stored_rings, rings}
use Rattle.faces.specs.declared.held.Faces.{Faces}
use Rattle.faces.proofs.Cuts.{ends_below}
use Rattle.faces.proofs.Pushes.{whole, face_count, corner_count}

-- the ends go up
ends_rise_lem : (from : ℕ) (es : List ℕ) (n : ℕ) → ends_rise from es n ≡ true → (i : ℕ) → i < length es → (from ≤ get_or es i 0) × (get_or es i 0 ≤ n)
ends_rise_lem from [] n h i l = absurd (omega arith)
ends_rise_lem from (e ∷ es) n h zero l =
    let a : from ≤ e = grind (arith, nat_tests) in
    (a, ends_below e es n (grind (arith, nat_tests)))
ends_rise_lem from (e ∷ es) n h (suc i) l =
    let a : from ≤ e = grind (arith, nat_tests) in
    let k = ends_rise_lem e es n (grind (arith, nat_tests)) i (omega arith) in
    (omega (arith, a, k.0), k.1)

ends_order : (from : ℕ) (es : List ℕ) (n : ℕ) → ends_rise from es n ≡ true → (i j : ℕ) → i ≤ j → j < length es → get_or es i 0 ≤ get_or es j 0
ends_order from [] n h i j l m = absurd (omega arith)
ends_order from (e ∷ es) n h zero zero l m = omega arith
ends_order from (e ∷ es) n h zero (suc j) l m = (ends_rise_lem e es n (grind (arith, nat_tests)) j (omega arith)).0
ends_order from (e ∷ es) n h (suc i) zero l m = absurd (omega arith)
ends_order from (e ∷ es) n h (suc i) (suc j) l m = ends_order e es n (grind (arith, nat_tests)) i j (omega arith) (omega arith)

-- the last end is the length
ends_last : (from : ℕ) (es : List ℕ) (n : ℕ) → ends_rise from es n ≡ true → (p : ℕ) → from ≤ p → p < n → ((i : ℕ) → i < length es → get_or es i 0 ≤ p) → ⊥
ends_last from [] n h p l m all = let e : from ≡ n = grind (arith, nat_tests) in omega arith
ends_last from (e ∷ es) n h p l m all = ends_last e es n (grind (arith, nat_tests)) p (all 0 (omega arith)) m (λ i k. all (suc i) (omega arith))

-- a face begins where the one before it ends
first_cut : (from : ℕ) (xs : List StoredCorner) (es : List ℕ) → ends_rise from es (from + length xs) ≡ true → (f : ℕ) → f ≤ length es → first_place (map ring_of (cut from xs es)) f + from ≡ get_or (from ∷ es) f 0
first_cut from xs es h zero l = omega arith
first_cut from xs [] h (suc f) l = absurd (omega arith)
first_cut from xs (e ∷ es) h (suc f) l =
    let a : from ≤ e = grind (arith, nat_tests) in
    let k : ends_rise e es (from + length xs) ≡ true = grind (arith, nat_tests) in
    let b = ends_below e es (from + length xs) k in
    let d = length-drop (e - from) xs in
    let n : from + length xs ≡ e + length (drop (e - from) xs) = omega arith in
    let long = length-map (take (e - from) xs) corner_of ∙ length-take-le (e - from) xs (omega arith) in
    let rest = first_cut e (drop (e - from) xs) es (sym (ap (ends_rise e es) n) ∙ k) f (omega arith) in
    omega (arith, long, rest, a)

module _ (f : Faces) where
  first_end : (i : ℕ) → i ≤ length (vec_items f.ends) → first_place (rings f) i ≡ get_or (0 ∷ vec_items f.ends) i 0
  first_end i l = let h = first_cut 0 (vec_items f.corners) (vec_items f.ends) (whole f) i l in omega (arith, h)

  pub first_here : (i : ℕ) → i < vec_len f.ends → first_place (rings f) (suc i) ≡ get_or (vec_items f.ends) i 0
  first_here i l = first_end (suc i) (omega (arith, f.ends.ok.0))

  pub place_rise : (i j : ℕ) → i ≤ j → j < vec_len f.ends → get_or (vec_items f.ends) i 0 ≤ get_or (vec_items f.ends) j 0
  place_rise i j l m = ends_order 0 (vec_items f.ends) (vec_len f.corners) f.rise i j l (omega (arith, f.ends.ok.0))

  pub home_found : (p i : ℕ) → p < length (stored_corners f) → i ≤ vec_len f.ends → ((k : ℕ) → k < i → get_or (vec_items f.ends) k 0 ≤ p) → ((k : ℕ) → i ≤ k → k < vec_len f.ends → p < get_or (vec_items f.ends) k 0) → Home (rings f) p i
  home_found p i l m before after = record {
    face = omega (arith, within, face_count f, length-map (stored_rings f) ring_of);
    from = from i before within;
    below = subst (λ n. p < n) (sym (first_here i within)) (after i (omega arith) within);
  }
    where
      within : i < vec_len f.ends
      within = elim (cases_lt i (vec_len f.ends)) [
        | inl a ↦ a
        | inr b ↦ absurd (ends_last 0 (vec_items f.ends) (vec_len f.corners) f.rise p (omega arith) (omega (arith, corner_count f)) (λ k j. before k (omega (arith, f.ends.ok.0))))
      ]

      from : (i : ℕ) → ((k : ℕ) → k < i → get_or (vec_items f.ends) k 0 ≤ p) → i < vec_len f.ends → first_place (rings f) i ≤ p
      from zero before within = omega arith
      from (suc i) before within = subst (λ n. n ≤ p) (sym (first_here i (omega arith))) (before i (omega arith))
