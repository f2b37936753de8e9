-- One bit of a word, and how many of its bits are set.
use Rattle.std.proofs.Common.{◌≡◌, ℕ, zero, suc, ◌+◌, ◌-◌, ◌*◌, ◌/◌, ◌%◌, ◌^◌, ◌<◌, ◌≤◌, max, Bool, true, false, cond, eqb, List, [], ◌∷◌, ◌++◌, length, get_or, take, set, replicate, sym, refl, ap, ◌∙◌, ap₂, ⊎_elim, pow-suc, arith, lit<, length-append}
use lib.Bits.{bit_or, or_step, or_zero_r}
use lib.Count.{ones, ones_step}
use Rattle.std.proofs.lemmas.Bool.{cases_lt}
use Rattle.std.proofs.lemmas.Nat.{shr-shr, div-mul-add, mod-mul-add, mod_below}
use Rattle.std.proofs.lemmas.List.{set-append_left, set-append_right, get_or_append_left, get_or-append_right}
use Rattle.std.proofs.lemmas.Bool.Decides.{nat_tests}
use Rattle.marks.specs.Bits.{bits, members, ones_of}
use Rattle.marks.specs.declared.Marks.{Marks}

pub length_bits : (k w : ℕ) → length (bits k w) ≡ k
unfolding bits
length_bits zero w = refl
length_bits (suc k) w = ap suc (length_bits k (w / 2))

pub bits_at : (k w j : ℕ) → j < k → get_or (bits k w) j false ≡ eqb (w / 2 ^ j % 2) 1
unfolding bits
bits_at zero w j h = absurd (omega arith)
bits_at (suc k) w zero h = let z : w / 1 ≡ w = omega arith in ap (λ n. eqb (n % 2) 1) (sym z)
bits_at (suc k) w (suc j) h = bits_at k (w / 2) j (omega arith) ∙ ap (λ n. eqb (n % 2) 1) (shr-shr w 1 j ∙ ap (λ n. w / 2 ^ n) (omega arith))

-- the lowest bit and the rest of a union
or_low : (a b : ℕ) → bit_or a b % 2 ≡ max (a % 2) (b % 2)
or_low a b = let s = or_step a b in let p = mod_below a 2 (lit< tt) in let q = mod_below b 2 (lit< tt) in
    ap (λ n. n % 2) s ∙ mod-mul-add (bit_or (a / 2) (b / 2)) 2 (max (a % 2) (b % 2)) (omega arith)

or_rest : (a b : ℕ) → bit_or a b / 2 ≡ bit_or (a / 2) (b / 2)
or_rest a b = let s = or_step a b in let p = mod_below a 2 (lit< tt) in let q = mod_below b 2 (lit< tt) in
    ap (λ n. n / 2) s ∙ div-mul-add (bit_or (a / 2) (b / 2)) 2 (max (a % 2) (b % 2)) (omega arith)

pow_low : (j : ℕ) → 2 ^ suc j % 2 ≡ 0
pow_low j = omega (arith, pow-suc 2 j)

pow_rest : (j : ℕ) → 2 ^ suc j / 2 ≡ 2 ^ j
pow_rest j = omega (arith, pow-suc 2 j)

pub bits-set : (k w j : ℕ) → j < k → bits k (bit_or w (2 ^ j)) ≡ set (bits k w) j true
unfolding bits
bits-set zero w j h = absurd (omega arith)
bits-set (suc k) w zero h =
    let p = mod_below w 2 (lit< tt) in
    let one : max (w % 2) 1 ≡ 1 = omega arith in
    ap₂ (λ n m. eqb n 1 ∷ bits k m) (or_low w 1 ∙ one) (or_rest w 1 ∙ or_zero_r (w / 2))
bits-set (suc k) w (suc j) h =
    let p = mod_below w 2 (lit< tt) in
    let low : bit_or w (2 ^ suc j) % 2 ≡ w % 2 = omega (arith, or_low w (2 ^ suc j), pow_low j) in
    ap₂ (λ n m. eqb n 1 ∷ bits k m) low (or_rest w (2 ^ suc j) ∙ ap (bit_or (w / 2)) (pow_rest j))
    ∙ ap (λ l. eqb (w % 2) 1 ∷ l) (bits-set k (w / 2) j (omega arith))

pub bits_count : (k w : ℕ) → w < 2 ^ k → ones_of (bits k w) ≡ ones w
unfolding bits ones
bits_count zero w h = let z : w ≡ 0 = omega arith in rw z
bits_count (suc k) w h =
    let p = mod_below w 2 (lit< tt) in
    let low : cond (eqb (w % 2) 1) 1 0 ≡ w % 2 = grind (arith, nat_tests) in
    let rest = bits_count k (w / 2) (omega (arith, pow-suc 2 k)) in
    omega (arith, low, rest, ones_step w)

pub length_members : (ws : List ℕ) → length (members ws) ≡ 64 * length ws
length_members [] = refl
length_members (w ∷ ws) = let a = length-append (bits 64 w) (members ws) in let b = length_bits 64 w in let r = length_members ws in omega arith

-- the word and the bit of an index, past the first word
word_past : (i : ℕ) → 64 ≤ i → i / 64 ≡ suc ((i - 64) / 64)
word_past i h = omega arith

bit_past : (i : ℕ) → 64 ≤ i → i % 64 ≡ (i - 64) % 64
bit_past i h = omega arith

module _ (w : ℕ) (ws : List ℕ) (i : ℕ) where
  at_first : i < 64 → get_or (members (w ∷ ws)) i false ≡ get_or (bits 64 (get_or (w ∷ ws) (i / 64) 0)) (i % 64) false
  at_first k =
      let z : i / 64 ≡ 0 = omega arith in
      let m : i % 64 ≡ i = omega arith in
      let l : i < length (bits 64 w) = omega (arith, length_bits 64 w) in
      rw (z, m) (get_or_append_left (bits 64 w) (members ws) false i l)

  at_past : 64 ≤ i → get_or (members ws) (i - 64) false ≡ get_or (bits 64 (get_or ws ((i - 64) / 64) 0)) ((i - 64) % 64) false → get_or (members (w ∷ ws)) i false ≡ get_or (bits 64 (get_or (w ∷ ws) (i / 64) 0)) (i % 64) false
  at_past k rest =
      get_or-append_right (bits 64 w) (members ws) 64 i false (length_bits 64 w) k
      ∙ rest
      ∙ ap₂ (λ q r. get_or (bits 64 (get_or (w ∷ ws) q 0)) r false) (sym (word_past i k)) (sym (bit_past i k))

  module _ (v : ℕ) (e : bits 64 v ≡ set (bits 64 (get_or (w ∷ ws) (i / 64) 0)) (i % 64) true) where
    set_first : i < 64 → members (set (w ∷ ws) (i / 64) v) ≡ set (members (w ∷ ws)) i true
    set_first k =
        let z : i / 64 ≡ 0 = omega arith in
        let m : i % 64 ≡ i = omega arith in
        let l : i < length (bits 64 w) = omega (arith, length_bits 64 w) in
        let f : bits 64 v ≡ set (bits 64 w) i true = e ∙ ap₂ (λ q r. set (bits 64 (get_or (w ∷ ws) q 0)) r true) z m in
        ap (λ q. members (set (w ∷ ws) q v)) z ∙ ap (λ b. b ++ members ws) f ∙ sym (set-append_left (bits 64 w) (members ws) i true l)

    set_past : 64 ≤ i → (bits 64 v ≡ set (bits 64 (get_or ws ((i - 64) / 64) 0)) ((i - 64) % 64) true → members (set ws ((i - 64) / 64) v) ≡ set (members ws) (i - 64) true) → members (set (w ∷ ws) (i / 64) v) ≡ set (members (w ∷ ws)) i true
    set_past k rest =
        ap (λ q. members (set (w ∷ ws) q v)) (word_past i k)
        ∙ ap (λ b. bits 64 w ++ b) (rest (e ∙ ap₂ (λ q r. set (bits 64 (get_or (w ∷ ws) q 0)) r true) (word_past i k) (bit_past i k)))
        ∙ sym (set-append_right (bits 64 w) (members ws) 64 i true (length_bits 64 w) k)

pub members_at : (ws : List ℕ) (i : ℕ) → i < 64 * length ws → get_or (members ws) i false ≡ get_or (bits 64 (get_or ws (i / 64) 0)) (i % 64) false
members_at [] i h = absurd (omega arith)
members_at (w ∷ ws) i h = ⊎_elim (at_first w ws i) (λ k. at_past w ws i k (members_at ws (i - 64) (omega arith))) (cases_lt i 64)

pub members-set : (ws : List ℕ) (i v : ℕ) → i < 64 * length ws → bits 64 v ≡ set (bits 64 (get_or ws (i / 64) 0)) (i % 64) true → members (set ws (i / 64) v) ≡ set (members ws) i true
members-set [] i v h e = absurd (omega arith)
members-set (w ∷ ws) i v h e = ⊎_elim (set_first w ws i v e) (λ k. set_past w ws i v e k (members-set ws (i - 64) v (omega arith))) (cases_lt i 64)

pub ones_of-append : (xs ys : List Bool) → ones_of (xs ++ ys) ≡ ones_of xs + ones_of ys
ones_of-append [] ys = omega arith
ones_of-append (x ∷ xs) ys = let h = ones_of-append xs ys in omega arith

-- the members of one word more
pub members_more : (ws : List ℕ) (i : ℕ) → i < length ws → ones_of (members (take (i + 1) ws)) ≡ ones_of (members (take i ws)) + ones_of (bits 64 (get_or ws i 0))
members_more [] i h = absurd (omega arith)
members_more (w ∷ ws) zero h = ones_of-append (bits 64 w) [] ∙ omega arith
members_more (w ∷ ws) (suc i) h =
    let one : suc i + 1 ≡ suc (i + 1) = omega arith in
    ap (λ n. ones_of (members (take n (w ∷ ws)))) one
    ∙ ones_of-append (bits 64 w) (members (take (i + 1) ws))
    ∙ ap (λ n. ones_of (bits 64 w) + n) (members_more ws i (omega arith))
    ∙ omega (arith, ones_of-append (bits 64 w) (members (take i ws)))

zeros : (k j : ℕ) → get_or (bits k 0) j false ≡ false
unfolding bits
zeros zero j = refl
zeros (suc k) zero = refl
zeros (suc k) (suc j) = zeros k j

none_past : (xs ys : List Bool) (i : ℕ) → ((j : ℕ) → get_or xs j false ≡ false) → ((j : ℕ) → get_or ys j false ≡ false) → get_or (xs ++ ys) i false ≡ false
none_past [] ys i f g = g i
none_past (x ∷ xs) ys zero f g = f 0
none_past (x ∷ xs) ys (suc i) f g = none_past xs ys i (λ j. f (suc j)) g

pub none_in : (n i : ℕ) → get_or (members (replicate n 0)) i false ≡ false
none_in zero i = refl
none_in (suc n) i = none_past (bits 64 0) (members (replicate n 0)) i (zeros 64) (none_in n)

-- a set of n words has a bit for each of 64 · n numbers
pub members_long : (n : ℕ) (m : Marks n) → length (members m.words) ≡ 64 * n
members_long n m = length_members m.words ∙ ap (λ k. 64 * k) m.long
