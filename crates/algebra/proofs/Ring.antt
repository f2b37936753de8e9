-- A ring normaliser for ℤ. An identity of polynomials in several variables is proved in one line, by computation:
--     solve (a ∷ b ∷ []) ((x ⊕ y) ⊗ (x ⊖ y)) (x ⊗ x ⊖ y ⊗ y) tt : (a +ℤ b) *ℤ (a -ℤ b) ≡ a *ℤ a -ℤ b *ℤ b
-- with `x` and `y` for `var 0` and `var 1`.
--     Expr, eval      a polynomial as it is written, and its value where the variables have those of a list
--     Poly, value     its normal form: a sum of terms, sorted by their variables, no coefficient 0; and the normal form's value
--     norm, sound     the normal form, and that it keeps the value
--     Same, solve     the test that the difference of two expressions has the normal form 0, and that they have one value then
--     solve_from      the same from equations (k, l, r): e is f plus the sum of k (l - r), where each l ≡ r
-- An identity is tested by a Bool, and `tt` says that the test passed: to compare two normal forms by `refl` takes antt about fifty
-- times as long. To see what is left of a difference, state `norm (e ⊖ f) ≡ none` and try `refl`.
-- All that computes is an `abbrev`, so that a proof needs no `unfolding` line.
use Rattle.std.proofs.Common.{◌≡◌, ℕ, zero, suc, Bool, true, false, T, leb, List, [], ◌∷◌, get_or, ℤ, pos, negsuc, ◌+ℤ◌, ◌-ℤ◌, ◌*ℤ◌, neg_ℤ, sym, refl, ap, ◌∙◌, subst, ap₂, eqb→eq}
use Prim.Native.Nat.{compare, Ordering}
use lib.Dec.{compare_is_eq}
use lib.IntN.{+ℤ_assoc, +ℤ_idl, +ℤ_idr, +ℤ_invr, -ℤ-+ℤ_cancel, zero-*ℤ, *ℤ-zero, neg_ℤ-+ℤ, *ℤ_comm, *ℤ-one, one}
use Rattle.algebra.proofs.Integers.{*ℤ_assoc, *ℤ-+ℤ, +ℤ-*ℤ, one-*ℤ, neg_ℤ-*ℤ, +ℤ_left_comm, *ℤ_left_comm}

infixl 6 ◌⊕◌ ◌⊖◌
infixl 7 ◌⊗◌
pub data Expr : Type 0 where
  var : ℕ → Expr
  con : ℤ → Expr
  ◌⊕◌ ◌⊖◌ ◌⊗◌ : Expr → Expr → Expr
  ⊝ : Expr → Expr

abbrev pub eval : List ℤ → Expr → ℤ
eval ρ (var i) = get_or ρ i (pos 0)
eval ρ (con z) = z
eval ρ (e ⊕ f) = eval ρ e +ℤ eval ρ f
eval ρ (e ⊖ f) = eval ρ e -ℤ eval ρ f
eval ρ (e ⊗ f) = eval ρ e *ℤ eval ρ f
eval ρ (⊝ e) = neg_ℤ (eval ρ e)

-- ---- the normal form
-- a product of variables is the sorted list of them
abbrev pub put : ℕ → List ℕ → List ℕ
put v [] = v ∷ []
put v (w ∷ ws) = elim (leb v w) [ true ↦ v ∷ w ∷ ws | false ↦ w ∷ put v ws ]

abbrev pub times : List ℕ → List ℕ → List ℕ
times [] ns = ns
times (m ∷ ms) ns = put m (times ms ns)

-- the shorter product first, and of two that are as long the one that is first by its variables: an order that `times ms` keeps
abbrev pub by_length : Ordering → List ℕ → List ℕ → Ordering
by_length o [] [] = o
by_length o [] (n ∷ ns) = Ordering.lt
by_length o (m ∷ ms) [] = Ordering.gt
by_length o (m ∷ ms) (n ∷ ns) = by_length o ms ns

abbrev pub order : List ℕ → List ℕ → Ordering
order [] [] = Ordering.eq
order [] (n ∷ ns) = Ordering.lt
order (m ∷ ms) [] = Ordering.gt
order (m ∷ ms) (n ∷ ns) = elim (compare m n) [ Ordering.lt ↦ by_length Ordering.lt ms ns | Ordering.eq ↦ order ms ns | Ordering.gt ↦ by_length Ordering.gt ms ns ]

pub data Poly : Type 0 where
  none : Poly
  term : ℤ → List ℕ → Poly → Poly

-- a term before the others, unless its coefficient is 0
abbrev pub cons : ℤ → List ℕ → Poly → Poly
cons (pos zero) m p = p
cons (pos (suc k)) m p = term (pos (suc k)) m p
cons (negsuc k) m p = term (negsuc k) m p

-- `merge c m p add q` is the sum of `term c m p` and q, where `add` adds p
abbrev pub merge : ℤ → List ℕ → Poly → (Poly → Poly) → Poly → Poly
merge c m p add none = term c m p
merge c m p add (term d n q) = elim (order m n) [ Ordering.lt ↦ term c m (add (term d n q)) | Ordering.eq ↦ cons (c +ℤ d) m (add q) | Ordering.gt ↦ term d n (merge c m p add q) ]

abbrev pub plus : Poly → Poly → Poly
plus none q = q
plus (term c m p) q = merge c m p (λ r. plus p r) q

abbrev pub minus : Poly → Poly
minus none = none
minus (term c m p) = term (neg_ℤ c) m (minus p)

abbrev pub term_times : ℤ → List ℕ → Poly → Poly
term_times c m none = none
term_times c m (term d n p) = term (c *ℤ d) (times m n) (term_times c m p)

abbrev pub product : Poly → Poly → Poly
product none q = none
product (term c m p) q = plus (term_times c m q) (product p q)

-- a product goes through the terms of its second factor, which is the shorter one in `e ⊗ f ⊗ g`
abbrev pub norm : Expr → Poly
norm (var i) = term (pos 1) (i ∷ []) none
norm (con k) = cons k [] none
norm (e ⊕ f) = plus (norm e) (norm f)
norm (e ⊖ f) = plus (norm e) (minus (norm f))
norm (e ⊗ f) = product (norm f) (norm e)
norm (⊝ e) = minus (norm e)

-- ---- the test of an identity: nothing is left of the difference
abbrev pub vanishes : Poly → Bool
vanishes none = true
vanishes (term c m p) = false

abbrev pub Same : Expr → Expr → Type 0
Same e f = T (vanishes (norm (e ⊖ f)))

-- the sum of k (l - r) over the entries (k, l, r)
abbrev pub combined : List (Expr × Expr × Expr) → Expr
combined [] = con (pos 0)
combined (h ∷ hs) = h.0 ⊗ (h.1 ⊖ h.2) ⊕ combined hs

-- ---- its value
abbrev pub monomial : List ℤ → List ℕ → ℤ
monomial ρ [] = pos 1
monomial ρ (v ∷ vs) = get_or ρ v (pos 0) *ℤ monomial ρ vs

abbrev pub value : List ℤ → Poly → ℤ
value ρ none = pos 0
value ρ (term c m p) = c *ℤ monomial ρ m +ℤ value ρ p

-- ---- it is kept
is_eq : (o : Ordering) → o ≡ Ordering.eq → T (compare_is_eq o)
is_eq o e = subst (λ (o : Ordering). T (compare_is_eq o)) (sym e) tt

by_length_apart : (o : Ordering) (ms ns : List ℕ) → (T (compare_is_eq o) → ⊥) → T (compare_is_eq (by_length o ms ns)) → ⊥
by_length_apart o [] [] h t = h t
by_length_apart o [] (n ∷ ns) h t = t
by_length_apart o (m ∷ ms) [] h t = t
by_length_apart o (m ∷ ms) (n ∷ ns) h t = by_length_apart o ms ns h t

order_eq : (ms ns : List ℕ) → T (compare_is_eq (order ms ns)) → ms ≡ ns
order_eq [] [] t = refl
order_eq [] (n ∷ ns) t = absurd t
order_eq (m ∷ ms) [] t = absurd t
order_eq (m ∷ ms) (n ∷ ns) t = go (compare m n) refl t (order_eq ms ns)
  where
    go : (o : Ordering) → compare m n ≡ o → T (compare_is_eq (elim o [ Ordering.lt ↦ by_length Ordering.lt ms ns | Ordering.eq ↦ order ms ns | Ordering.gt ↦ by_length Ordering.gt ms ns ])) → (T (compare_is_eq (order ms ns)) → ms ≡ ns) → m ∷ ms ≡ n ∷ ns
    go Ordering.lt e t h = absurd (by_length_apart Ordering.lt ms ns (λ u. u) t)
    go Ordering.eq e t h = ap₂ ◌∷◌ (eqb→eq m n (is_eq (compare m n) e)) (h t)
    go Ordering.gt e t h = absurd (by_length_apart Ordering.gt ms ns (λ u. u) t)

-- two sums of two, and two products of two
sums : (a b c d : ℤ) → (a +ℤ b) +ℤ (c +ℤ d) ≡ (a +ℤ c) +ℤ (b +ℤ d)
sums a b c d = +ℤ_assoc a b (c +ℤ d) ∙ ap (λ k. a +ℤ k) (+ℤ_left_comm b c d) ∙ sym (+ℤ_assoc a c (b +ℤ d))

products : (a b c d : ℤ) → (a *ℤ b) *ℤ (c *ℤ d) ≡ (a *ℤ c) *ℤ (b *ℤ d)
products a b c d = *ℤ_assoc a b (c *ℤ d) ∙ ap (λ k. a *ℤ k) (*ℤ_left_comm b c d) ∙ sym (*ℤ_assoc a c (b *ℤ d))

no_difference : (a b : ℤ) → a -ℤ b ≡ pos 0 → a ≡ b
no_difference a b h = sym (-ℤ-+ℤ_cancel a b) ∙ ap (λ k. k +ℤ b) h ∙ +ℤ_idl b

module _ (ρ : List ℤ) where
  put_is : (v : ℕ) (ws : List ℕ) → monomial ρ (put v ws) ≡ get_or ρ v (pos 0) *ℤ monomial ρ ws
  put_is v [] = refl
  put_is v (w ∷ ws) =
      elim (leb v w) as (λ b. monomial ρ (elim b [ true ↦ v ∷ w ∷ ws | false ↦ w ∷ put v ws ]) ≡ get_or ρ v (pos 0) *ℤ (get_or ρ w (pos 0) *ℤ monomial ρ ws)) [
        | true ↦ refl
        | false ↦ ap (λ x. get_or ρ w (pos 0) *ℤ x) (put_is v ws) ∙ *ℤ_left_comm (get_or ρ w (pos 0)) (get_or ρ v (pos 0)) (monomial ρ ws)
      ]

  times_is : (ms ns : List ℕ) → monomial ρ (times ms ns) ≡ monomial ρ ms *ℤ monomial ρ ns
  times_is [] ns = sym (one-*ℤ (monomial ρ ns))
  times_is (m ∷ ms) ns =
      put_is m (times ms ns) ∙ ap (λ x. get_or ρ m (pos 0) *ℤ x) (times_is ms ns) ∙ sym (*ℤ_assoc (get_or ρ m (pos 0)) (monomial ρ ms) (monomial ρ ns))

  cons_is : (c : ℤ) (m : List ℕ) (p : Poly) → value ρ (cons c m p) ≡ c *ℤ monomial ρ m +ℤ value ρ p
  cons_is (pos zero) m p = sym (ap (λ x. x +ℤ value ρ p) (zero-*ℤ (monomial ρ m)) ∙ +ℤ_idl (value ρ p))
  cons_is (pos (suc k)) m p = refl
  cons_is (negsuc k) m p = refl

  merge_is : (c : ℤ) (m : List ℕ) (p : Poly) (add : Poly → Poly) → ((r : Poly) → value ρ (add r) ≡ value ρ p +ℤ value ρ r) → (q : Poly) → value ρ (merge c m p add q) ≡ (c *ℤ monomial ρ m +ℤ value ρ p) +ℤ value ρ q
  merge_is c m p add h none = sym (+ℤ_idr (c *ℤ monomial ρ m +ℤ value ρ p))
  merge_is c m p add h (term d n q) = go (order m n) refl (merge_is c m p add h q)
    where
      go : (o : Ordering) → order m n ≡ o → value ρ (merge c m p add q) ≡ (c *ℤ monomial ρ m +ℤ value ρ p) +ℤ value ρ q → value ρ (elim o [ Ordering.lt ↦ term c m (add (term d n q)) | Ordering.eq ↦ cons (c +ℤ d) m (add q) | Ordering.gt ↦ term d n (merge c m p add q) ]) ≡ (c *ℤ monomial ρ m +ℤ value ρ p) +ℤ (d *ℤ monomial ρ n +ℤ value ρ q)
      go Ordering.lt e g = ap (λ k. c *ℤ monomial ρ m +ℤ k) (h (term d n q)) ∙ sym (+ℤ_assoc (c *ℤ monomial ρ m) (value ρ p) (d *ℤ monomial ρ n +ℤ value ρ q))
      go Ordering.eq e g =
          cons_is (c +ℤ d) m (add q) ∙ ap₂ ◌+ℤ◌ (+ℤ-*ℤ c d (monomial ρ m)) (h q)
          ∙ sums (c *ℤ monomial ρ m) (d *ℤ monomial ρ m) (value ρ p) (value ρ q)
          ∙ ap (λ (k : List ℕ). (c *ℤ monomial ρ m +ℤ value ρ p) +ℤ (d *ℤ monomial ρ k +ℤ value ρ q)) (order_eq m n (is_eq (order m n) e))
      go Ordering.gt e g = ap (λ k. d *ℤ monomial ρ n +ℤ k) g ∙ +ℤ_left_comm (d *ℤ monomial ρ n) (c *ℤ monomial ρ m +ℤ value ρ p) (value ρ q)

  plus_is : (p q : Poly) → value ρ (plus p q) ≡ value ρ p +ℤ value ρ q
  plus_is none q = sym (+ℤ_idl (value ρ q))
  plus_is (term c m p) q = merge_is c m p (λ r. plus p r) (plus_is p) q

  minus_is : (p : Poly) → value ρ (minus p) ≡ neg_ℤ (value ρ p)
  minus_is none = refl
  minus_is (term c m p) = ap₂ ◌+ℤ◌ (neg_ℤ-*ℤ c (monomial ρ m)) (minus_is p) ∙ sym (neg_ℤ-+ℤ (c *ℤ monomial ρ m) (value ρ p))

  term_times_is : (c : ℤ) (m : List ℕ) (q : Poly) → value ρ (term_times c m q) ≡ (c *ℤ monomial ρ m) *ℤ value ρ q
  term_times_is c m none = sym (*ℤ-zero (c *ℤ monomial ρ m))
  term_times_is c m (term d n q) =
      ap₂ ◌+ℤ◌ (ap (λ k. (c *ℤ d) *ℤ k) (times_is m n) ∙ products c d (monomial ρ m) (monomial ρ n)) (term_times_is c m q)
      ∙ sym (*ℤ-+ℤ (c *ℤ monomial ρ m) (d *ℤ monomial ρ n) (value ρ q))

  product_is : (p q : Poly) → value ρ (product p q) ≡ value ρ p *ℤ value ρ q
  product_is none q = sym (zero-*ℤ (value ρ q))
  product_is (term c m p) q =
      plus_is (term_times c m q) (product p q) ∙ ap₂ ◌+ℤ◌ (term_times_is c m q) (product_is p q) ∙ sym (+ℤ-*ℤ (c *ℤ monomial ρ m) (value ρ p) (value ρ q))

  pub sound : (e : Expr) → eval ρ e ≡ value ρ (norm e)
  unfolding one
  sound (var i) = sym (+ℤ_idr (pos 1 *ℤ (get_or ρ i (pos 0) *ℤ pos 1)) ∙ one-*ℤ (get_or ρ i (pos 0) *ℤ pos 1) ∙ *ℤ-one (get_or ρ i (pos 0)))
  sound (con z) = sym (cons_is z [] none ∙ +ℤ_idr (z *ℤ pos 1) ∙ *ℤ-one z)
  sound (e ⊕ f) = ap₂ ◌+ℤ◌ (sound e) (sound f) ∙ sym (plus_is (norm e) (norm f))
  sound (e ⊖ f) = ap₂ ◌+ℤ◌ (sound e) (ap neg_ℤ (sound f) ∙ sym (minus_is (norm f))) ∙ sym (plus_is (norm e) (minus (norm f)))
  sound (e ⊗ f) = ap₂ ◌*ℤ◌ (sound e) (sound f) ∙ *ℤ_comm (value ρ (norm e)) (value ρ (norm f)) ∙ sym (product_is (norm f) (norm e))
  sound (⊝ e) = ap neg_ℤ (sound e) ∙ sym (minus_is (norm e))

  gone : (p : Poly) → T (vanishes p) → value ρ p ≡ pos 0
  gone none t = refl
  gone (term c m p) t = absurd t

  pub solve : (e f : Expr) → Same e f → eval ρ e ≡ eval ρ f
  solve e f t = no_difference (eval ρ e) (eval ρ f) (sound (e ⊖ f) ∙ gone (norm (e ⊖ f)) t)

  -- from equations that hold where the variables have these values
  abbrev pub Hold : List (Expr × Expr × Expr) → Type 0
  Hold [] = Unit {0}
  Hold (h ∷ hs) = (eval ρ h.1 ≡ eval ρ h.2) × Hold hs

  combined_is : (hs : List (Expr × Expr × Expr)) → Hold hs → eval ρ (combined hs) ≡ pos 0
  combined_is [] t = refl
  combined_is (h ∷ hs) t =
      let k : ℤ = eval ρ h.0 in
      let zero_left : eval ρ h.1 -ℤ eval ρ h.2 ≡ pos 0 = ap (λ a. a -ℤ eval ρ h.2) t.0 ∙ +ℤ_invr (eval ρ h.2) in
      ap₂ ◌+ℤ◌ (ap (λ a. k *ℤ a) zero_left ∙ *ℤ-zero k) (combined_is hs t.1)

  pub solve_from : (hs : List (Expr × Expr × Expr)) → Hold hs → (e f : Expr) → Same e (f ⊕ combined hs) → eval ρ e ≡ eval ρ f
  solve_from hs h e f t = solve e (f ⊕ combined hs) t ∙ ap (λ a. eval ρ f +ℤ a) (combined_is hs h) ∙ +ℤ_idr (eval ρ f)
