-- Entering has one answer, and takes a ring exactly when it may be entered.
use Rattle.std.proofs.Common.{◌≡◌, ℕ, ◌+◌, ◌⊎◌, List, [], ◌∷◌, ◌++◌, map, length, Ok, Err, sym, refl, ap, ◌∙◌, subst, inl, inr}
use Rattle.fault.specs.declared.shape.ShapeFault.TheVariants.{Corner as BadCorner, EdgeTwice}
use Rattle.solid.specs.Lists.{In, Distinct}
use Rattle.solid.specs.Faces.{Corner, Ring, Edge, edges, all_edges}
use Rattle.solid.specs.Rules.{Valid, Sized, Tidy, corners, Agree, Enterable}
use Rattle.solid.specs.Entering.{Entry, AllAllowed, FirstMisfit, FirstIn, EnterSays, entered}
use Rattle.solid.specs.Roll.{Call, enter, Rolls}
use Rattle.solid.proofs.Members.{in_append, in_left, in_right, in_map}
use Rattle.solid.proofs.Ordered.{EachTwo, one_refused, each_or_else, passed, IsOk}
use Rattle.solid.proofs.Rolls.{agree_back}

-- ---- one answer
misfit_one : (fs : List Ring) (b : List Corner) (r : Ring) (k l : ℕ) → FirstMisfit fs b r k → FirstMisfit fs b r l → k ≡ l
misfit_one fs b [] k l p q = absurd p
misfit_one fs b (c ∷ cs) k l (inl p) (inl q) = p.1 ∙ sym q.1
misfit_one fs b (c ∷ cs) k l (inl p) (inr q) = absurd (p.0 q.0)
misfit_one fs b (c ∷ cs) k l (inr p) (inl q) = absurd (q.0 p.0)
misfit_one fs b (c ∷ cs) k l (inr p) (inr q) = misfit_one fs (b ++ c ∷ []) cs k l p.1 q.1

first_one : (others es : List Edge) (e f : Edge) → FirstIn others es e → FirstIn others es f → e ≡ f
first_one others [] e f p q = absurd p
first_one others (g ∷ es) e f (inl p) (inl q) = p.1 ∙ sym q.1
first_one others (g ∷ es) e f (inl p) (inr q) = absurd (q.0 p.0)
first_one others (g ∷ es) e f (inr p) (inl q) = absurd (p.0 q.0)
first_one others (g ∷ es) e f (inr p) (inr q) = first_one others es e f p.1 q.1

pub enter_one : (fs : List Ring) (r : Ring) → EachTwo (EnterSays fs r) ◌≡◌
enter_one fs r =
    each_or_else _ _ _ _ (one_refused _ _)
    (each_or_else _ _ _ _ (λ x y p q. p.2.0 ∙ ap (λ k. Err (BadCorner (length fs + 1) k)) (misfit_one fs [] r p.0 q.0 p.1 q.1) ∙ sym q.2.0)
    (each_or_else _ _ _ _ (one_refused _ _)
    (each_or_else _ _ _ _ (one_refused _ _)
    (each_or_else _ _ _ _ (λ x y p q. p.2.0 ∙ ap (λ (e : Edge). Err (EdgeTwice (length fs + 1) e.0.key e.1.key)) (first_one (all_edges fs) (edges r) p.0 q.0 p.1 q.1) ∙ sym q.2.0)
    (each_or_else _ _ _ _ (one_refused _ _) (λ x y p q. p ∙ sym q))))))

-- corners allowed one after the other, as rules on the whole ring
pub key_in : (k : ℕ) (cs : List Corner) → In k (map (λ (c : Corner). c.key) cs) → (c : Corner) × In c cs × (k ≡ c.key)
key_in k [] i = absurd i
key_in k (c ∷ cs) (inl e) = (c, inl refl, e)
key_in k (c ∷ cs) (inr i) = let h = key_in k cs i in (h.0, inr h.1, h.2)

last_in : (b : List Corner) (c : Corner) → In c (b ++ c ∷ [])
last_in b c = in_right c b (c ∷ []) (inl refl)

module _ (fs : List Ring) where
  pub allowed_valid : (b : List Corner) (r : Ring) → AllAllowed fs b r → (c : Corner) → In c r → Valid c
  allowed_valid b [] h c i = absurd i
  allowed_valid b (d ∷ ds) h c (inl e) = subst Valid (sym e) h.0.valid
  allowed_valid b (d ∷ ds) h c (inr i) = allowed_valid (b ++ d ∷ []) ds h.1 c i

  allowed_new : (b : List Corner) (r : Ring) → AllAllowed fs b r → (c d : Corner) → In c r → In d b → c.key ≡ d.key → ⊥
  allowed_new b [] h c d i j k = i
  allowed_new b (e ∷ es) h c d (inl p) j k =
      h.0.once (subst (λ t. In t (map (λ (c : Corner). c.key) b)) (sym k ∙ ap (λ (c : Corner). c.key) p) (in_map (λ (c : Corner). c.key) d b j))
  allowed_new b (e ∷ es) h c d (inr i) j k = allowed_new (b ++ e ∷ []) es h.1 c d i (in_left d b (e ∷ []) j) k

  pub allowed_keys : (b : List Corner) (r : Ring) → AllAllowed fs b r → Distinct (map (λ (c : Corner). c.key) r)
  allowed_keys b [] h = tt
  allowed_keys b (c ∷ cs) h = (
    λ i. (let k = key_in c.key cs i in allowed_new (b ++ c ∷ []) cs h.1 k.0 c k.1 (last_in b c) (sym k.2)),
    allowed_keys (b ++ c ∷ []) cs h.1,
  )

  pub agree_before : (b : List Corner) (r : Ring) → AllAllowed fs b r → (c d : Corner) → In c r → In d b ⊎ In d (corners fs) → Agree c d
  agree_before b [] h c d i j = absurd i
  agree_before b (e ∷ es) h c d (inl p) j = subst (λ t. Agree t d) (sym p) (h.0.agree d j)
  agree_before b (e ∷ es) h c d (inr i) j =
      agree_before (b ++ e ∷ []) es h.1 c d i (elim j [ inl k ↦ inl (in_left d b (e ∷ []) k) | inr k ↦ inr k ])

  agree_within : (b : List Corner) (r : Ring) → AllAllowed fs b r → (c d : Corner) → In c r → In d r → Agree c d
  agree_within b [] h c d i j = absurd i
  agree_within b (e ∷ es) h c d (inl p) (inl q) = (let same = p ∙ sym q in (λ _. ap (λ (t : Corner). t.position) same, λ _. ap (λ (t : Corner). t.key) same))
  agree_within b (e ∷ es) h c d (inl p) (inr j) =
      agree_back d c (agree_before (b ++ e ∷ []) es h.1 d c j (inl (subst (λ t. In t (b ++ e ∷ [])) (sym p) (last_in b e))))
  agree_within b (e ∷ es) h c d (inr i) (inl q) = agree_before (b ++ e ∷ []) es h.1 c d i (inl (subst (λ t. In t (b ++ e ∷ [])) (sym q) (last_in b e)))
  agree_within b (e ∷ es) h c d (inr i) (inr j) = agree_within (b ++ e ∷ []) es h.1 c d i j

  allowed_all : (b : List Corner) (r : Ring) → ((c : Corner) → In c r → Valid c) → Distinct (map (λ (c : Corner). c.key) r) → ((c d : Corner) → In c r → In d b → c.key ≡ d.key → ⊥) → ((c d : Corner) → In c r → (In d b ⊎ In d r) ⊎ In d (corners fs) → Agree c d) → AllAllowed fs b r
  allowed_all b [] fits keys new agree = tt
  allowed_all b (c ∷ cs) fits keys new agree = (
    record {
      valid = fits c (inl refl);
      once = λ i. (let k = key_in c.key b i in new c k.0 (inl refl) k.1 k.2);
      agree = λ d j. agree c d (inl refl) (elim j [ inl k ↦ inl (inl k) | inr k ↦ inr k ]);
    },
    allowed_all (b ++ c ∷ []) cs (λ d i. fits d (inr i)) keys.1
        (λ d e i j k. elim (in_append e b (c ∷ []) j) [
          | inl l ↦ new d e (inr i) l k
          | inr l ↦ elim l [ inl p ↦ keys.0 (subst (λ t. In t (map (λ (c : Corner). c.key) cs)) (k ∙ ap (λ (c : Corner). c.key) p) (in_map (λ (c : Corner). c.key) d cs i)) | inr n ↦ n ]
        ])
        (λ d e i j. agree d e (inr i) (elim j [
          | inl l ↦ elim l [ inl m ↦ elim (in_append e b (c ∷ []) m) [ inl n ↦ inl (inl n) | inr n ↦ elim n [ inl p ↦ inl (inr (inl p)) | inr z ↦ absurd z ] ] | inr m ↦ inl (inr (inr m)) ]
          | inr l ↦ inr l
        ])),
  )

pub allowed_tidy : (fs : List Ring) (r : Ring) → Sized r → AllAllowed fs [] r → Tidy r
allowed_tidy fs r s h = record { sized = s; valid = allowed_valid fs [] r h; keys = allowed_keys fs [] r h }

-- ---- all tests passed
pub enter_taken : (fs : List Ring) (r : Ring) → EnterSays fs r (Ok tt) → Enterable fs r
enter_taken fs r h =
    let s14 = passed (λ e. subst IsOk e.0 tt) h in
    let s14' = passed (λ e. subst IsOk e.2.0 tt) s14.1 in
    let s15 = passed (λ e. subst IsOk e.0 tt) s14'.1 in
    let s16 = passed (λ e. subst IsOk e.0 tt) s15.1 in
    let s17 = passed (λ e. subst IsOk e.2.0 tt) s16.1 in
    let s18 = passed (λ e. subst IsOk e.0 tt) s17.1 in
    record {
      proper = record { tidy = allowed_tidy fs r s14.0 s14'.0; planar = s15.0; simple = s16.0 };
      agree = λ a b i j. elim (in_append b r (corners fs) j) [ inl k ↦ agree_within fs [] r s14'.0 a b i k | inr k ↦ agree_before fs [] r s14'.0 a b i (inr k) ];
      fresh = s17.0;
      limits = s18.0;
    }

pub taken_allowed : (fs : List Ring) (r : Ring) → EnterSays fs r (Ok tt) → AllAllowed fs [] r
taken_allowed fs r h =
    let s14 = passed (λ e. subst IsOk e.0 tt) h in
    (passed (λ e. subst IsOk e.2.0 tt) s14.1).0

pub enterable_taken : (fs : List Ring) (r : Ring) → Enterable fs r → EnterSays fs r (Ok tt)
enterable_taken fs r h =
    let p = h.proper in
    inr (
      p.tidy.sized,
      inr (
        allowed_all fs [] r p.tidy.valid p.tidy.keys (λ c d i j k. j)
            (λ c d i j. h.agree c d i (elim j [ inl l ↦ elim l [ inl m ↦ absurd m | inr m ↦ in_left d r (corners fs) m ] | inr l ↦ in_right d r (corners fs) l ])),
        inr (p.planar, inr (p.simple, inr (h.fresh, inr (h.limits, refl)))),
      ),
    )

-- what entering says makes the next roll
pub roll_entered : (calls : List Call) (fs : List Ring) (r : Ring) (x : Entry) → Rolls calls fs → EnterSays fs r x → Rolls (enter r ∷ calls) (entered fs r x)
roll_entered calls fs r (Ok done) h s = (fs, h, inl (enter_taken fs r s, refl))
roll_entered calls fs r (Err f) h s = (fs, h, inr (λ e. subst IsOk (enter_one fs r (Ok tt) (Err f) (enterable_taken fs r e) s) tt, refl))
