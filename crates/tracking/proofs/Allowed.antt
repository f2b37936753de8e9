-- The corners of a ring, one after the other: which are allowed, and which is the first that is not.
use Rattle.std.proofs.Common.{◌≡◌, ◌≢◌, ℕ, zero, suc, ◌+◌, ◌<◌, List, [], ◌∷◌, ◌++◌, map, length, get_or, take, sym, refl, ap, ◌∙◌, subst, inl, inr, append_assoc, append-nil, arith}
use Rattle.std.proofs.lemmas.List.{length-map}
use Rattle.solid.specs.Corners.{corner_of, ring_of}
use Rattle.solid.specs.Entering.{Allowed, AllAllowed, FirstMisfit}
use Rattle.solid.specs.Faces.{Corner, Ring}
use Rattle.solid.specs.Lists.{In}
use Rattle.solid.specs.Rules.{Valid}
use Rattle.solid.specs.declared.Corner.{Corner as StoredCorner}
use Rattle.solid.proofs.Members.{in_append, in_map}
use Rattle.solid.proofs.Answered.{key_in}
use Rattle.ring.specs.Places.{blank, corner}
use Rattle.ring.proofs.Places.{corner_at}
use Rattle.tracking.proofs.Grows.{pairs_more}
use Rattle.tracking.specs.Tests.{Apart, AgreesWith}

-- ---- one corner
module _ (fs : List Ring) (before : List Corner) (c : Corner) where
  pub allowed_from : Valid c → Apart before c → AgreesWith fs c → Allowed fs before c
  allowed_from valid apart agree = record {
    valid = valid;
    once = λ h. (let k = key_in c.key before h in (apart k.0 k.1).0 (sym k.2));
    agree = λ d h. elim h [
      | inl b ↦ (λ e. absurd ((apart d b).0 (sym e)), λ e. absurd ((apart d b).1 (sym e)))
      | inr f ↦ agree d f
    ];
  }

  pub allowed_apart : Allowed fs before c → Apart before c
  allowed_apart h d i = (once, λ e. once (sym ((h.agree d (inl i)).1 (sym e))))
    where
      once : d.key ≡ c.key → ⊥
      once e = h.once (subst (λ k. In k (map (λ (x : Corner). x.key) before)) e (in_map (λ (x : Corner). x.key) d before i))

-- the corners before the next one are those before this one, and this one
pub apart_more : (r : List StoredCorner) (i : ℕ) (c : Corner) → i < length r → Apart (ring_of (take i r)) c → ((corner r i).key ≢ c.key) × ((corner r i).position ≢ c.position) → Apart (ring_of (take (i + 1) r)) c
apart_more r i c l before here d h = elim (in_append d (ring_of (take i r)) (corner r i ∷ []) (subst (In d) (pairs_more corner_of r i blank l) h)) [
  | inl old ↦ before d old
  | inr (inl e) ↦ (λ k. here.0 (sym (ap (λ (x : Corner). x.key) e) ∙ k), λ p. here.1 (sym (ap (λ (x : Corner). x.position) e) ∙ p))
  | inr (inr none) ↦ absurd none
]

-- ---- all corners
module _ (fs : List Ring) (d : Corner) where
  all_from : (b : List Corner) (r : Ring) → ((i : ℕ) → i < length r → Allowed fs (b ++ take i r) (get_or r i d)) → AllAllowed fs b r
  all_from b [] h = tt
  all_from b (c ∷ cs) h = (
    subst (λ (t : List Corner). Allowed fs t c) (append-nil b) (h 0 (omega arith)),
    all_from (b ++ c ∷ []) cs (λ i l. subst (λ (t : List Corner). Allowed fs t (get_or cs i d)) (sym (append_assoc b (c ∷ []) (take i cs))) (h (suc i) (omega arith))),
  )

  first_from : (b : List Corner) (r : Ring) (i : ℕ) → i < length r → ((j : ℕ) → j < i → Allowed fs (b ++ take j r) (get_or r j d)) → (Allowed fs (b ++ take i r) (get_or r i d) → ⊥) → FirstMisfit fs b r (get_or r i d).key
  first_from b [] i l h n = absurd (omega arith)
  first_from b (c ∷ cs) zero l h n = inl (λ a. n (subst (λ (t : List Corner). Allowed fs t c) (sym (append-nil b)) a), refl)
  first_from b (c ∷ cs) (suc i) l h n = inr (
    subst (λ (t : List Corner). Allowed fs t c) (append-nil b) (h 0 (omega arith)),
    first_from (b ++ c ∷ []) cs i (omega arith) (λ j m. subst (λ (t : List Corner). Allowed fs t (get_or cs j d)) (sym (append_assoc b (c ∷ []) (take j cs))) (h (suc j) (omega arith)))
        (λ a. n (subst (λ (t : List Corner). Allowed fs t (get_or cs i d)) (append_assoc b (c ∷ []) (take i cs)) a)),
  )

module _ (fs : List Ring) (r : List StoredCorner) where
  abbrev pub AllowedAt : ℕ → Type 0
  AllowedAt i = Allowed fs (take i (ring_of r)) (corner r i)

  at : (i : ℕ) → i < length r → AllowedAt i → Allowed fs ([] ++ take i (ring_of r)) (get_or (ring_of r) i (corner_of blank))
  at i l a = subst (λ c. Allowed fs (take i (ring_of r)) c) (sym (corner_at r (corner_of blank) i l)) a

  pub all_allowed : ((i : ℕ) → i < length r → AllowedAt i) → AllAllowed fs [] (ring_of r)
  all_allowed h = all_from fs (corner_of blank) [] (ring_of r) (λ i l. let m : i < length r = omega (arith, length-map r corner_of) in at i m (h i m))

  pub first_misfit : (i : ℕ) → i < length r → ((j : ℕ) → j < i → AllowedAt j) → (AllowedAt i → ⊥) → FirstMisfit fs [] (ring_of r) (corner r i).key
  first_misfit i l h n =
      subst (λ c. FirstMisfit fs [] (ring_of r) c.key) (corner_at r (corner_of blank) i l)
      (first_from fs (corner_of blank) [] (ring_of r) i (omega (arith, length-map r corner_of)) (λ j m. at j (omega arith) (h j m)) (λ a. n (subst (λ c. Allowed fs (take i (ring_of r)) c) (corner_at r (corner_of blank) i l) a)))
