-- Each outcome of the tests in order, from what the tests before it found.
use Rattle.std.proofs.Common.{◌≡◌, ℕ, ◌+◌, ◌≤◌, List, [], ◌∷◌, ◌++◌, length, Ok, Err, sym, refl, ap, subst, inl, inr}
use Rattle.std.proofs.lemmas.List.{length-map}
use Rattle.fault.specs.declared.shape.ShapeFault.TheVariants.{CornerCount, Corner as BadCorner, NotPlanar, Crossing, EdgeTwice, Full}
use Rattle.solid.specs.Corners.{corner_of, ring_of}
use Rattle.solid.specs.Entering.{AllAllowed, FirstMisfit, FirstIn, EnterSays}
use Rattle.solid.specs.Faces.{Corner, Ring, Edge, edges, all_edges}
use Rattle.solid.specs.Lists.{In}
use Rattle.solid.specs.Rules.{Sized, Planar, Simple, Fresh, Limits}
use Rattle.solid.specs.declared.Corner.{Corner as StoredCorner}
use Rattle.tracking.specs.Tests.{FirstRepeated}

pub sized : (r : List StoredCorner) → 3 ≤ length r → length r ≤ 64 → Sized (ring_of r)
sized r h k = (subst (λ n. 3 ≤ n) (sym (length-map r corner_of)) h, subst (λ n. n ≤ 64) (sym (length-map r corner_of)) k)

misfit_not : (fs : List Ring) (b : List Corner) (r : Ring) (k : ℕ) → FirstMisfit fs b r k → AllAllowed fs b r → ⊥
misfit_not fs b [] k m a = m
misfit_not fs b (c ∷ cs) k (inl m) a = m.0 a.0
misfit_not fs b (c ∷ cs) k (inr m) a = misfit_not fs (b ++ c ∷ []) cs k m.1 a.1

repeated_in : (others es : List Edge) (e : Edge) → FirstIn others es e → In e es × In e others
repeated_in others [] e h = absurd h
repeated_in others (f ∷ es) e (inl h) = (inl h.1, subst (λ x. In x others) (sym h.1) h.0)
repeated_in others (f ∷ es) e (inr h) = let k = repeated_in others es e h.1 in (inr k.0, k.1)

module _ (fs : List Ring) (r : Ring) (n : ℕ) (face : n ≡ length fs + 1) where
  pub says_count : (Sized r → ⊥) → EnterSays fs r (Err (CornerCount n))
  says_count fails = inl (fails, (ap (λ m. Err (CornerCount m)) face, refl))

  module _ (size : Sized r) where
    pub says_misfit : (k : ℕ) → FirstMisfit fs [] r k → EnterSays fs r (Err (BadCorner n k))
    says_misfit k m = inr (size, inl (misfit_not fs [] r k m, (k, m, (ap (λ m. Err (BadCorner m k)) face, refl))))

    module _ (allowed : AllAllowed fs [] r) where
      pub says_not_planar : (Planar r → ⊥) → EnterSays fs r (Err (NotPlanar n))
      says_not_planar fails = inr (size, inr (allowed, inl (fails, (ap (λ m. Err (NotPlanar m)) face, refl))))

      module _ (planar : Planar r) where
        pub says_crossing : (Simple r → ⊥) → EnterSays fs r (Err (Crossing n))
        says_crossing fails = inr (size, inr (allowed, inr (planar, inl (fails, (ap (λ m. Err (Crossing m)) face, refl)))))

        module _ (simple : Simple r) where
          pub says_twice : (a b : ℕ) → FirstRepeated fs r (a, b) → EnterSays fs r (Err (EdgeTwice n a b))
          says_twice a b h =
              let e = h.0 in
              let k = repeated_in (all_edges fs) (edges r) e h.1 in
              inr (size, inr (allowed, inr (planar, inr (simple, inl (λ fresh. fresh e k.0 k.1, (e, h.1, ((λ i. Err (EdgeTwice (face i) (h.2 i) (h.3 i))), refl)))))))

          module _ (fresh : Fresh fs r) where
            pub says_full : (Limits (fs ++ r ∷ []) → ⊥) → EnterSays fs r (Err (Full n))
            says_full fails = inr (size, inr (allowed, inr (planar, inr (simple, inr (fresh, inl (fails, (ap (λ m. Err (Full m)) face, refl)))))))

            pub says_taken : Limits (fs ++ r ∷ []) → EnterSays fs r (Ok tt)
            says_taken limits = inr (size, inr (allowed, inr (planar, inr (simple, inr (fresh, inr (limits, refl))))))
