-- Walks among faces: they join, turn round where each step does, and so the first face reaches every face exactly when each reaches each.
use Rattle.std.proofs.Common.{◌↔◌, List, [], ◌∷◌, refl, inl}
use Rattle.solid.specs.Lists.{In}
use Rattle.solid.specs.Faces.{Ring, flip}
use Rattle.solid.specs.Soundness.{Walk, here, next, Touch, FromFirst}

module _ (R : Ring → Ring → Type 0) (fs : List Ring) where
  pub walk_join : {r s t : Ring} → Walk R fs r s → Walk R fs s t → Walk R fs r t
  walk_join v here = v
  walk_join v (next w i step) = next (walk_join v w) i step

  pub walk_back : ((r s : Ring) → R r s → R s r) → {r s : Ring} → In r fs → Walk R fs r s → Walk R fs s r × In s fs
  walk_back turn i here = (here, i)
  walk_back turn i (next {s = s} {t = t} w j step) = let b = walk_back turn i w in (walk_join (next here b.1 (turn s t step)) b.0, j)

touch_back : (r s : Ring) → Touch r s → Touch s r
touch_back r s t = (flip t.0, t.2, t.1)

-- the first face reaches every face exactly when each reaches each
pub any_first : (fs : List Ring) → FromFirst fs ↔ ((r s : Ring) → In r fs → In s fs → Walk Touch fs r s)
any_first [] = (λ _ r s i j. absurd i, λ _. tt)
any_first (f ∷ fs) = (
  λ from r s i j. walk_join Touch (f ∷ fs) (walk_back Touch (f ∷ fs) touch_back (inl refl) (from r i)).0 (from s j),
  λ all s i. all f s (inl refl) i,
)
