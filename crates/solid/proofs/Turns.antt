-- Faces are consistent exactly when an empty hull takes them one after the other.
use Rattle.std.proofs.Common.{ℕ, ◌≤◌, eqb, ◌⊎◌, ◌↔◌, List, [], ◌∷◌, ◌++◌, map, length, sym, refl, subst, inl, inr, append_assoc, append-nil, le_trans, arith, length-append}
use mathlib.Core.List.{map-append}
use Rattle.solid.specs.Lists.{In, Distinct, kinds}
use Rattle.solid.specs.Faces.{Corner, Ring, Edge, edges, all_edges}
use Rattle.solid.specs.Rules.{corners, key_count_of, Limits, Enterable, InTurn, Consistent}
use Rattle.solid.proofs.Tests.{number_tells}
use Rattle.solid.proofs.Perms.{kinds_before}
use Rattle.solid.proofs.Members.{in_append, in_left, in_right, distinct_apart, all_edges-append, corners-append}
use Rattle.solid.proofs.Rolls.{consistent_none, consistent_more}

-- ---- the faces before some others
keys_before : (fs gs : List Ring) → key_count_of fs ≤ key_count_of (fs ++ gs)
keys_before fs gs =
    subst (λ (cs : List Corner). key_count_of fs ≤ kinds eqb (map (λ (c : Corner). c.key) cs)) (sym (corners-append fs gs))
    (subst (λ (ks : List ℕ). key_count_of fs ≤ kinds eqb ks) (sym (map-append (λ (c : Corner). c.key) (corners fs) (corners gs)))
    (kinds_before eqb number_tells (map (λ (c : Corner). c.key) (corners fs)) (map (λ (c : Corner). c.key) (corners gs))))

limits_before : (fs gs : List Ring) → Limits (fs ++ gs) → Limits fs
limits_before fs gs h = record {
  faces = (let k = h.faces in omega (arith, length-append fs gs));
  keys = le_trans (keys_before fs gs) h.keys;
  edges = (let k = subst (λ (es : List Edge). length es ≤ 3072) (all_edges-append fs gs) h.edges in omega (arith, length-append (all_edges fs) (all_edges gs)));
}

pub consistent_enterable : (fs : List Ring) (r : Ring) (gs : List Ring) → Consistent (fs ++ r ∷ gs) → Enterable fs r
consistent_enterable fs r gs h = record {
  proper = h.proper r (in_right r fs (r ∷ gs) (inl refl));
  agree = λ a b i j. h.agree a b (in_whole a (inl i)) (in_whole b (in_append b r (corners fs) j));
  fresh = λ e i j. distinct_apart (all_edges fs) (edges r ++ all_edges gs) (subst Distinct (all_edges-append fs (r ∷ gs)) h.once) e j (in_left e (edges r) (all_edges gs) i);
  limits = limits_before (fs ++ r ∷ []) gs (subst Limits (sym (append_assoc fs (r ∷ []) gs)) h.limits);
}
  where
    in_whole : (c : Corner) → In c r ⊎ In c (corners fs) → In c (corners (fs ++ r ∷ gs))
    in_whole c i = subst (In c) (sym (corners-append fs (r ∷ gs))) (elim i [
      | inl j ↦ in_right c (corners fs) (r ++ corners gs) (in_left c r (corners gs) j)
      | inr j ↦ in_left c (corners fs) (r ++ corners gs) j
    ])

-- ---- one after the other
forth : (fs rs : List Ring) → Consistent fs → InTurn fs rs → Consistent (fs ++ rs)
forth fs [] h k = subst Consistent (sym (append-nil fs)) h
forth fs (r ∷ rs) h k = subst Consistent (append_assoc fs (r ∷ []) rs) (forth (fs ++ r ∷ []) rs (consistent_more fs r h k.0) k.1)

back : (fs rs : List Ring) → Consistent (fs ++ rs) → InTurn fs rs
back fs [] h = tt
back fs (r ∷ rs) h = (consistent_enterable fs r rs h, back (fs ++ r ∷ []) rs (subst Consistent (sym (append_assoc fs (r ∷ []) rs)) h))

-- faces are consistent exactly when an empty hull takes them one after the other, as a check enters them
pub consistent_in_turn : (fs : List Ring) → InTurn [] fs ↔ Consistent fs
consistent_in_turn fs = (forth [] fs consistent_none, back [] fs)
