-- A table that tracks pairs, with one pair more.
use Rattle.std.proofs.Common.{◌≡◌, ◌↔◌, ℕ, suc, ◌+◌, ◌<◌, ◌≤◌, true, false, cond, List, [], ◌∷◌, ◌++◌, map, length, get_or, take, is_some, None, Ok, Err, Result, OnOk, IsErr, sym, refl, ap, ◌∙◌, subst, append_assoc, append-nil, le_trans, arith}
use mathlib.Core.List.{map-append}
use Rattle.std.specs.declared.cmp.Ordering.{Ordering}
use Rattle.std.specs.Cmp.{IsTotalOrder}
use Rattle.std.specs.FinMap.{FinMap, IsAntisymmetric, from_entries, get, contains_key, len}
use Rattle.std.proofs.lemmas.List.{take_more, length-take-le}
use Rattle.solid.specs.Faces.{Edge}
use Rattle.table.specs.Seen.{map_of, insert_new}
use Rattle.table.specs.declared.NoRoom.{NoRoom}
use Rattle.table.specs.declared.Table.{Table}
use Rattle.tracking.specs.Growth.{Grows}
use Rattle.tracking.specs.Tables.{Tracks, end_keys, edge_pairs}
use Rattle.tracking.proofs.Pairs.{from_entries_more, len_insert_new}

module _ {K V : Type 0} {R : K → K → Ordering} (o : IsTotalOrder R) (same : IsAntisymmetric R) where
  pub grows_none : (t : Table K V) → Grows R t [] t
  grows_none t = (λ ps h fit. subst (Tracks R t) (sym (append-nil ps)) h, refl)

  -- what an insertion ensures: a new key is refused exactly where there is no room
  module _ (u w : Table K V) (k : K) (v : V) (r : Result (Unit {0}) NoRoom) (ok : OnOk r (map_of R w ≡ insert_new (map_of R u) k v)) (refuses : IsErr r ↔ ((get (map_of R u) k ≡ None) × (len (map_of R u) ≡ u.room))) where
    tracks_more : (ps : List (K × V)) → Tracks R u ps → len (from_entries {R = R} (ps ++ (k, v) ∷ [])) ≤ u.room → Tracks R w (ps ++ (k, v) ∷ [])
    tracks_more ps h fit = by r ok (refuses.0)
      where
        more : from_entries {R = R} (ps ++ (k, v) ∷ []) ≡ insert_new (map_of R u) k v
        more = from_entries_more o same ps k v ∙ ap (λ m. insert_new m k v) (sym h)

        by : (r : Result (Unit {0}) NoRoom) → OnOk r (map_of R w ≡ insert_new (map_of R u) k v) → (IsErr r → (get (map_of R u) k ≡ None) × (len (map_of R u) ≡ u.room)) → Tracks R w (ps ++ (k, v) ∷ [])
        by (Ok x) done full = done ∙ sym more
        by (Err e) done full =
            let none = full refl in
            let size : len (insert_new (map_of R u) k v) ≡ len (map_of R u) + 1 = len_insert_new o (map_of R u) k v ∙ ap (λ f. cond (is_some f) (len (map_of R u)) (len (map_of R u) + 1)) none.0 in
            absurd (omega (arith, fit, ap len more, size, none.1))

    pub grows_one : w.room ≡ u.room → Grows R u ((k, v) ∷ []) w
    grows_one room = (tracks_more, room)

  at_least : (m : FinMap R V) (k : K) (v : V) → len m ≤ len (insert_new m k v)
  at_least m k v = rw (len_insert_new o m k v) (elim (contains_key m k) as (λ b. len m ≤ cond b (len m) (len m + 1)) [ true ↦ omega arith | false ↦ omega arith ])

  size-append : (ps more : List (K × V)) → len (from_entries {R = R} ps) ≤ len (from_entries {R = R} (ps ++ more))
  size-append ps [] = subst (λ l. len (from_entries {R = R} ps) ≤ len (from_entries {R = R} l)) (sym (append-nil ps)) (omega arith)
  size-append ps (p ∷ more) =
      let one : len (from_entries {R = R} ps) ≤ len (from_entries {R = R} (ps ++ p ∷ [])) = rw (from_entries_more o same ps p.0 p.1) (at_least (from_entries ps) p.0 p.1) in
      subst (λ l. len (from_entries {R = R} ps) ≤ len (from_entries {R = R} l)) (append_assoc ps (p ∷ []) more) (le_trans one (size-append (ps ++ p ∷ []) more))

  -- what grows twice has grown by both
  pub grows_on : (t u w : Table K V) (more rest : List (K × V)) → Grows R t more u → Grows R u rest w → Grows R t (more ++ rest) w
  grows_on t u w more rest g h = (
    λ ps held fit.
        let whole : (ps ++ more) ++ rest ≡ ps ++ (more ++ rest) = append_assoc ps more rest in
        let fit' : len (from_entries {R = R} ((ps ++ more) ++ rest)) ≤ t.room = subst (λ l. len (from_entries {R = R} l) ≤ t.room) (sym whole) fit in
        subst (Tracks R w) whole (h.0 (ps ++ more) (g.0 ps held (le_trans (size-append (ps ++ more) rest) fit')) (subst (λ m. len (from_entries {R = R} ((ps ++ more) ++ rest)) ≤ m) (sym g.1) fit')),
    h.1 ∙ g.1,
  )

-- ---- the pairs so far
pub pairs_more : {X P : Type 0} (pair : X → P) (xs : List X) (i : ℕ) (d : X) → i < length xs → map pair (take (i + 1) xs) ≡ map pair (take i xs) ++ pair (get_or xs i d) ∷ []
pairs_more pair xs i d l = ap (map pair) (take_more xs i d l) ∙ map-append pair (take i xs) (get_or xs i d ∷ [])

edge_pairs_push : (n : ℕ) (es : List Edge) (e : Edge) → edge_pairs n (es ++ e ∷ []) ≡ edge_pairs n es ++ (end_keys e, n + length es) ∷ []
edge_pairs_push n [] e = let zero : n ≡ n + 0 = omega arith in ap (λ m. (end_keys e, m) ∷ []) zero
edge_pairs_push n (x ∷ es) e =
    let next : n + 1 + length es ≡ n + suc (length es) = omega arith in
    ap (λ t. (end_keys x, n) ∷ t) (edge_pairs_push (n + 1) es e ∙ ap (λ m. edge_pairs (n + 1) es ++ (end_keys e, m) ∷ []) next)

pub edge_pairs_more : (n : ℕ) (es : List Edge) (i : ℕ) (d : Edge) → i < length es → edge_pairs n (take (i + 1) es) ≡ edge_pairs n (take i es) ++ (end_keys (get_or es i d), n + i) ∷ []
edge_pairs_more n es i d l =
    let long : length (take i es) ≡ i = length-take-le i es (omega arith) in
    ap (edge_pairs n) (take_more es i d l) ∙ edge_pairs_push n (take i es) (get_or es i d) ∙ ap (λ m. edge_pairs n (take i es) ++ (end_keys (get_or es i d), n + m) ∷ []) long

-- the numbers of one list of edges go on in the next
pub edge_pairs-append : (n : ℕ) (es fs : List Edge) → edge_pairs n (es ++ fs) ≡ edge_pairs n es ++ edge_pairs (n + length es) fs
edge_pairs-append n [] fs = let zero : n ≡ n + 0 = omega arith in ap (λ m. edge_pairs m fs) zero
edge_pairs-append n (e ∷ es) fs =
    let next : n + 1 + length es ≡ n + suc (length es) = omega arith in
    ap (λ t. (end_keys e, n) ∷ t) (edge_pairs-append (n + 1) es fs ∙ ap (λ m. edge_pairs (n + 1) es ++ edge_pairs m fs) next)
