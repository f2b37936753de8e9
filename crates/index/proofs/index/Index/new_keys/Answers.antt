-- The keys that the table has not are counted.
use Rattle.std.proofs.Common.{◌≡◌, ℕ, suc, ◌+◌, Bool, true, false, cond, not, eqb, List, [], ◌∷◌, ◌++◌, map, filter, length, take, is_some, sym, refl, ap, ◌∙◌, rules, arith}
use Rattle.std.proofs.lemmas.List.{take_all, length-map}
use Rattle.std.proofs.lemmas.List.Sums.{length-filter, count_by-le-length}
use Rattle.std.specs.List.{count_by}
use Rattle.std.specs.FinMap.{get}
use Rattle.std.specs.Ordering.{nat_cmp}
use Rattle.solid.specs.Corners.{corner_of, ring_of}
use Rattle.solid.specs.Faces.{Corner}
use Rattle.solid.specs.Lists.{has, kinds}
use Rattle.solid.specs.Rules.{corners}
use Rattle.solid.specs.declared.Corner.{Corner as StoredCorner}
use Rattle.table.specs.Seen.{map_of}
use Rattle.index.specs.Meaning.{faces_of}
use Rattle.tracking.proofs.Edges.{kept_alike}
use Rattle.tracking.proofs.Keys.{found_key, kinds_all, key_count_more}
use Rattle.index.proofs.Meanings.{position_found}
use Rattle.index.proofs.index.Index.new_keys.Goals as goal

-- a test of keys keeps as many keys as corners
by_keys : (p : ℕ → Bool) (r : List StoredCorner) → length (filter (λ (s : StoredCorner). p s.key) r) ≡ length (filter p (map (λ (c : Corner). c.key) (ring_of r)))
by_keys p [] = refl
by_keys p (s ∷ r) = step (p s.key) (filter (λ (t : StoredCorner). p t.key) r) (filter p (map (λ (c : Corner). c.key) (ring_of r))) (by_keys p r)
  where
    step : (b : Bool) (xs : List StoredCorner) (ys : List ℕ) → length xs ≡ length ys → length (cond b (s ∷ xs) xs) ≡ length (cond b (s.key ∷ ys) ys)
    step true xs ys e = ap suc e
    step false xs ys e = e

pub returns : goal.returns
returns c =
    let x = c.args.self.now in
    let r = c.args.ring.now.corners.now in
    let tidy = c.args.ring.now.tidy in
    let ks : List ℕ = map (λ (c : Corner). c.key) (corners (faces_of x)) in
    let ns : List ℕ = map (λ (c : Corner). c.key) (ring_of r) in
    let found : StoredCorner → Bool = λ s. not (is_some (get (map_of nat_cmp x.corners.positions) s.key)) in
    let counted : c.count.result ≡ count_by found r = search rules in
    let same = kept_alike found (λ s. not (has eqb s.key ks)) r (λ s i. ap (λ o. not (is_some o)) (position_found x s.key) ∙ ap not (found_key x.faces s.key)) in
    let new = counted ∙ sym (length-filter found r) ∙ same ∙ by_keys (λ n. not (has eqb n ks)) r in
    let all : take (length ns) ns ≡ ns = take_all (length ns) ns (omega arith) in (
      key_count_more (faces_of x) (ring_of r)
          ∙ sym (ap (λ t. kinds eqb (ks ++ t)) all)
          ∙ kinds_all ks ns tidy.keys (length ns) (omega arith)
          ∙ ap (λ t. kinds eqb ks + length (filter (λ n. not (has eqb n ks)) t)) all
          ∙ ap (λ n. kinds eqb ks + n) (sym new),
      omega (arith, counted, count_by-le-length found r, tidy.sized.1, length-map r corner_of),
    )
