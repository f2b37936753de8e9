-- Open edges by membership: closed faces have none, and so sound faces count the kept volume from every point.
use Rattle.std.proofs.Common.{◌≡◌, Bool, true, false, cond, not, List, [], ◌∷◌, ◌-ℤ◌, filter, sym, refl, ap, ◌∙◌, subst, inl, inr, true≢false}
use lib.IntN.{+ℤ_idr}
use Rattle.algebra.specs.Vector.{V3, dot}
use Rattle.algebra.proofs.Vectors.{dot-null}
use Rattle.solid.specs.Lists.{In, has}
use Rattle.solid.specs.Faces.{Ring, Edge, flip, all_edges, spans, count, kept_volume_of, same_edge, is_open, open_edges_of}
use Rattle.solid.specs.Soundness.{Closed, Sound}
use Rattle.solid.proofs.Cancel.{in_from_has, has_from_in, has_not}
use Rattle.solid.proofs.Tests.{edge_tells}
use Rattle.solid.proofs.Counting.{counts_agree}

-- ---- what a test keeps
module _ {X : Type 0} (p : X → Bool) where
  none_kept : (xs : List X) → ((x : X) → In x xs → p x ≡ false) → filter p xs ≡ []
  none_kept [] h = refl
  none_kept (x ∷ xs) h = ap (λ b. cond b (x ∷ filter p xs) (filter p xs)) (h x (inl refl)) ∙ none_kept xs (λ y i. h y (inr i))

  in_kept : (x : X) (xs : List X) → In x xs → p x ≡ true → In x (filter p xs)
  in_kept x [] i h = absurd i
  in_kept x (y ∷ ys) (inl e) h = subst (λ b. In x (cond b (y ∷ filter p ys) (filter p ys))) (sym h ∙ ap p e) (inl e)
  in_kept x (y ∷ ys) (inr i) h = elim (p y) as (λ b. In x (cond b (y ∷ filter p ys) (filter p ys))) [ true ↦ inr (in_kept x ys i h) | false ↦ in_kept x ys i h ]

  kept_in : (x : X) (xs : List X) → In x (filter p xs) → In x xs × (p x ≡ true)
  kept_in x [] i = absurd i
  kept_in x (y ∷ ys) i = go (p y) refl (kept_in x ys) i
    where
      go : (b : Bool) → p y ≡ b → (In x (filter p ys) → In x ys × (p x ≡ true)) → In x (cond b (y ∷ filter p ys) (filter p ys)) → In x (y ∷ ys) × (p x ≡ true)
      go true e later (inl q) = (inl q, ap p q ∙ e)
      go true e later (inr i) = (inr (later i).0, (later i).1)
      go false e later i = (inr (later i).0, (later i).1)

-- ---- open edges
pub in_open_edges : (fs : List Ring) (e : Edge) → In e (all_edges fs) → (In (flip e) (all_edges fs) → ⊥) → In e (open_edges_of fs)
in_open_edges fs e i out = in_kept (is_open (all_edges fs)) e (all_edges fs) i (ap not (has_not same_edge edge_tells (flip e) (all_edges fs) out))

pub open_edge_in : (fs : List Ring) (e : Edge) → In e (open_edges_of fs) → In e (all_edges fs) × (In (flip e) (all_edges fs) → ⊥)
open_edge_in fs e i =
    let k = kept_in (is_open (all_edges fs)) e (all_edges fs) i in
    (k.0, λ j. true≢false (sym k.1 ∙ ap not (has_from_in same_edge edge_tells (flip e) (all_edges fs) j)))

pub closed_none_open : (fs : List Ring) → Closed fs → open_edges_of fs ≡ []
closed_none_open fs h = none_kept (is_open (all_edges fs)) (all_edges fs) (λ e i. ap not (has_from_in same_edge edge_tells (flip e) (all_edges fs) (h e i)))

pub none_open_closed : (fs : List Ring) → open_edges_of fs ≡ [] → Closed fs
none_open_closed fs h e i = go (has same_edge (flip e) (all_edges fs)) refl
  where
    go : (b : Bool) → has same_edge (flip e) (all_edges fs) ≡ b → In (flip e) (all_edges fs)
    go true q = in_from_has same_edge edge_tells (flip e) (all_edges fs) q
    go false q = absurd (subst (In e) h (in_kept (is_open (all_edges fs)) e (all_edges fs) i (ap not q)))

-- sound faces count the kept volume from every point
pub sound_count : (fs : List Ring) → Sound fs → (q : V3) → count q fs ≡ kept_volume_of fs
sound_count fs h q =
    counts_agree fs h.consistent.once q
    ∙ ap (λ t. kept_volume_of fs -ℤ t) (ap (λ (es : List Edge). dot q (spans es)) (closed_none_open fs h.closed) ∙ dot-null q)
    ∙ +ℤ_idr (kept_volume_of fs)
