-- Lists of faces that are alike are sound together, with one certificate.
use Rattle.std.proofs.Common.{◌≡◌, ℕ, suc, ◌/◌, ◌≤◌, eqb, ◌↔◌, List, [], ◌∷◌, length, pos, ◌+ℤ◌, ◌≤ℤ◌, sym, refl, ap, ◌∙◌, subst, ap₂, inl, inr, not-suc-le-zero}
use mathlib.Core.List.Permᴰ
use lib.IntN.{+ℤ_assoc, +ℤ_comm}
use Rattle.solid.specs.Lists.{In}
use Rattle.algebra.specs.Vector.{dot}
use Rattle.solid.specs.Faces.{Corner, Ring, Edge, flip, edges, all_edges, D, start, kept_volume_of}
use Rattle.solid.specs.Rules.{Flat, corners, key_count_of, Consistent, Limits}
use Rattle.solid.specs.Soundness.{Walk, here, next, Touch, Step, HasKey, Round, FromFirst, Sound, certificate}
use Rattle.solid.specs.Alike.{Alike, none, turn, exchange, chain}
use Rattle.solid.proofs.Perms.{Mixed, mixed_both, mixed_fronts, mixed_map, length_mixed, in_mixed, distinct_mixed, kinds_mixed}
use Rattle.solid.proofs.Members.{same_face, some_step}
use Rattle.solid.proofs.Likes.{Like, like_itself, like_back, like_chain, like_from_turned, turned_back, start_like, flat_like, proper_like}
use Rattle.solid.proofs.Counting.{base, kept_is}
use Rattle.solid.proofs.Tests.{number_tells}
use Rattle.solid.proofs.Walks.{any_first}

pub alike_back : {fs gs : List Ring} → Alike fs gs → Alike gs fs
alike_back none = none
alike_back (turn t a) = turn (turned_back t) (alike_back a)
alike_back exchange = exchange
alike_back (chain a b) = chain (alike_back b) (alike_back a)

pub alike_edges : {fs gs : List Ring} → Alike fs gs → Mixed (all_edges fs) (all_edges gs)
alike_edges none = Permᴰ.nil
alike_edges (turn t a) = mixed_both (like_from_turned t).edges (alike_edges a)
alike_edges (exchange {r = r} {s = s} {rs = rs}) = mixed_fronts (edges r) (edges s) (all_edges rs)
alike_edges (chain a b) = Permᴰ.trans (alike_edges a) (alike_edges b)

pub alike_corners : {fs gs : List Ring} → Alike fs gs → Mixed (corners fs) (corners gs)
alike_corners none = Permᴰ.nil
alike_corners (turn t a) = mixed_both (like_from_turned t).corners (alike_corners a)
alike_corners (exchange {r = r} {s = s} {rs = rs}) = mixed_fronts r s (corners rs)
alike_corners (chain a b) = Permᴰ.trans (alike_corners a) (alike_corners b)

pub alike_length : {fs gs : List Ring} → Alike fs gs → length fs ≡ length gs
alike_length none = refl
alike_length (turn t a) = ap suc (alike_length a)
alike_length exchange = refl
alike_length (chain a b) = alike_length a ∙ alike_length b

-- each face of the one is a face of the other, up to its first corner
pub alike_in : {fs gs : List Ring} → Alike fs gs → (r : Ring) → In r fs → (s : Ring) × In s gs × Like r s
alike_in none r i = absurd i
alike_in (turn {s = s} t a) r (inl e) = (s, inl refl, subst (λ (u : Ring). Like u s) (sym e) (like_from_turned t))
alike_in (turn t a) r (inr i) = let k = alike_in a r i in (k.0, inr k.1, k.2)
alike_in exchange r (inl e) = (r, inr (inl e), like_itself r)
alike_in exchange r (inr (inl e)) = (r, inl e, like_itself r)
alike_in exchange r (inr (inr i)) = (r, inr (inr i), like_itself r)
alike_in (chain a b) r i = let k = alike_in a r i in let m = alike_in b k.0 k.1 in (m.0, m.1, like_chain k.2 m.2)

-- ---- the kept volume
base_alike : {fs gs : List Ring} → Alike fs gs → ((r : Ring) → In r fs → Flat r) → base fs ≡ base gs
unfolding base
base_alike none h = refl
base_alike (turn {r = r} {s = s} t a) h = ap₂ ◌+ℤ◌ (sym (start_like r s (like_from_turned t) (h r (inl refl)))) (base_alike a (λ u i. h u (inr i)))
base_alike (exchange {r = r} {s = s} {rs = rs}) h =
    let p = dot (start r) (D r) in
    let q = dot (start s) (D s) in
    sym (+ℤ_assoc p q (base rs)) ∙ ap (λ t. t +ℤ base rs) (+ℤ_comm p q) ∙ +ℤ_assoc q p (base rs)
base_alike (chain a b) h = base_alike a h ∙ base_alike b (λ u i. let k = alike_in (alike_back a) u i in flat_like k.0 u (like_back k.2) (h k.0 k.1))

pub kept_alike : {fs gs : List Ring} → Alike fs gs → ((r : Ring) → In r fs → Flat r) → kept_volume_of fs ≡ kept_volume_of gs
kept_alike {fs} {gs} a h = kept_is fs ∙ base_alike a h ∙ sym (kept_is gs)

pub keys_alike : {fs gs : List Ring} → Alike fs gs → key_count_of fs ≡ key_count_of gs
keys_alike a = kinds_mixed eqb number_tells (mixed_map (λ (c : Corner). c.key) (alike_corners a))

-- ---- walks
-- a relation on faces that sees only their corners and edges
abbrev Blind : (Ring → Ring → Type 0) → Type 0
Blind R = (r s t u : Ring) → Like r t → Like s u → R r s → R t u

module _ (R : Ring → Ring → Type 0) (blind : Blind R) {fs gs : List Ring} (a : Alike fs gs) where
  walk_alike : {r s : Ring} (t : Ring) → In t gs → Like r t → Walk R fs r s → (u : Ring) × In u gs × Like s u × Walk R gs t u
  walk_alike t i l here = (t, i, l, here)
  walk_alike t i l (next {s = s} {t = v} w j step) =
      let k = walk_alike t i l w in
      let m = alike_in a v j in
      (m.0, m.1, m.2, next k.3 m.1 (blind s v k.0 m.0 k.2 m.2 step))

touch_blind : Blind Touch
touch_blind r s t u l m h = (h.0, in_mixed h.0 l.edges h.1, in_mixed (flip h.0) m.edges h.2)

step_blind : (v : ℕ) → Blind (Step v)
step_blind v r s t u l m h = (h.0, h.1, in_mixed h.0 l.edges h.2, in_mixed (flip h.0) m.edges h.3)

key_like : (v : ℕ) (r s : Ring) → Like r s → HasKey v r → HasKey v s
key_like v r s l h = (h.0, h.1, in_mixed h.0 l.corners h.2)

-- ---- soundness
some_edge : (r : Ring) → 3 ≤ length r → (e : Edge) × In e (edges r)
some_edge [] h = absurd (not-suc-le-zero h)
some_edge (c ∷ cs) h = some_step c cs c

module _ (fs gs : List Ring) (a : Alike fs gs) (h : Consistent fs) where
  limits_alike : Limits gs
  limits_alike = record {
    faces = subst (λ n. n ≤ 512) (alike_length a) h.limits.faces;
    keys = subst (λ n. n ≤ 1024) (keys_alike a) h.limits.keys;
    edges = subst (λ n. n ≤ 3072) (length_mixed (alike_edges a)) h.limits.edges;
  }

  pub consistent_alike : Consistent gs
  consistent_alike = record {
    proper = λ s i. let k = alike_in (alike_back a) s i in proper_like k.0 s (like_back k.2) (h.proper k.0 k.1);
    agree = λ c d i j. h.agree c d (in_mixed c (alike_corners (alike_back a)) i) (in_mixed d (alike_corners (alike_back a)) j);
    once = distinct_mixed (alike_edges a) h.once;
    limits = limits_alike;
  }

  -- two faces of gs that are like one face are one
  one_like : (r s t : Ring) → In s gs → In t gs → Like r s → Like r t → s ≡ t
  one_like r s t i j l m =
      let g = consistent_alike in
      let e = some_edge s (g.proper s i).tidy.sized.0 in
      same_face gs g.once s t i j e.0 e.1 (in_mixed e.0 (like_chain (like_back l) m).edges e.1)

  -- a walk in fs from a face like t to a face like u gives one in gs from t to u
  carry : (R : Ring → Ring → Type 0) → Blind R → (r s t u : Ring) → In t gs → In u gs → Like r t → Like s u → Walk R fs r s → Walk R gs t u
  carry R blind r s t u i j l m w =
      let k = walk_alike R blind a t i l w in
      subst (Walk R gs t) (one_like s k.0 u k.1 j k.2 m) k.3

  pub reached_alike : FromFirst fs → FromFirst gs
  reached_alike from = (any_first gs).1 (λ t u i j.
      let k = alike_in (alike_back a) t i in
      let m = alike_in (alike_back a) u j in
      carry Touch touch_blind k.0 m.0 t u i j (like_back k.2) (like_back m.2) ((any_first fs).0 from k.0 m.0 k.1 m.1))

  pub round_alike : (v : ℕ) → Round fs v → Round gs v
  round_alike v o =
      let k = alike_in a o.0 o.1 in (
        k.0,
        k.1,
        key_like v o.0 k.0 k.2 o.2,
        λ u j has. let m = alike_in (alike_back a) u j in
            carry (Step v) (step_blind v) o.0 m.0 k.0 u k.1 j k.2 (like_back m.2) (o.3 m.0 m.1 (key_like v u m.0 m.2 has)),
      )

sound_alike : (fs gs : List Ring) → Alike fs gs → Sound fs → Sound gs
sound_alike fs gs a h =
    let st = h.consistent in record {
      consistent = consistent_alike fs gs a st;
      closed = λ e i. in_mixed (flip e) (alike_edges a) (h.closed e (in_mixed e (alike_edges (alike_back a)) i));
      round = λ c i. round_alike fs gs a st c.key (h.round c (in_mixed c (alike_corners (alike_back a)) i));
      reached = reached_alike fs gs a st h.reached;
      volume = subst (λ n. pos 1 ≤ℤ n) (kept_alike a (λ r i. (st.proper r i).planar.1)) h.volume;
    }

-- of lists that differ at most in the faces' order and first corners both are sound or neither, and both with the same certificate
pub alike_certify : (fs gs : List Ring) → Alike fs gs → (Sound fs ↔ Sound gs) × (Sound fs → certificate fs ≡ certificate gs)
alike_certify fs gs a = (
  (sound_alike fs gs a, sound_alike gs fs (alike_back a)),
  λ h i. record { v = keys_alike a i; e = length_mixed (alike_edges a) i / 2; f = alike_length a i; n = kept_alike a (λ r j. (h.consistent.proper r j).planar.1) i },
)
