-- A ring begun at another corner has the same corners and edges, in another order. What two such rings share follows from that alone.
use Rattle.std.proofs.Common.{◌≡◌, ◌≤◌, [], ◌∷◌, ◌-ℤ◌, sym, refl, ap, ◌∙◌, subst, subst₂, inl}
use mathlib.Core.List.Permᴰ
use lib.IntN.{+ℤ_invr}
use Rattle.algebra.specs.Vector.{dot}
use Rattle.algebra.proofs.Vectors.{sub_dot}
use Rattle.solid.specs.Faces.{Ring, edges, D, start}
use Rattle.solid.specs.Rules.{Flat, Proper}
use Rattle.solid.specs.Alike.{Turned}
use Rattle.solid.proofs.Perms.{Mixed, mixed_turn, mixed_map, length_mixed, in_mixed, distinct_mixed}
use Rattle.solid.proofs.Turning.{edges_turn, spans_mixed, level}

-- the same corners and the same edges, in any order
pub record Like (r s : Ring) : Type 0 where
  pub corners : Mixed r s
  pub edges : Mixed (edges r) (edges s)

pub like_itself : (r : Ring) → Like r r
like_itself r = record { corners = Permᴰ.refl r; edges = Permᴰ.refl (edges r) }

pub like_back : {r s : Ring} → Like r s → Like s r
like_back l = record { corners = Permᴰ.symm l.corners; edges = Permᴰ.symm l.edges }

pub like_chain : {r s t : Ring} → Like r s → Like s t → Like r t
like_chain l m = record { corners = Permᴰ.trans l.corners m.corners; edges = Permᴰ.trans l.edges m.edges }

-- ---- from a turn
pub like_from_turned : {r s : Ring} → Turned r s → Like r s
like_from_turned t = record {
  corners = subst₂ Mixed (sym t.from) (sym t.to) (mixed_turn t.front t.back);
  edges = subst₂ (λ (r s : Ring). Mixed (edges r) (edges s)) (sym t.from) (sym t.to) (edges_turn t.front t.back);
}

pub turned_back : {r s : Ring} → Turned r s → Turned s r
turned_back t = record { front = t.back; back = t.front; from = t.to; to = t.from }

-- ---- what they share
D_like : {r s : Ring} → Like r s → D r ≡ D s
D_like l = spans_mixed l.edges

pub start_like : (r s : Ring) → Like r s → Flat r → dot (start s) (D s) ≡ dot (start r) (D r)
start_like r [] l h = at_none r l
  where
    at_none : (r : Ring) → Like r [] → dot (start []) (D []) ≡ dot (start r) (D r)
    at_none [] l = refl
    at_none (c ∷ cs) l = absurd (in_mixed c l.corners (inl refl))
start_like r (c ∷ cs) l h = ap (dot c.position) (sym (D_like l)) ∙ level r h c (in_mixed c (Permᴰ.symm l.corners) (inl refl))

pub flat_like : (r s : Ring) → Like r s → Flat r → Flat s
flat_like r s l h c i =
    sub_dot c.position (start s) (D s)
    ∙ ap (λ t. t -ℤ dot (start s) (D s)) (ap (dot c.position) (sym (D_like l)) ∙ level r h c (in_mixed c (Permᴰ.symm l.corners) i) ∙ sym (start_like r s l h))
    ∙ +ℤ_invr (dot (start s) (D s))

pub proper_like : (r s : Ring) → Like r s → Proper r → Proper s
proper_like r s l h = record {
  tidy = record {
    sized = subst (λ n. (3 ≤ n) × (n ≤ 64)) (length_mixed l.corners) h.tidy.sized;
    valid = λ c i. h.tidy.valid c (in_mixed c (Permᴰ.symm l.corners) i);
    keys = distinct_mixed (mixed_map (λ c. c.key) l.corners) h.tidy.keys;
  };
  planar = (λ e. h.planar.0 (D_like l ∙ e), flat_like r s l h.planar.1);
  simple = λ e f i j. h.simple e f (in_mixed e (Permᴰ.symm l.edges) i) (in_mixed f (Permᴰ.symm l.edges) j);
}
