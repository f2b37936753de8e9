use Rattle.std.proofs.Common.{◌≡◌, ℕ, Bool, true, false, not, List, length, ℤ, Option, Decides, sym, ap, ◌∙◌, subst, rules}
use Rattle.algebra.proofs.Arrays.{same_vector, coordinates_of}
use Rattle.algebra.specs.Vector.{V3, vector, coordinates}
use Rattle.std.specs.FinMap.{find, get}
use Rattle.faces.specs.Held.{stored_corners}
use Rattle.table.specs.Seen.{map_of}
use Rattle.tracking.specs.Tables.{position_cmp, position_pairs}
use Rattle.index.specs.declared.index.Index.{Index}
use Rattle.index.specs.Meaning.{faces_of}
use Rattle.tracking.specs.Tests.{AgreesWith}
use Rattle.solid.specs.Corners.{corner_of}
use Rattle.tracking.proofs.Finds.{agrees_some, agrees_none}
use Rattle.index.proofs.Meanings.{consistent, position_found, key_found}
use Rattle.index.proofs.index.Index.agrees.Goals as goal

pub returns-in-Some : goal.returns-in-Some
returns-in-Some c =
    let h = c.args.self.now in
    agrees_some h.faces (consistent h) c.args.c c.in-Some.position c.eq.result (sym (c.in-Some.ensures ∙ position_found h _))
    (same_vector c.in-Some.position c.args.c.position c.eq.result (search rules) (search rules) c.eq.ensures)

turned : (a r : Bool) → a ≡ not r → not a ≡ r
turned a true e = ap not e
turned a false e = ap not e

-- a position that is looked up is found as the coordinates of its vector
by_vector : (h : Index) (o : Option ℕ) (p : List ℤ) → o ≡ get (map_of position_cmp h.corners.keys) p → (v : V3) → length p ≡ 3 → vector p ≡ v → o ≡ find position_cmp (coordinates v) (position_pairs (stored_corners h.faces))
by_vector h o p e v long is = rw (← is, coordinates_of p long) (e ∙ key_found h p)

pub returns-in-None : goal.returns-in-None
returns-in-None c =
    let h = c.args.self.now in
    let sought = by_vector h c.find-in-None.result _ c.find-in-None.ensures (vector c.args.c.position) (search rules) (search rules) in
    subst (λ b. Decides b (AgreesWith (faces_of h) (corner_of c.args.c))) (turned _ _ c.is_none.ensures)
    (agrees_none h.faces (consistent h) c.args.c (sym (c.in-None.ensures ∙ position_found h _)) c.find-in-None.result sought)
