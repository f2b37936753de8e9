use Rattle.std.proofs.Common.{◌≡◌, suc, ◌-◌, ◌<◌, vec_items, vec_len, sym, ap, ◌∙◌, arith}
use Rattle.std.proofs.lemmas.List.{get_or_read}
use Rattle.solid.specs.Places.{first_place}
use Rattle.faces.specs.Held.{rings}
use Rattle.faces.proofs.Places.{first_here}
use Rattle.faces.proofs.Pushes.{face_count}
use Rattle.faces.proofs.held.Faces.span.Goals as goal
use Rattle.faces.proofs.held.Faces.span.Goals.{then-face-eq0, else-face-eq0}

pub index-requires : goal.index-requires
index-requires c = omega (arith, c.requires, face_count c.args.self.now)

pub index-requires-2 : goal.index-requires-2
index-requires-2 c = omega (arith, c.requires, face_count c.args.self.now)

pub returns : goal.returns
returns c =
    let f = c.args.self.now in
    let within : c.args.face < vec_len f.ends = omega (arith, c.requires, face_count f) in
    record {
      start = elim c.if-face-eq0.branch [
        | then-face-eq0 w ↦ w.start-is ∙ sym (ap (first_place (rings f)) w.if-face-eq0.true)
        | else-face-eq0 w ↦ (
            let before = c.args.face - 1 in
            let next : suc before ≡ c.args.face = omega (arith, w.if-face-eq0.false) in
            w.start-is ∙ get_or_read (vec_items f.ends) before w.index.result.now (omega (arith, f.ends.ok.0, within)) w.index.ensures 0 ∙ sym (first_here f before (omega (arith, within))) ∙ ap (first_place (rings f)) next
            )
      ];
      end = get_or_read (vec_items f.ends) c.args.face c.index-2.result.now (omega (arith, f.ends.ok.0, within)) c.index-2.ensures 0 ∙ sym (first_here f c.args.face within);
    }
