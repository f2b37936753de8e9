use Rattle.std.proofs.Common.{sym, ◌∙◌, true≢false, arith}
use Rattle.std.proofs.lemmas.List.{length-map, length_push}
use Rattle.std.proofs.lemmas.Bool.{le-leb, leb-true}
use Rattle.std.proofs.lemmas.Bool.Decides.{nat_tests}
use Rattle.solid.specs.Corners.{corner_of, ring_of}
use Rattle.index.specs.Meaning.{faces_of}
use Rattle.tracking.proofs.Keys.{edge_total, face_total, edges_more}
use Rattle.index.proofs.Meanings.{consistent, keys_total}
use Rattle.index.proofs.index.Index.has_room.Goals as goal
use Rattle.index.proofs.index.Index.has_room.Goals.{then-len-lt-FACES, else-len-lt-FACES}

pub overflow_add-result : goal.overflow_add-result
overflow_add-result c =
    let x = c.args.self.now in
    omega (arith, c.len-then-corner_count-ring-le-EDGES.ensures, keys_total x, (consistent x).limits.keys, c.new_keys.ensures.1)

pub returns-then-corner_count-ring-le-EDGES : goal.returns-then-corner_count-ring-le-EDGES
returns-then-corner_count-ring-le-EDGES c =
    let x = c.args.self.now in
    let r = c.args.ring.now.corners.now in
    let keys = c.new_keys.ensures.0 in
    let held = c.len-then-corner_count-ring-le-EDGES.ensures ∙ keys_total x in
    elim c.if-len-lt-FACES.branch [
      | then-len-lt-FACES w ↦ (
        λ t. record {
          faces = omega (arith, length_push (faces_of x) (ring_of r), face_total x.faces, c.len.ensures, w.if-len-lt-FACES.true);
          keys = omega (arith, held, keys, leb-true _ _ t);
          edges = omega (arith, edges_more (faces_of x) (ring_of r), edge_total x.faces, length-map r corner_of, w.corner_count.ensures, leb-true _ _ (sym w.value-is ∙ c.if-corner_count-ring-le-EDGES.true));
        },
        λ limits. le-leb _ _ (omega (arith, held, keys, limits.keys)),
      )
      | else-len-lt-FACES w ↦ absurd (grind (arith, nat_tests, sym c.if-corner_count-ring-le-EDGES.true ∙ w.value-is, w.if-len-lt-FACES.false))
    ]

pub returns-else-corner_count-ring-le-EDGES : goal.returns-else-corner_count-ring-le-EDGES
returns-else-corner_count-ring-le-EDGES c =
    let x = c.args.self.now in
    let r = c.args.ring.now.corners.now in (
      λ t. absurd (true≢false (sym t ∙ c.if-corner_count-ring-le-EDGES.false)),
      λ limits. elim c.if-len-lt-FACES.branch [
        | then-len-lt-FACES w ↦ absurd (true≢false (sym (le-leb _ _ (omega (arith, limits.edges, edges_more (faces_of x) (ring_of r), edge_total x.faces, length-map r corner_of, w.corner_count.ensures))) ∙ sym w.value-is ∙ c.if-corner_count-ring-le-EDGES.false))
        | else-len-lt-FACES w ↦ absurd (omega (arith, limits.faces, length_push (faces_of x) (ring_of r), face_total x.faces, c.len.ensures, w.if-len-lt-FACES.false))
      ],
    )
