-- The volume is read as it was stored, since it fits 64 bits.
use Rattle.std.proofs.Common.{◌≡◌, ◌*◌, ◌^◌, sym, ◌∙◌, subst, w64, to_z, of_z}
use Rattle.algebra.specs.Vector.{Near}
use Rattle.algebra.proofs.Machine.{read_back}
use Rattle.solid.specs.Reversal.{Negates}
use Rattle.solid.proofs.Growth.{kept_near}
use Rattle.hull.specs.Meaning.{faces_of, answered_edge_sum}
use Rattle.hull.proofs.Laws.{consistent, asked, turned_round}
use Rattle.hull.proofs.Props.{counted_out}
use Rattle.hull.proofs.hull.Hull.kept_volume.Goals as goal

pub returns : goal.returns
returns c =
    let h = c.args.self.now in
    let k = counted_out h.counted in
    let near : Near (3072 * (75 * 10 ^ 13)) h.volume = subst (Near (3072 * (75 * 10 ^ 13))) (sym k.kept_volume) (kept_near (faces_of h) (consistent h)) in
    let same : to_z w64 (of_z w64 h.volume) ≡ h.volume = read_back w64 tt near in
    record { value = (same ∙ k.kept_volume, same); negates = subst (λ v. Negates (faces_of h) v (answered_edge_sum h)) (sym same) (turned_round h); law = asked h }
