use Rattle.std.proofs.Common.{◌≡◌, ℕ, ◌<◌, List, length, get_or, sym, subst}
use Rattle.solid.specs.Places.{edge_at}
use Rattle.tracking.specs.Tables.{end_keys}
use Rattle.tracking.proofs.Places.{keys_in_order}
use Rattle.tracking.proofs.Props.{kept_out}
use Rattle.index.specs.Meaning.{faces_of}
use Rattle.index.proofs.Meanings.{consistent}
use Rattle.index.proofs.index.Index.edges_by_key.Goals as goal

pub returns-clause-keys : goal.returns-clause-keys
returns-clause-keys c =
    let x = c.args.self.now in
    subst (λ (es : List ((ℕ × ℕ) × ℕ)). (i : ℕ) → i < length es → (get_or es i ((0, 0), 0)).0 ≡ end_keys (edge_at (faces_of x) (get_or es i ((0, 0), 0)).1)) (sym c.entries.ensures)
    (keys_in_order (faces_of x) (consistent x) x.edges (kept_out x.kept).edges_held)
