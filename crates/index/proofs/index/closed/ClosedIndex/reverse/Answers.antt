use Rattle.std.proofs.Common.{◌≡◌, ℕ, true, Option, None, Some, is_some, refl}
use Rattle.std.specs.Option.{MatchOption}
use Rattle.solid.specs.Places.{edge_at}
use Rattle.solid.proofs.Places.{edge_among}
use Rattle.index.specs.Closed.{faces_in}
use Rattle.index.proofs.Meanings.{closed_out}
use Rattle.index.proofs.index.closed.ClosedIndex.reverse.Goals as goal

-- something is said where nothing cannot be
some_where : (P : Type 0) (Q : ℕ → Type 0) (o : Option ℕ) → MatchOption o (P → ⊥) Q → P → is_some o ≡ true
some_where P Q None none h = absurd (none h)
some_where P Q (Some n) q h = refl

pub unwrap-requires : goal.unwrap-requires
unwrap-requires c =
    let fs = faces_in c.args.self.now in
    some_where _ _ c.twin.result c.twin.ensures (closed_out c.args.self.now (edge_at fs c.args.place) (edge_among fs c.args.place c.requires))
