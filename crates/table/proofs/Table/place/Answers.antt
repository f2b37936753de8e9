use Rattle.std.proofs.Common.{rules}
use Rattle.std.proofs.lemmas.Fn.{always_returns_same}
use Rattle.table.proofs.Places.{placed}
use Rattle.table.proofs.Table.place.Goals as goal

-- the closure compares the key of an entry
pub returns : goal.returns
returns g c =
    let facts = c.binary_search_by.ensures in
    let answer = facts.position (λ entry. g.K.Ord.cmp entry.0 c.args.key.now) (always_returns_same _ _ _ (λ a r q called. search rules)) in
    rw (← c.self.view_is, ← c.deref.ensures.value) (placed g.met.K.Ord.total c.args.key.now c.deref.result.now c.binary_search_by.result (rw c.deref.ensures.value c.self.invariant) facts.bound answer)
