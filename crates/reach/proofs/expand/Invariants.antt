use Rattle.std.proofs.Common.{ℕ, ◌<◌, ◌≤◌, ◌≡◌, suc, ◌⊎◌}
use Rattle.index.specs.Closed.{faces_in}
use Rattle.solid.specs.Places.{first_place, Home, Across}
use Rattle.reach.specs.Sets.{Has, Waits, Longer, Beside}
use Rattle.reach.proofs.expand.Given as goal

abbrev pub invariant-loop-place : goal.invariant-loop-place
invariant-loop-place l =
    let fs = faces_in l.closed in
    (first_place fs l.face ≤ l.place-iterator.start)
    × (l.place-iterator.end ≡ first_place fs (suc l.face))
    × Longer l.initial.reached l.reached
    × ((p g : ℕ) → Home fs p l.face → p < l.place-iterator.start → Across fs p g → Has l.reached g)
    × ((g : ℕ) → Has l.reached g → Has l.initial.reached g ⊎ (Waits l.reached g × Beside fs l.face g))
