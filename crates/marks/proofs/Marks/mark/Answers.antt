use Rattle.std.proofs.Common.{ℕ, ◌/◌, ◌%◌, get_or, ap, ◌∙◌, arith}
use lib.Bits.{bit_or}
use Rattle.std.proofs.lemmas.Nat.{one_shl}
use Rattle.marks.specs.Bits.{bits}
use Rattle.marks.proofs.Words.{bits-set, members-set}
use Rattle.marks.proofs.Marks.mark.Goals as goal

pub returns : goal.returns
returns g c =
    let ws = c.args.self.now.words in
    let i = c.args.i in
    let w = get_or ws (i / 64) 0 in
    members-set ws i _ (omega (arith, c.args.self.now.long, c.requires))
    (ap (λ (n : ℕ). bits 64 (bit_or w n)) (one_shl (i % 64) 64 (omega arith)) ∙ bits-set 64 w (i % 64) (omega arith))
