use Rattle.std.proofs.Common.{ℕ, ◌/◌, ◌%◌, ◌^◌, eqb, get_or, sym, ap, ◌∙◌, arith}
use Rattle.std.proofs.lemmas.Nat.{and_mask}
use Rattle.marks.proofs.Words.{bits_at, members_at}
use Rattle.marks.proofs.Marks.has.Goals as goal

pub returns : goal.returns
returns g c =
    let ws = c.args.self.now.words in
    let i = c.args.i in
    ap (λ (n : ℕ). eqb n 1) (and_mask (get_or ws (i / 64) 0 / 2 ^ (i % 64)) 1)
    ∙ sym (bits_at 64 (get_or ws (i / 64) 0) (i % 64) (omega arith))
    ∙ sym (members_at ws i (omega (arith, c.args.self.now.long, c.requires)))
