use Rattle.std.proofs.Common.{◌^◌, ◌<◌, get_or, arith, rules}
use lib.Count.{ones-le}
use Rattle.marks.proofs.Words.{bits_count, members_more}
use Rattle.marks.proofs.Marks.count.Goals as goal

pub loop-w-preserved : goal.loop-w-preserved
loop-w-preserved g c =
    let ws = c.args.self.now.words in
    let i = c.loop-w.w-index in
    let fits : get_or ws i 0 < 2 ^ 64 = search rules in
    let one = bits_count 64 (get_or ws i 0) fits in
    let most = ones-le 64 (get_or ws i 0) fits in
    let more = members_more ws i (omega (arith, c.args.self.now.long)) in
    (omega arith, omega arith)
