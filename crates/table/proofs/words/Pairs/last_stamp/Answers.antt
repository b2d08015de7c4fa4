use Rattle.std.proofs.Common.{arith}
use Rattle.table.proofs.Pairs.{last_top}
use Rattle.table.proofs.words.Pairs.last_stamp.Goals as goal

pub returns-in_default : goal.returns-in_default
returns-in_default c =
    let s = c.args.self.now in
    last_top s.words.now s.first s.depth c.used.result _ (omega arith) (omega arith) (omega arith)
