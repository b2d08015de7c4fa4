use Rattle.std.proofs.Common.{◌+◌, ◌-◌, arith}
use Rattle.std.proofs.lemmas.Bool.Decides.{nat_tests}
use Rattle.table.proofs.Pairs.{pair_step}
use Rattle.table.proofs.words.Pairs.check.Goals as goal
use Rattle.table.proofs.words.Pairs.check.Goals.{then-unused, else-unused+else-wrong}

pub returns-then-wrong : goal.returns-then-wrong
returns-then-wrong c =
    let s = c.args.self.now in let k = c.loop-k.k in
    let e = pair_step s.words.now (s.first + k) (s.depth - k) (s.first + (k + 1))
    (s.depth - (k + 1)) c.loop-k.last c.loop-k.met (omega arith) (omega arith) in
    grind (arith, nat_tests, e)

pub loop-k-preserved : goal.loop-k-preserved
loop-k-preserved c =
    let s = c.args.self.now in let k = c.loop-k.k in
    let e = pair_step s.words.now (s.first + k) (s.depth - k) (s.first + (k + 1))
    (s.depth - (k + 1)) c.loop-k.last c.loop-k.met (omega arith) (omega arith) in
    elim c.if-unused.branch [
      | then-unused w ↦ grind (arith, nat_tests, e)
      | else-unused+else-wrong w ↦ grind (arith, nat_tests, e)
    ]
