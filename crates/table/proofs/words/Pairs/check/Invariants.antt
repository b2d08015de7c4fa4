use Rattle.std.proofs.Common.{◌≡◌, ◌+◌, ◌-◌, false}
use Rattle.table.specs.Words.{wrong_pair}
use Rattle.table.proofs.words.Pairs.check.Given as goal

abbrev pub invariant-loop-k : goal.invariant-loop-k
invariant-loop-k l =
    let ws = l.self.words.now in let p = l.self.first in let d = l.self.depth in
    wrong_pair ws p d 0 false ≡ wrong_pair ws (p + l.k) (d - l.k) l.last l.met
