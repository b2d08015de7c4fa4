use Rattle.std.proofs.Common.{rules, tests, refl, ◌+◌, eqb, arith}
use Rattle.std.proofs.lemmas.Iterator.{YieldsList-from_range}
use Rattle.std.proofs.lemmas.Iterator.Search.{position_from_yields_List}
use Rattle.table.specs.Words.{first_at}
use Rattle.table.proofs.Pairs.{used_pairs}
use Rattle.table.proofs.words.Pairs.used.Goals as goal

pub returns-clause-value : goal.returns-clause-value
returns-clause-value c =
    let s = c.args.self.now in
    let e = position_from_yields_List (λ k. eqb (first_at s.words.now (s.first + k)) 0) _ _
    c.position.result c.position.ensures.ran
    (YieldsList-from_range 0 s.depth s.depth refl (omega arith))
    (λ x b q k. search (rules, tests)) in
    rw (c.unwrap_or.ensures, e) (used_pairs s.words.now s.first s.depth)
