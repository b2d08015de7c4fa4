use Rattle.std.proofs.Common.{◌≡◌, Err, ◌∙◌, arith, rules}
use Rattle.std.proofs.lemmas.Bool.Decides.{nat_tests}
use Rattle.table.proofs.Laws.{checked, accepted, refused_at}
use Rattle.table.proofs.check.check_words.Goals as goal

pub returns-in_err-check : goal.returns-in_err-check
returns-in_err-check c =
    let ws = c.args.words.now in let s = c.args.shape in
    let e = refused_at ws s.granules s.depth c.loop-g.g c.in_err-check.field-0.0
    (omega arith, grind (arith, nat_tests), grind (arith, nat_tests), omega arith)
    c.loop-g.invariant (search rules) c.loop-g-test.true in
    let q : Err c.in_err-check.field-0.0 ≡ c.from_residual.result = search rules in
    let r = checked ws s.granules s.depth c.from_residual.result (e ∙ q) in
    record { value = r.0; law = r.1 }

pub returns : goal.returns
returns c =
    let ws = c.args.words.now in let s = c.args.shape in
    let e = accepted ws s.granules s.depth c.loop-g.g
    (omega arith, grind (arith, nat_tests), grind (arith, nat_tests), omega arith)
    c.loop-g.invariant (omega arith) in
    let r = checked ws s.granules s.depth _ e in
    record { value = r.0; law = r.1 }
