use Rattle.std.proofs.Common.{take, vec_items, rules}
use Rattle.script.specs.Writing.{spaced}
use Rattle.answer_text.proofs.Appended.{appends_part}
use Rattle.answer_text.proofs.push.push_numbers.Goals as goal

pub returns-in_err-push_spaced : goal.returns-in_err-push_spaced
returns-in_err-push_spaced c =
    appends_part (vec_items c.args.out.now) (vec_items c.loop-n.out)
    (vec_items c.push_spaced.new.out) (spaced (take c.loop-n.n-index c.args.numbers.now))
    (spaced c.args.numbers.now) c.from_residual.result c.loop-n.invariant
    c.in_err-push_spaced.ensures (search rules)
