use Rattle.std.proofs.Common.{◌≡◌, ◌++◌, take, vec_items}
use Rattle.script.specs.Writing.{spaced}
use Rattle.answer_text.proofs.push.push_numbers.Given as goal

abbrev pub invariant-loop-n : goal.invariant-loop-n
invariant-loop-n l =
    vec_items l.out ≡ vec_items l.initial.out ++ spaced (take l.n-index l.numbers)
