use Rattle.std.proofs.Common.{◌≡◌, None}
use Rattle.table.specs.Check.{wrong_below}
use Rattle.table.proofs.check.check_words.Given as goal

abbrev pub invariant-loop-g : goal.invariant-loop-g
invariant-loop-g l = wrong_below l.words l.depth l.g ≡ None
