use Rattle.std.proofs.Common.{None, rules}
use Rattle.script.proofs.NumberLaw.{decimal_law}
use Rattle.script.proofs.numbers.number.Goals as goal

pub returns-then-matches-clause-decimal : goal.returns-then-matches-clause-decimal
returns-then-matches-clause-decimal c = decimal_law c.args.bytes.now None (search rules)
