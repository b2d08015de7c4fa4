use Rattle.std.proofs.Common.{◌≡◌, drop}
use Rattle.script.specs.Numbers.{digits_on}
use Rattle.script.proofs.numbers.digits.Given as goal

abbrev pub invariant-loop-byte : goal.invariant-loop-byte
invariant-loop-byte l = digits_on l.n (drop l.byte-index l.bytes) ≡ digits_on 0 l.bytes
