-- One step of the loop over digits, and its end: what is left of a list gives the answer.
use Rattle.std.proofs.Common.{◌≡◌, ℕ, ◌+◌, ◌-◌, ◌*◌, ◌<◌, ◌≤◌, cond, List}
use Rattle.std.proofs.Common.{arith, length, get_or, drop, Some, None}
use Rattle.std.proofs.lemmas.Bool.Decides.{nat_tests}
use Rattle.std.proofs.lemmas.List.{at_drop_more, at_drop_all}
use Rattle.script.specs.Numbers.{takes, digit_on, digits_on}

-- the digits from place i on, by the digit there
digits_at : (s : List ℕ) (i n : ℕ) → i < length s → digits_on n (drop i s)
    ≡ cond (takes n (get_or s i 0))
    (digits_on (n * 10 + (get_or s i 0 - 48)) (drop (i + 1) s)) None
digits_at s i n h = at_drop_more (digits_on n) s i 0 h

pub digits_more : (s : List ℕ) (i n m : ℕ) → i < length s
    → Some m ≡ digit_on n (get_or s i 0) → digits_on n (drop i s) ≡ digits_on m (drop (i + 1) s)
digits_more s i n m h e = let d = digits_at s i n h in grind (arith, nat_tests)

pub digits_stop : (s : List ℕ) (i n : ℕ) → i < length s
    → None ≡ digit_on n (get_or s i 0) → digits_on n (drop i s) ≡ None
digits_stop s i n h e = let d = digits_at s i n h in grind (arith, nat_tests)

pub digits_all : (s : List ℕ) (i n : ℕ) → length s ≤ i → digits_on n (drop i s) ≡ Some n
digits_all s i n h = at_drop_all (digits_on n) s i h

pub ruleset digit_facts = (digits_more, digits_stop, digits_all)
