-- Decimal numbers below 2^64 with no leading zero.
use Rattle.std.specs.Prelude.{◌≡◌, ℕ, ◌+◌, ◌-◌, ◌*◌, ◌^◌, ◌<◌, Bool, cond, ◌&&◌, ◌||◌, List, []}
use Rattle.std.specs.Prelude.{◌∷◌, length, Some, None, decimal, Option, ◌==◌, ◌≢◌, nat_lt}
use Rattle.std.specs.Prelude.{slice_index}
use Rattle.std.specs.Char.{is_ascii_digit}

-- c is a digit, and the number with it stays below 2^64
abbrev pub takes : ℕ → ℕ → Bool
takes n c = is_ascii_digit c && nat_lt (n * 10 + (c - 48)) (2 ^ 64)

abbrev pub digit_on : ℕ → ℕ → Option ℕ
digit_on n c = cond (takes n c) (Some (n * 10 + (c - 48))) None

abbrev pub digits_on : ℕ → List ℕ → Option ℕ
digits_on n [] = Some n
digits_on n (c ∷ cs) = cond (takes n c) (digits_on (n * 10 + (c - 48)) cs) None

-- no digit, or a zero before others
abbrev pub bad_start : List ℕ → Bool
bad_start s = length s == 0 || (nat_lt 1 (length s) && slice_index s 0 == 48)

abbrev pub number_of : List ℕ → Option ℕ
number_of s = cond (bad_start s) None (digits_on 0 s)

-- what is read is the number that is written so, and where nothing is read there is none
abbrev pub Decimal : List ℕ → Option ℕ → Type 0
Decimal s (Some n) = s ≡ decimal n
Decimal s None = (n : ℕ) → n < 2 ^ 64 → s ≢ decimal n
