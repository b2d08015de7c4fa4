-- The number that is read is the one that is written so.
use Rattle.std.proofs.Common.{◌≡◌, ℕ, ◌+◌, ◌-◌, ◌*◌, ◌^◌, ◌<◌, ◌≤◌, true, false, List, [], ◌∷◌}
use Rattle.std.proofs.Common.{length, get_or, Some, None, decimal, Option, sym, refl, ap, ◌∙◌}
use Rattle.std.proofs.Common.{⊎_elim, arith, rules}
use Rattle.std.specs.Str.{all_ascii_digits}
use Rattle.std.proofs.lemmas.Bool.{cases_Bool, cases_lt}
use Rattle.std.proofs.lemmas.Bool.Decides.{nat_tests}
use Rattle.std.proofs.lemmas.Str.Parse.{IsNumeralModel, numerals_by_fold, tells_all_ascii_digits}
use Rattle.std.proofs.lemmas.Fmt.{decimal-digits_value, digits_value-decimal, digits_decimal}
use Rattle.std.proofs.lemmas.Fmt.{decimal_digit, decimal_nonempty, first_decimal}
use Rattle.std.proofs.lemmas.Option.{none-some}
use Rattle.script.specs.Numbers.{takes, digits_on, bad_start, number_of, Decimal}

abbrev value_on : ℕ → List ℕ → ℕ
value_on n [] = n
value_on n (c ∷ cs) = value_on (n * 10 + (c - 48)) cs

pub own : IsNumeralModel (λ ds. all_ascii_digits ds ≡ true) (value_on 0)
own = numerals_by_fold _ tells_all_ascii_digits value_on (search rules)

value_ge : (s : List ℕ) (n : ℕ) → n ≤ value_on n s
value_ge [] n = omega arith
value_ge (c ∷ cs) n = let h = value_ge cs (n * 10 + (c - 48)) in omega arith

-- the digits that were read, their value and its bound
record Read (s : List ℕ) (n m : ℕ) : Type 0 where
  digits : all_ascii_digits s ≡ true
  value : value_on n s ≡ m
  bound : m < 2 ^ 64

one_more : (c : ℕ) (cs : List ℕ) (n m : ℕ) → takes n c ≡ true
    → (n * 10 + (c - 48) < 2 ^ 64 → Read cs (n * 10 + (c - 48)) m) → Read (c ∷ cs) n m
one_more c cs n m t more =
    let l : n * 10 + (c - 48) < 2 ^ 64 = grind (arith, nat_tests) in
    let r = more l in
    let d = r.digits in
    record { digits = grind (arith, nat_tests); value = r.value; bound = r.bound }

on_gives : (s : List ℕ) (n m : ℕ) → n < 2 ^ 64 → digits_on n s ≡ Some m → Read s n m
on_gives [] n m h q =
    let e : n ≡ m = cc in record { digits = refl; value = e; bound = omega arith }
on_gives (c ∷ cs) n m h q =
    ⊎_elim
    (λ (t : takes n c ≡ true). one_more c cs n m t (λ l. on_gives cs _ m l (rw t at q)))
    (λ (f : takes n c ≡ false). absurd (none-some m (rw f at q)))
    (cases_Bool (takes n c))

on_back : (s : List ℕ) (n : ℕ) → all_ascii_digits s ≡ true → value_on n s < 2 ^ 64
    → digits_on n s ≡ Some (value_on n s)
on_back [] n d h = refl
on_back (c ∷ cs) n d h =
    let g = value_ge cs (n * 10 + (c - 48)) in
    let t : takes n c ≡ true = grind (arith, nat_tests) in
    let e : all_ascii_digits cs ≡ true = grind (arith, nat_tests) in
    let i = on_back cs (n * 10 + (c - 48)) e h in
    rw t i

pub number_gives : (s : List ℕ) (n : ℕ) → number_of s ≡ Some n → (s ≡ decimal n) × (n < 2 ^ 64)
number_gives s n q =
    ⊎_elim
    (λ (t : bad_start s ≡ true). absurd (none-some n (rw t at q)))
    (λ (f : bad_start s ≡ false). go f (on_gives s 0 n (omega arith) (rw f at q)))
    (cases_Bool (bad_start s))
  where
    go : bad_start s ≡ false → Read s 0 n → (s ≡ decimal n) × (n < 2 ^ 64)
    go f r =
        let v = r.value in
        let b = r.bound in
        let some : 0 < length s = grind (arith, nat_tests) in
        let lead : get_or s 0 0 ≡ 48 → length s ≡ 1 = grind (arith, nat_tests) in
        let d = decimal-digits_value own s r.digits some lead (omega arith) in
        (sym d ∙ ap decimal v, b)

good_start : (n : ℕ) → n < 2 ^ 64 → bad_start (decimal n) ≡ false
good_start n h =
    ⊎_elim
    (λ (l : n < 10). rw (decimal_digit n l))
    (λ (l : 10 ≤ n).
    let f = first_decimal n (omega arith) h in
    let s = decimal_nonempty n h in
    grind (arith, nat_tests))
    (cases_lt n 10)

pub number_back : (n : ℕ) → n < 2 ^ 64 → number_of (decimal n) ≡ Some n
number_back n h =
    let v : value_on 0 (decimal n) ≡ n = digits_value-decimal own n h in
    let e = on_back (decimal n) 0 (digits_decimal own n h) (omega arith) in
    rw (good_start n h) (e ∙ ap Some v)

pub decimal_law : (s : List ℕ) (r : Option ℕ) → r ≡ number_of s → Decimal s r
decimal_law s (Some n) e = (number_gives s n (sym e)).0
decimal_law s None e =
    λ n h q.
    let a = ap number_of q in
    let b = number_back n h in
    cc
