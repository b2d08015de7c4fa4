-- Lists of refusal lines: those that do not apply, and the first that does.
use Rattle.std.proofs.Common.{◌≡◌, false, eqb, List, [], ◌∷◌, ◌++◌, Some, None, refl, arith}
use Rattle.std.proofs.lemmas.Bool.Decides.{nat_tests}
use Rattle.model.specs.Refusals.{Rule, Refused, refusal}

-- lines that do not apply are passed over
pub past : (rs qs : List Rule) → refusal rs ≡ None → refusal (rs ++ qs) ≡ refusal qs
past [] qs e = refl
past (r ∷ rs) qs e = let k = past rs qs in grind (arith, nat_tests)

-- a refusal stands whatever follows
pub stop : (rs qs : List Rule) (r : Refused) → refusal rs ≡ Some r → refusal (rs ++ qs) ≡ Some r
stop [] qs r e = absurd (grind arith)
stop (x ∷ rs) qs r e = let k = stop rs qs r in grind (arith, nat_tests)

-- no line has the number 15
abbrev pub No15 : List Rule → Type 0
No15 [] = Unit {0}
No15 (r ∷ rs) = (eqb r.number 15 ≡ false) × No15 rs

pub not_15 : (rs : List Rule) (r : Refused) → No15 rs → refusal rs ≡ Some r
    → eqb r.0 15 ≡ false
not_15 [] r n e = absurd (grind arith)
not_15 (x ∷ rs) r n e = let k = not_15 rs r n.1 in let h = n.0 in grind (arith, nat_tests)
