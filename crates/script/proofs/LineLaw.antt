-- A script is its lines.
use Rattle.std.proofs.Common.{◌≡◌, ℕ, ◌+◌, ◌<◌, ◌≤◌, true, false, eqb, ◌⊎◌, List, [], ◌∷◌, ◌++◌}
use Rattle.std.proofs.Common.{length, Some, None, Option, unwrap_or, refl, ap, ◌∙◌, inl, inr}
use Rattle.std.proofs.Common.{⊎_elim, Bor, arith, length-append, length-drop}
use Rattle.std.proofs.lemmas.Bool.{cases_Bool, eqb-true}
use Rattle.std.specs.List.{onto_first}
use Rattle.std.specs.Option.{option_map}
use Rattle.std.proofs.lemmas.Bool.Decides.{nat_tests}
use Rattle.std.proofs.lemmas.List.{nil_from_length}
use Rattle.script.specs.Pieces.{others, pieces_left, closed}
use Rattle.script.specs.Lines.{lines_of, first_line, after_line, Joined}
use Rattle.script.proofs.PieceLaw.{pieces_cut}

-- s is the lines ls, with byte 10 after each, or after each but the last
abbrev Makes : List (List ℕ) → List ℕ → Type 0
Makes ls s = (s ≡ closed 10 ls) ⊎ (s ++ (10 ∷ []) ≡ closed 10 ls)

makes_onto : (c : ℕ) (ls : List (List ℕ)) (s : List ℕ) → Makes ls s
    → Makes (onto_first c ls) (c ∷ s)
makes_onto c [] s (inl e) = inr (ap (λ x. c ∷ (x ++ (10 ∷ []))) e)
makes_onto c [] s (inr e) =
    let l : length (s ++ (10 ∷ [])) ≡ 0 = ap length e in
    absurd (omega (arith, simp length-append at l))
makes_onto c (l ∷ ls) s (inl e) = inl (ap (λ x. c ∷ x) e)
makes_onto c (l ∷ ls) s (inr e) = inr (ap (λ x. c ∷ x) e)

makes_empty : (c : ℕ) (ls : List (List ℕ)) (s : List ℕ) → c ≡ 10 → Makes ls s
    → Makes ([] ∷ ls) (c ∷ s)
makes_empty c ls s t (inl e) = inl (cc)
makes_empty c ls s t (inr e) = inr (cc)

pub joined : (s : List ℕ) → Joined s
joined [] = inl refl
joined (c ∷ cs) =
    let h = joined cs in
    ⊎_elim
    (λ (t : eqb c 10 ≡ true). rw t (makes_empty c (lines_of cs) cs (eqb-true c 10 t) h))
    (λ (f : eqb c 10 ≡ false). rw f (makes_onto c (lines_of cs) cs h))
    (cases_Bool (eqb c 10))

no_line : (o : Option (List ℕ)) → pieces_left 10 [] o ≡ lines_of (unwrap_or o [])
no_line None = refl
no_line (Some s) = refl

pub lines_cut : (s : List ℕ) → 0 < length s → lines_of s ≡ first_line s ∷ lines_of (after_line s)
lines_cut [] h = absurd (omega arith)
lines_cut (c ∷ cs) h =
    let k = pieces_cut 10 [] (λ _. refl) c cs in
    k ∙ ap (λ ls. first_line (c ∷ cs) ∷ ls) (no_line (others 10 (c ∷ cs)))

-- what is left, as a list
pub left_now : (o : Option (Bor (List ℕ))) (d : Bor (List ℕ)) → d.now ≡ []
    → (unwrap_or o d).now ≡ unwrap_or (option_map (λ x. x.now) o) []
left_now None d e = e
left_now (Some x) d e = refl

pub nil_lines : (s : List ℕ) → s ≡ [] → lines_of s ≡ []
nil_lines s e = ap lines_of e

pub next_shorter : (s : List ℕ) → 0 < length s → length (after_line s) < length s
next_shorter s h = grind (arith, nat_tests, length-drop)

pub ruleset line_facts = (joined, lines_cut, next_shorter, left_now, nil_lines, nil_from_length)

-- a line has a byte of its own
length_onto : (c : ℕ) (ls : List (List ℕ)) → length (onto_first c ls) ≤ 1 + length ls
length_onto c [] = omega arith
length_onto c (l ∷ ls) = omega arith

pub lines_at_most : (s : List ℕ) → length (lines_of s) ≤ length s
lines_at_most [] = omega arith
lines_at_most (c ∷ cs) =
    let h = lines_at_most cs in
    ⊎_elim
    (λ (t : eqb c 10 ≡ true). rw t (omega arith))
    (λ (f : eqb c 10 ≡ false). let o = length_onto c (lines_of cs) in rw f (omega arith))
    (cases_Bool (eqb c 10))
