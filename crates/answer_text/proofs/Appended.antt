-- Text after text.
use Rattle.std.proofs.Common.{◌≡◌, ℕ, ◌+◌, ◌/◌, ◌%◌, ◌<◌, true, List, [], ◌∷◌, ◌++◌, length}
use Rattle.std.proofs.Common.{is_err, Ok, Err, decimal, Result, sym, refl, ap, ◌∙◌, append_assoc}
use Rattle.std.proofs.Common.{append-nil, get_or, take}
use Rattle.std.proofs.lemmas.List.{take_more}
use Rattle.std.proofs.lemmas.Bool.{false≢true}
use Rattle.std.proofs.lemmas.Fmt.{decimal_digit}
use Rattle.script.specs.declared.unread.Unread.{Unread}
use Rattle.script.specs.declared.unread.Unread.TheVariants as U
use Rattle.script.specs.Unreads.{unread_number}
use Rattle.script.specs.Writing.{spaced}
use Rattle.answer_text.specs.Output.{Begins, Appends}
use Rattle.answer_text.specs.Texts.{unread_line}

pub joins : (a b c s t : List ℕ) → b ≡ a ++ s → c ≡ b ++ t → c ≡ a ++ (s ++ t)
joins a b c s t p q = q ∙ (ap (λ x. x ++ t) p ∙ append_assoc a s t)

pub begins_on : (a b c s : List ℕ) → b ≡ a ++ s → Begins b c → Begins a c
begins_on a b c s p h = (s ++ h.0, joins a b c s h.0 p h.1)

spaced_more : (ns ms : List ℕ) → spaced (ns ++ ms) ≡ spaced ns ++ spaced ms
spaced_more [] ms = refl
spaced_more (n ∷ ns) ms =
    let h = spaced_more ns ms in
    ap (λ t. 32 ∷ (decimal n ++ t)) h ∙ ap (λ t. 32 ∷ t) (sym (append_assoc (decimal n) _ _))

pub spaced_next : (ns : List ℕ) (i : ℕ) → i < length ns
    → spaced (take (i + 1) ns) ≡ spaced (take i ns) ++ (32 ∷ decimal (get_or ns i 0))
spaced_next ns i h =
    ap spaced (take_more ns i 0 h) ∙ (spaced_more (take i ns) (get_or ns i 0 ∷ [])
    ∙ ap (λ t. spaced (take i ns) ++ (32 ∷ t)) (append-nil (decimal (get_or ns i 0))))

pub ruleset each_number = (spaced_next, joins)

-- where no number more is written, the text is begun
pub appends_part : {X E : Type 0} (a b c s t : List ℕ) (r : Result X E) → b ≡ a ++ s
    → Begins b c → is_err r ≡ true → Appends a c t r
appends_part a b c s t (Ok x) p h e = absurd (false≢true e)
appends_part a b c s t (Err x) p h e = begins_on a b c s p h

-- the line of what is not read, byte by byte, with the two digits of its number
pub unread_bytes : (w : Unread) → unread_line w ++ (10 ∷ [])
    ≡ 63 ∷ (32 ∷ (110 ∷ (111 ∷ (32 ∷ ((48 + unread_number w / 10)
    ∷ ((48 + unread_number w % 10) ∷ (10 ∷ [])))))))
unread_bytes U.Line = refl
unread_bytes U.Script = refl

-- a number of one digit
pub ruleset digit = (decimal_digit)
