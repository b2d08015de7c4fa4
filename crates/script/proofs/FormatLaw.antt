-- The line of an event is read as that event, and no other line is.
use Rattle.std.proofs.Common.{◌≡◌, ℕ, ◌^◌, ◌<◌, true, false, eqb, List, [], ◌∷◌}
use Rattle.std.proofs.Common.{◌++◌, length, Some, None, decimal, Option, sym, refl, ap, ◌∙◌}
use Rattle.std.proofs.Common.{append-nil, arith}
use Rattle.std.specs.List.{AllByRecursion}
use Rattle.std.specs.Option.{option_and_then}
use Rattle.std.specs.Str.{all_ascii_digits}
use Rattle.std.proofs.lemmas.Fmt.{digits_decimal}
use Rattle.std.proofs.lemmas.Bool.{le-leb}
use Rattle.std.proofs.lemmas.Bool.Decides.{nat_tests}
use Rattle.script.specs.declared.events.EventKind.{EventKind}
use Rattle.script.specs.declared.events.EventKind.TheVariants as K
use Rattle.script.specs.Pieces.{first, others}
use Rattle.script.specs.Events.{Said, kind_for, name_ok}
use Rattle.script.specs.Events.{open_event, begin_event, read_event, write_event, erase_event}
use Rattle.script.specs.Events.{commit_event, roll_back_event, advance_event, status_event}
use Rattle.script.specs.Events.{notice_event}
use Rattle.script.specs.Reading.{plain_from, event_from, event_in, begin_of, event_of, next_number}
use Rattle.script.specs.Reading.{after_number, read_from}
use Rattle.script.specs.Writing.{spaced, written, Formed, Format}
use Rattle.script.proofs.NumberLaw.{own, number_back}
use Rattle.script.proofs.PieceLaw.{first_on, others_on, first_end, others_end}
use Rattle.script.proofs.WordLaw.{reads}
use Rattle.script.proofs.EventLaw.{event_gives}

-- bytes with no space among them
abbrev Free : List ℕ → Type 0
Free w = AllByRecursion (λ c. eqb c 32 ≡ false) w

digits_free : (ds : List ℕ) → all_ascii_digits ds ≡ true → Free ds
digits_free [] h = tt
digits_free (c ∷ cs) h =
    let f : eqb c 32 ≡ false = grind (arith, nat_tests) in
    let t : all_ascii_digits cs ≡ true = grind (arith, nat_tests) in
    (f, digits_free cs t)

decimal_free : (n : ℕ) → n < 2 ^ 64 → Free (decimal n)
decimal_free n h = digits_free (decimal n) (digits_decimal own n h)

first_free : (w s : List ℕ) → Free w → first 32 (w ++ (32 ∷ s)) ≡ w
first_free [] s f = first_end 32 32 s refl
first_free (c ∷ cs) s f =
    first_on 32 c (cs ++ (32 ∷ s)) f.0 ∙ ap (λ w. c ∷ w) (first_free cs s f.1)

others_free : (w s : List ℕ) → Free w → others 32 (w ++ (32 ∷ s)) ≡ Some s
others_free [] s f = others_end 32 32 s refl
others_free (c ∷ cs) s f = others_on 32 c (cs ++ (32 ∷ s)) f.0 ∙ others_free cs s f.1

first_last : (w : List ℕ) → Free w → first 32 w ≡ w
first_last [] f = refl
first_last (c ∷ cs) f = first_on 32 c cs f.0 ∙ ap (λ w. c ∷ w) (first_last cs f.1)

others_last : (w : List ℕ) → Free w → others 32 w ≡ None
others_last [] f = refl
others_last (c ∷ cs) f = others_on 32 c cs f.0 ∙ others_last cs f.1

-- what numbers leave after the space before them
left : List ℕ → Option (List ℕ)
left [] = None
left (n ∷ ns) = Some (decimal n ++ spaced ns)

-- the first of them is read, and the others are left
next_back : (n : ℕ) (ns : List ℕ) → n < 2 ^ 64
    → (next_number (left (n ∷ ns)) ≡ Some n) × (after_number (left (n ∷ ns)) ≡ left ns)
unfolding left
next_back n [] h =
    let w = decimal_free n h in (
      rw (append-nil, first_last (decimal n) w) (number_back n h),
      rw append-nil (others_last (decimal n) w),
    )
next_back n (m ∷ ms) h =
    let w = decimal_free n h in
    let s = decimal m ++ spaced ms in
    (rw (first_free (decimal n) s w) (number_back n h), others_free (decimal n) s w)

-- a letter and numbers after it
first_letter : (c : ℕ) (ns : List ℕ) → eqb c 32 ≡ false → first 32 (c ∷ spaced ns) ≡ c ∷ []
first_letter c [] f = first_last (c ∷ []) (f, tt)
first_letter c (n ∷ ns) f = first_free (c ∷ []) (decimal n ++ spaced ns) (f, tt)

others_letter : (c : ℕ) (ns : List ℕ) → eqb c 32 ≡ false → others 32 (c ∷ spaced ns) ≡ left ns
unfolding left
others_letter c [] f = others_last (c ∷ []) (f, tt)
others_letter c (n ∷ ns) f = others_free (c ∷ []) (decimal n ++ spaced ns) (f, tt)

plain_back : (k : EventKind) (c : ℕ) (ns : List ℕ) (e : Said) → eqb c 32 ≡ false
    → kind_for c ≡ Some k → ((o : Option (List ℕ)) → event_from k o ≡ plain_from k o)
    → read_from k (left ns) ≡ Some e → event_in (c ∷ (spaced ns ++ [])) ≡ Some e
plain_back k c ns e f is p r =
    rw (append-nil (spaced ns), first_letter c ns f, is, others_letter c ns f, p)
    (sym (reads k (left ns)) ∙ r)

begin_back : (t : ℕ) (n : List ℕ) → t < 2 ^ 64 → name_ok n ≡ true
    → begin_of (decimal t ++ (32 ∷ n)) ≡ Some (begin_event t n)
begin_back t n h g =
    let f = decimal_free t h in
    rw (first_free (decimal t) n f, others_free (decimal t) n f, number_back t h, g)

in_back : (e : Said) → Formed e → event_in (written e) ≡ Some e
unfolding left
in_back open_event f = refl
in_back (begin_event t n) f =
    let r = decimal t ++ (32 ∷ n) in
    let o = others_free (98 ∷ []) r (refl, tt) in
    rw (append-nil (decimal t))
    (ap (option_and_then begin_of) o ∙ begin_back t n f.small.0 f.name)
in_back (read_event t a g) f =
    let x = next_back t (a ∷ g ∷ []) f.small.0 in
    let y = next_back a (g ∷ []) f.small.1.0 in
    let z = next_back g [] f.small.1.1.0 in
    plain_back K.Read 114 (t ∷ a ∷ g ∷ []) _ refl refl (λ _. refl)
    (rw (x.0, x.1, y.0, y.1, z.0, z.1))
in_back (write_event t a g c) f =
    let x = next_back t (a ∷ g ∷ c ∷ []) f.small.0 in
    let y = next_back a (g ∷ c ∷ []) f.small.1.0 in
    let z = next_back g (c ∷ []) f.small.1.1.0 in
    let w = next_back c [] f.small.1.1.1.0 in
    plain_back K.Write 119 (t ∷ a ∷ g ∷ c ∷ []) _ refl refl (λ _. refl)
    (rw (x.0, x.1, y.0, y.1, z.0, z.1, w.0, w.1))
in_back (erase_event t a g) f =
    let x = next_back t (a ∷ g ∷ []) f.small.0 in
    let y = next_back a (g ∷ []) f.small.1.0 in
    let z = next_back g [] f.small.1.1.0 in
    plain_back K.Erase 101 (t ∷ a ∷ g ∷ []) _ refl refl (λ _. refl)
    (rw (x.0, x.1, y.0, y.1, z.0, z.1))
in_back (commit_event t a) f =
    let x = next_back t (a ∷ []) f.small.0 in
    let y = next_back a [] f.small.1.0 in
    plain_back K.Commit 99 (t ∷ a ∷ []) _ refl refl (λ _. refl) (rw (x.0, x.1, y.0, y.1))
in_back (roll_back_event t a) f =
    let x = next_back t (a ∷ []) f.small.0 in
    let y = next_back a [] f.small.1.0 in
    plain_back K.RollBack 107 (t ∷ a ∷ []) _ refl refl (λ _. refl) (rw (x.0, x.1, y.0, y.1))
in_back advance_event f = refl
in_back (status_event t) f =
    let x = next_back t [] f.small.0 in
    plain_back K.Status 113 (t ∷ []) _ refl refl (λ _. refl) (rw (x.0, x.1))
in_back (notice_event n) f =
    let x = next_back n [] f.small.0 in
    plain_back K.Notice 110 (n ∷ []) _ refl refl (λ _. refl) (rw (x.0, x.1))

pub event_back : (e : Said) → Formed e → event_of (written e) ≡ Some e
event_back e f = rw (le-leb (length (written e)) 64 f.short) (in_back e f)

pub format_law : (s : List ℕ) (o : Option Said) → o ≡ event_of s → Format s o
format_law s None q =
    λ e f w.
    let a = ap event_of w in
    let b = event_back e f in
    cc
format_law s (Some e) q =
    let g = event_gives s e (sym q) in
    (g.0, g.1, λ d f w. let a = ap event_of w in let b = event_back d f in cc)
