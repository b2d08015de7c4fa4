-- The event that is read from a line is written as that line.
use Rattle.std.proofs.Common.{◌≡◌, ℕ, ◌^◌, ◌<◌, ◌≤◌, true, false, eqb, leb, List, [], ◌∷◌}
use Rattle.std.proofs.Common.{◌++◌, length, get_or, Some, None, decimal, Option, sym, refl, ap}
use Rattle.std.proofs.Common.{◌∙◌, subst, ⊎_elim, append-nil, arith}
use Rattle.std.specs.List.{AllByRecursion}
use Rattle.std.proofs.lemmas.Bool.{cases_Bool, eqb-true, leb-true}
use Rattle.std.proofs.lemmas.Bool.Decides.{nat_tests}
use Rattle.std.proofs.lemmas.List.{take_all, take_more}
use Rattle.std.proofs.lemmas.Option.{option_and_then_some, cond_some, none-some, same_Some}
use Rattle.script.specs.declared.events.EventKind.{EventKind}
use Rattle.script.specs.declared.events.EventKind.TheVariants as K
use Rattle.script.specs.Numbers.{number_of}
use Rattle.script.specs.Pieces.{first, others}
use Rattle.script.specs.Events.{Said, letter_of, kind_for, name_ok}
use Rattle.script.specs.Events.{begin_event, read_event, write_event, erase_event}
use Rattle.script.specs.Events.{commit_event, roll_back_event, status_event}
use Rattle.script.specs.Events.{notice_event}
use Rattle.script.specs.Reading.{begin_with, begin_of, event_from, kind_in}
use Rattle.script.specs.Reading.{event_in, event_of, by_next, at_end, read_from}
use Rattle.script.specs.Writing.{spaced, numbers_of, named, good_name, written, Formed}
use Rattle.script.proofs.NumberLaw.{number_gives}
use Rattle.script.proofs.PieceLaw.{first_on, others_on, first_end, others_end}
use Rattle.script.proofs.WordLaw.{reads}

-- what follows a first word
after : Option (List ℕ) → List ℕ
after None = []
after (Some s) = 32 ∷ s

whole : (s : List ℕ) → first 32 s ++ after (others 32 s) ≡ s
unfolding after
whole [] = refl
whole (c ∷ cs) =
    let h = whole cs in
    ⊎_elim
    (λ (t : eqb c 32 ≡ true). rw (first_end 32 c cs t, others_end 32 c cs t, eqb-true c 32 t))
    (λ (f : eqb c 32 ≡ false). rw (first_on 32 c cs f, others_on 32 c cs f, h))
    (cases_Bool (eqb c 32))

abbrev pub Small : List ℕ → Type 0
Small ns = AllByRecursion (λ n. n < 2 ^ 64) ns

-- the bytes s are the line of e, whose parts are in their ranges
record Line (s : List ℕ) (e : Said) : Type 0 where
  bytes : s ≡ written e
  small : Small (numbers_of e)
  good : good_name e ≡ true

-- a number more is read
next : {P : Type 0} (f : ℕ → Option (List ℕ) → Option Said) (o : Option (List ℕ)) (e : Said)
    → by_next f o ≡ Some e
    → ((n : ℕ) (p : Option (List ℕ)) → n < 2 ^ 64 → after o ≡ 32 ∷ (decimal n ++ after p)
    → f n p ≡ Some e → P)
    → P
unfolding after
next f None e q h = absurd (none-some e q)
next f (Some s) e q h =
    option_and_then_some (λ n. f n (others 32 s)) (number_of (first 32 s)) e q
    (λ n i r.
    let d = number_gives (first 32 s) n i in
    let b = ap (λ x. 32 ∷ (x ++ after (others 32 s))) d.0 in
    h n (others 32 s) d.1 (ap (λ x. 32 ∷ x) (sym (whole s)) ∙ b) r)

-- all numbers of an event d with no name are read
end : (d e : Said) (o p : Option (List ℕ)) → at_end d p ≡ Some e
    → (after p ≡ [] → after o ≡ spaced (numbers_of d)) → Small (numbers_of d) → named d ≡ []
    → good_name d ≡ true → Line (letter_of d ∷ after o) e
unfolding after
end d e o None q b s u g =
    let l : Line (letter_of d ∷ after o) d
    = record { bytes = rw (b refl, u, append-nil); small = s; good = g } in
    subst (Line (letter_of d ∷ after o)) (same_Some d e q) l
end d e o (Some p) q b s u g = absurd (none-some e q)

kind_letter : EventKind → ℕ
kind_letter K.Open = 111
kind_letter K.Begin = 98
kind_letter K.Read = 114
kind_letter K.Write = 119
kind_letter K.Erase = 101
kind_letter K.Commit = 99
kind_letter K.RollBack = 107
kind_letter K.Advance = 115
kind_letter K.Status = 113
kind_letter K.Notice = 110

plain_line : (k : EventKind) (o : Option (List ℕ)) (e : Said) → read_from k o ≡ Some e
    → Line (kind_letter k ∷ after o) e
unfolding kind_letter
plain_line K.Open o e q = end _ e o o q (λ w. w) tt refl refl
plain_line K.Begin o e q = absurd (none-some e q)
plain_line K.Read o e q =
    next _ o e q (λ t p l x q. next _ p e q (λ a p m y q. next _ p e q (λ g p n z q.
    end (read_event t a g) e o p q (λ w. cc) (l, (m, (n, tt))) refl refl)))
plain_line K.Write o e q =
    next _ o e q (λ t p l x q. next _ p e q (λ a p m y q. next _ p e q (λ g p n z q.
    next _ p e q (λ c p k v q.
    end (write_event t a g c) e o p q (λ w. cc) (l, (m, (n, (k, tt)))) refl refl))))
plain_line K.Erase o e q =
    next _ o e q (λ t p l x q. next _ p e q (λ a p m y q. next _ p e q (λ g p n z q.
    end (erase_event t a g) e o p q (λ w. cc) (l, (m, (n, tt))) refl refl)))
plain_line K.Commit o e q =
    next _ o e q (λ t p l x q. next _ p e q (λ a p m y q.
    end (commit_event t a) e o p q (λ w. cc) (l, (m, tt)) refl refl))
plain_line K.RollBack o e q =
    next _ o e q (λ t p l x q. next _ p e q (λ a p m y q.
    end (roll_back_event t a) e o p q (λ w. cc) (l, (m, tt)) refl refl))
plain_line K.Advance o e q = end _ e o o q (λ w. w) tt refl refl
plain_line K.Status o e q =
    next _ o e q (λ t p l x q. end (status_event t) e o p q (λ w. cc) (l, tt) refl refl)
plain_line K.Notice o e q =
    next _ o e q (λ n p l x q. end (notice_event n) e o p q (λ w. cc) (l, tt) refl refl)

begun : (s n : List ℕ) (t : ℕ) → others 32 s ≡ Some n → number_of (first 32 s) ≡ Some t
    → name_ok n ≡ true → Line (98 ∷ (32 ∷ s)) (begin_event t n)
unfolding after
begun s n t a b h =
    let d = number_gives (first 32 s) t b in
    let w : s ≡ decimal t ++ (32 ∷ n)
    = sym (whole s) ∙ (ap (λ x. x ++ after (others 32 s)) d.0
    ∙ ap (λ o. decimal t ++ after o) a) in
    record {
      bytes = ap (λ x. 98 ∷ (32 ∷ x)) (w ∙ ap (λ x. x ++ (32 ∷ n)) (sym (append-nil _)));
      small = (d.1, tt);
      good = h;
    }

begin_line : (s : List ℕ) (e : Said) → begin_of s ≡ Some e → Line (98 ∷ (32 ∷ s)) e
begin_line s e q = go (others 32 s) (number_of (first 32 s)) refl refl q
  where
    go : (o : Option (List ℕ)) (t : Option ℕ) → others 32 s ≡ o → number_of (first 32 s) ≡ t
        → begin_with o t ≡ Some e → Line (98 ∷ (32 ∷ s)) e
    go None t a b q = absurd (none-some e q)
    go (Some n) None a b q = absurd (none-some e q)
    go (Some n) (Some t) a b q =
        let h = cond_some (name_ok n) (begin_event t n) e q in
        subst (Line (98 ∷ (32 ∷ s))) h.1 (begun s n t a b h.0)

from_line : (k : EventKind) (o : Option (List ℕ)) (e : Said) → event_from k o ≡ Some e
    → Line (kind_letter k ∷ after o) e
unfolding kind_letter after
from_line K.Open o e q = plain_line K.Open o e (reads K.Open o ∙ q)
from_line K.Begin None e q = absurd (none-some e q)
from_line K.Begin (Some s) e q = begin_line s e q
from_line K.Read o e q = plain_line K.Read o e (reads K.Read o ∙ q)
from_line K.Write o e q = plain_line K.Write o e (reads K.Write o ∙ q)
from_line K.Erase o e q = plain_line K.Erase o e (reads K.Erase o ∙ q)
from_line K.Commit o e q = plain_line K.Commit o e (reads K.Commit o ∙ q)
from_line K.RollBack o e q = plain_line K.RollBack o e (reads K.RollBack o ∙ q)
from_line K.Advance o e q = plain_line K.Advance o e (reads K.Advance o ∙ q)
from_line K.Status o e q = plain_line K.Status o e (reads K.Status o ∙ q)
from_line K.Notice o e q = plain_line K.Notice o e (reads K.Notice o ∙ q)

kind_for_gives : (c : ℕ) (k : EventKind) → kind_for c ≡ Some k → c ≡ kind_letter k
unfolding kind_letter
kind_for_gives c k q = grind (arith, nat_tests)

-- a word that names a kind is its letter
kind_in_gives : (w : List ℕ) (k : EventKind) → kind_in w ≡ Some k → w ≡ kind_letter k ∷ []
kind_in_gives w k q =
    ⊎_elim
    (λ (t : eqb (length w) 1 ≡ true).
    let n = eqb-true (length w) 1 t in
    let l = kind_for_gives (get_or w 0 0) k (rw t at q) in
    sym (take_all 1 w (omega arith)) ∙ (take_more w 0 0 (omega arith) ∙ ap (λ c. c ∷ []) l))
    (λ (f : eqb (length w) 1 ≡ false). absurd (none-some _ (rw f at q)))
    (cases_Bool (eqb (length w) 1))

in_line : (s : List ℕ) (e : Said) → event_in s ≡ Some e → Line s e
in_line s e q =
    option_and_then_some (λ k. event_from k (others 32 s)) (kind_in (first 32 s)) e q
    (λ k h r.
    let w = kind_in_gives (first 32 s) k h in
    let b = ap (λ x. x ++ after (others 32 s)) (sym w) ∙ whole s in
    subst (λ x. Line x e) b (from_line k (others 32 s) e r))

pub event_gives : (s : List ℕ) (e : Said) → event_of s ≡ Some e → (s ≡ written e) × Formed e
event_gives s e q =
    ⊎_elim
    (λ (t : leb (length s) 64 ≡ true).
    let l = in_line s e (rw t at q) in
    let n : length (written e) ≤ 64 = subst (λ x. length x ≤ 64) l.bytes (leb-true _ _ t) in
    (l.bytes, record { small = l.small; name = l.good; short = n }))
    (λ (f : leb (length s) 64 ≡ false). absurd (none-some _ (rw f at q)))
    (cases_Bool (leb (length s) 64))
