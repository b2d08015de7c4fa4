-- Which event a line is.
use Rattle.std.specs.Prelude.{ℕ, cond, List, [], ◌∷◌, ◌++◌, length, Some, None, Option, ◌==◌}
use Rattle.std.specs.Prelude.{nat_le, nat_lt, slice_index}
use Rattle.std.specs.Option.{option_and_then}
use Rattle.script.specs.declared.events.EventKind.{EventKind}
use Rattle.script.specs.declared.events.EventKind.TheVariants as K
use Rattle.script.specs.Numbers.{number_of}
use Rattle.script.specs.Pieces.{first, others, pieces_left}
use Rattle.script.specs.Events.{Said, kind_for, with_numbers, name_ok}
use Rattle.script.specs.Events.{open_event, begin_event, read_event, write_event, erase_event}
use Rattle.script.specs.Events.{commit_event, roll_back_event, advance_event, status_event}
use Rattle.script.specs.Events.{notice_event}

-- the words of a line, with one space between each two
abbrev pub words_left : Option (List ℕ) → List (List ℕ)
words_left o = pieces_left 32 ([] ∷ []) o

-- the numbers ns, and those that the words are, if there are at most four
abbrev pub gathered : List ℕ → List (List ℕ) → Option (List ℕ)
gathered ns [] = Some ns
gathered ns (w ∷ ws) =
    cond (nat_lt (length ns) 4)
    (option_and_then (λ n. gathered (ns ++ (n ∷ [])) ws) (number_of w)) None

-- what follows the letter, after a space
abbrev pub plain_from : EventKind → Option (List ℕ) → Option Said
plain_from k o = option_and_then (with_numbers k) (gathered [] (words_left o))

abbrev pub begin_with : Option (List ℕ) → Option ℕ → Option Said
begin_with None t = None
begin_with (Some n) None = None
begin_with (Some n) (Some t) = cond (name_ok n) (Some (begin_event t n)) None

abbrev pub begin_of : List ℕ → Option Said
begin_of s = begin_with (others 32 s) (number_of (first 32 s))

abbrev pub event_from : EventKind → Option (List ℕ) → Option Said
event_from K.Open o = plain_from K.Open o
event_from K.Begin o = option_and_then begin_of o
event_from K.Read o = plain_from K.Read o
event_from K.Write o = plain_from K.Write o
event_from K.Erase o = plain_from K.Erase o
event_from K.Commit o = plain_from K.Commit o
event_from K.RollBack o = plain_from K.RollBack o
event_from K.Advance o = plain_from K.Advance o
event_from K.Status o = plain_from K.Status o
event_from K.Notice o = plain_from K.Notice o

-- a line's first word is one letter
abbrev pub kind_in : List ℕ → Option EventKind
kind_in w = cond (length w == 1) (kind_for (slice_index w 0)) None

abbrev pub event_in : List ℕ → Option Said
event_in s = option_and_then (λ k. event_from k (others 32 s)) (kind_in (first 32 s))

-- a line has at most 64 bytes
abbrev pub event_of : List ℕ → Option Said
event_of s = cond (nat_le (length s) 64) (event_in s) None

-- how the numbers of a line are read one by one: the next word as a number, what follows that
-- word, an event by the two, and one where no word follows
abbrev pub next_number : Option (List ℕ) → Option ℕ
next_number o = option_and_then (λ s. number_of (first 32 s)) o

abbrev pub after_number : Option (List ℕ) → Option (List ℕ)
after_number o = option_and_then (others 32) o

abbrev pub by_next : (ℕ → Option (List ℕ) → Option Said) → Option (List ℕ) → Option Said
by_next f o = option_and_then (λ n. f n (after_number o)) (next_number o)

abbrev pub at_end : Said → Option (List ℕ) → Option Said
at_end e None = Some e
at_end e (Some s) = None

-- as many numbers as an event of the kind has; this is `plain_from`
abbrev pub read_from : EventKind → Option (List ℕ) → Option Said
read_from K.Open o = at_end open_event o
read_from K.Begin o = None
read_from K.Read o = by_next (λ t. by_next (λ a. by_next (λ g. at_end (read_event t a g)))) o
read_from K.Write o =
    by_next (λ t. by_next (λ a. by_next (λ g. by_next (λ c. at_end (write_event t a g c))))) o
read_from K.Erase o = by_next (λ t. by_next (λ a. by_next (λ g. at_end (erase_event t a g)))) o
read_from K.Commit o = by_next (λ t. by_next (λ a. at_end (commit_event t a))) o
read_from K.RollBack o = by_next (λ t. by_next (λ a. at_end (roll_back_event t a))) o
read_from K.Advance o = at_end advance_event o
read_from K.Status o = by_next (λ t. at_end (status_event t)) o
read_from K.Notice o = by_next (λ n. at_end (notice_event n)) o
