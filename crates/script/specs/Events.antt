-- The events, their letters, and what follows the letters.
use Rattle.std.specs.Prelude.{ℕ, Bool, cond, ◌&&◌, List, length, Some, None}
use Rattle.std.specs.Prelude.{Option, ◌==◌, nat_le, slice_index}
use Rattle.std.specs.Char.{is_ascii_alphanumeric}
use Rattle.std.specs.List.{list_all}
use Rattle.script.specs.declared.events.Event.{Event}
use Rattle.script.specs.declared.events.Event.TheVariants as E
use Rattle.script.specs.declared.events.EventKind.{EventKind}
use Rattle.script.specs.declared.events.EventKind.TheVariants as K

-- an event, with the tablet's name as a list of bytes
pub data Said : Type 0 where
  open_event : Said
  begin_event : (stamp : ℕ) (name : List ℕ) → Said
  read_event : (stamp attempt granule : ℕ) → Said
  write_event : (stamp attempt granule code : ℕ) → Said
  erase_event : (stamp attempt granule : ℕ) → Said
  commit_event : (stamp attempt : ℕ) → Said
  roll_back_event : (stamp attempt : ℕ) → Said
  advance_event : Said
  status_event : (stamp : ℕ) → Said
  notice_event : (number : ℕ) → Said

abbrev pub said : Event → Said
said E.Open = open_event
said (E.Begin t n) = begin_event t n.now
said (E.Read t a g) = read_event t a g
said (E.Write t a g c) = write_event t a g c
said (E.Erase t a g) = erase_event t a g
said (E.Commit t a) = commit_event t a
said (E.RollBack t a) = roll_back_event t a
said E.Advance = advance_event
said (E.Status t) = status_event t
said (E.Notice n) = notice_event n

-- o b r w e c k s q n
abbrev pub letter_of : Said → ℕ
letter_of open_event = 111
letter_of (begin_event t n) = 98
letter_of (read_event t a g) = 114
letter_of (write_event t a g c) = 119
letter_of (erase_event t a g) = 101
letter_of (commit_event t a) = 99
letter_of (roll_back_event t a) = 107
letter_of advance_event = 115
letter_of (status_event t) = 113
letter_of (notice_event n) = 110

abbrev pub kind_for : ℕ → Option EventKind
kind_for c =
    cond (c == 111) (Some K.Open)
    (cond (c == 98) (Some K.Begin)
    (cond (c == 114) (Some K.Read)
    (cond (c == 119) (Some K.Write)
    (cond (c == 101) (Some K.Erase)
    (cond (c == 99) (Some K.Commit)
    (cond (c == 107) (Some K.RollBack)
    (cond (c == 115) (Some K.Advance)
    (cond (c == 113) (Some K.Status)
    (cond (c == 110) (Some K.Notice) None)))))))))

-- an event if there are as many numbers as it has
abbrev pub counted : ℕ → List ℕ → Said → Option Said
counted k ns e = cond (length ns == k) (Some e) None

-- the numbers stand in the order stamp, attempt, granule, code
abbrev pub with_numbers : EventKind → List ℕ → Option Said
with_numbers K.Open ns = counted 0 ns open_event
with_numbers K.Begin ns = None
with_numbers K.Read ns =
    counted 3 ns (read_event (slice_index ns 0) (slice_index ns 1) (slice_index ns 2))
with_numbers K.Write ns =
    counted 4 ns
    (write_event (slice_index ns 0) (slice_index ns 1) (slice_index ns 2) (slice_index ns 3))
with_numbers K.Erase ns =
    counted 3 ns (erase_event (slice_index ns 0) (slice_index ns 1) (slice_index ns 2))
with_numbers K.Commit ns = counted 2 ns (commit_event (slice_index ns 0) (slice_index ns 1))
with_numbers K.RollBack ns = counted 2 ns (roll_back_event (slice_index ns 0) (slice_index ns 1))
with_numbers K.Advance ns = counted 0 ns advance_event
with_numbers K.Status ns = counted 1 ns (status_event (slice_index ns 0))
with_numbers K.Notice ns = counted 1 ns (notice_event (slice_index ns 0))

-- a tablet's name has 1 to 8 letters or digits
abbrev pub name_ok : List ℕ → Bool
name_ok n = nat_le 1 (length n) && (nat_le (length n) 8 && list_all is_ascii_alphanumeric n)
