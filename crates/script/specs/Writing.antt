-- An event as a line.
use Rattle.std.specs.Prelude.{◌≡◌, ℕ, ◌^◌, ◌<◌, ◌≤◌, Bool, true, List, [], ◌∷◌, ◌++◌, length, Some}
use Rattle.std.specs.Prelude.{None, decimal, Option, ◌≢◌}
use Rattle.std.specs.List.{AllByRecursion}
use Rattle.script.specs.Events.{Said, letter_of, name_ok}
use Rattle.script.specs.Events.{open_event, begin_event, read_event, write_event, erase_event}
use Rattle.script.specs.Events.{commit_event, roll_back_event, advance_event, status_event}
use Rattle.script.specs.Events.{notice_event}

-- each number in decimal after one space
abbrev pub spaced : List ℕ → List ℕ
spaced [] = []
spaced (n ∷ ns) = 32 ∷ (decimal n ++ spaced ns)

abbrev pub numbers_of : Said → List ℕ
numbers_of open_event = []
numbers_of (begin_event t n) = t ∷ []
numbers_of (read_event t a g) = t ∷ a ∷ g ∷ []
numbers_of (write_event t a g c) = t ∷ a ∷ g ∷ c ∷ []
numbers_of (erase_event t a g) = t ∷ a ∷ g ∷ []
numbers_of (commit_event t a) = t ∷ a ∷ []
numbers_of (roll_back_event t a) = t ∷ a ∷ []
numbers_of advance_event = []
numbers_of (status_event t) = t ∷ []
numbers_of (notice_event n) = n ∷ []

-- the tablet's name after one space
abbrev pub named : Said → List ℕ
named open_event = []
named (begin_event t n) = 32 ∷ n
named (read_event t a g) = []
named (write_event t a g c) = []
named (erase_event t a g) = []
named (commit_event t a) = []
named (roll_back_event t a) = []
named advance_event = []
named (status_event t) = []
named (notice_event n) = []

abbrev pub good_name : Said → Bool
good_name open_event = true
good_name (begin_event t n) = name_ok n
good_name (read_event t a g) = true
good_name (write_event t a g c) = true
good_name (erase_event t a g) = true
good_name (commit_event t a) = true
good_name (roll_back_event t a) = true
good_name advance_event = true
good_name (status_event t) = true
good_name (notice_event n) = true

-- the line of an event: its letter, its numbers and the tablet's name
abbrev pub written : Said → List ℕ
written e = letter_of e ∷ (spaced (numbers_of e) ++ named e)

-- an event that a line of at most 64 bytes can hold
pub record Formed (e : Said) : Type 0 where
  pub small : AllByRecursion (λ n. n < 2 ^ 64) (numbers_of e)
  pub name : good_name e ≡ true
  pub short : length (written e) ≤ 64

-- a line is read as the one event that is written so, or as none where no event is
abbrev pub Format : List ℕ → Option Said → Type 0
Format s None = (e : Said) → Formed e → s ≢ written e
Format s (Some e) = (s ≡ written e) × Formed e × ((f : Said) → Formed f → s ≡ written f → f ≡ e)
