-- A transaction's slot, what it notes and writes, and what a list of slots tells.
use Rattle.std.specs.Prelude.{ℕ, suc, Bool, true, false, cond, not, ◌&&◌, ◌||◌, List, [], ◌∷◌, ◌++◌}
use Rattle.std.specs.Prelude.{length, take, find, is_some, Some, None, Option, ◌==◌, nat_le, nat_lt}
use Rattle.std.specs.List.{list_any}
use Rattle.std.specs.Option.{option_and_then, option_map}
use Rattle.model.specs.declared.version.Content.{Content}
use Rattle.model.specs.declared.version.Content.TheVariants.{Entry, Absence}
use Rattle.model.specs.declared.version.Version.{Version}
use Rattle.model.specs.declared.version.Write.{Write}
use Rattle.model.specs.declared.phase.Mark.{Mark}
use Rattle.model.specs.declared.phase.Mark.TheVariants.{Unmarked, Marked, Checked}
use Rattle.model.specs.Archives.{newest}
use Rattle.model.specs.Numbers.{live}

-- READ SETS AND WRITE SETS

-- an entry's code; an absence has none
abbrev pub code_of : Content → Option ℕ
code_of (Entry c) = Some c
code_of Absence = None

-- what a version is answered by: an entry's code, or none
abbrev pub answer_of : Option Version → Option ℕ
answer_of o = option_and_then (λ v. code_of v.content) o

abbrev pub write_to : ℕ → Content → Write
write_to g c = record { granule = g; content = c }

-- the transaction's own write of a granule
abbrev pub own : ℕ → List Write → Option Content
own g ws = option_map (λ w. w.content) (find (λ w. w.granule == g) ws)

-- a later write of a granule replaces the earlier; order is that of first writing
abbrev pub set_own : ℕ → Content → List Write → List Write
set_own g c [] = write_to g c ∷ []
set_own g c (w ∷ ws) = cond (w.granule == g) (write_to g c ∷ ws) (w ∷ set_own g c ws)

abbrev pub mem : ℕ → List ℕ → Bool
mem g ns = list_any (λ n. n == g) ns

-- notes are the granules read, in order, each once
abbrev pub note : ℕ → List ℕ → List ℕ
note g ns = cond (mem g ns) ns (ns ++ (g ∷ []))

-- whether a note of g finds a place among at most 64
abbrev pub note_fits : ℕ → List ℕ → Bool
note_fits g ns = mem g ns || nat_lt (length ns) 64

-- the first granule, in order of writing, that is found among the notes
abbrev pub conflict : List Write → List ℕ → Option ℕ
conflict [] ns = None
conflict (w ∷ ws) ns = cond (mem w.granule ns) (Some w.granule) (conflict ws ns)

-- a read is answered by the own write, else by the newest version
abbrev pub read_answer : Option Content → List Version → Option ℕ
read_answer None vs = answer_of (newest vs)
read_answer (Some c) vs = code_of c

-- the notes after a read: none is taken where there is an own write
abbrev pub noted_read : Option Content → ℕ → List ℕ → List ℕ
noted_read None g ns = note g ns
noted_read (Some c) g ns = ns

-- the notes taken before the mark
abbrev pub marked_notes : Mark → List ℕ → List ℕ
marked_notes Unmarked ns = []
marked_notes (Marked n) ns = take n ns
marked_notes Checked ns = []

abbrev pub is_marked : Mark → Bool
is_marked Unmarked = false
is_marked (Marked n) = true
is_marked Checked = false

-- SLOTS

-- phases go by their numbers; `puts` counts the writes that have been appended
pub record Slot : Type 0 where
  pub stamp : ℕ
  pub attempt : ℕ
  pub phase : ℕ
  pub notes : List ℕ
  pub writes : List Write
  pub puts : ℕ
  pub mark : Mark

abbrev pub slot : ℕ → ℕ → ℕ → List ℕ → List Write → ℕ → Mark → Slot
slot t a p ns ws k m = record {
  stamp = t;
  attempt = a;
  phase = p;
  notes = ns;
  writes = ws;
  puts = k;
  mark = m;
}

abbrev pub free_slot : Slot
free_slot = slot 0 0 0 [] [] 0 Unmarked

abbrev pub new_slot : ℕ → Slot
new_slot t = slot t 1 1 [] [] 0 Unmarked

abbrev pub with_notes : List ℕ → Slot → Slot
with_notes ns x =
    slot x.stamp x.attempt x.phase ns x.writes x.puts x.mark

abbrev pub with_writes : List Write → Slot → Slot
with_writes ws x =
    slot x.stamp x.attempt x.phase x.notes ws x.puts x.mark

abbrev pub with_mark : Mark → Slot → Slot
with_mark m x =
    slot x.stamp x.attempt x.phase x.notes x.writes x.puts m

abbrev pub in_phase : ℕ → Slot → Slot
in_phase p x = slot x.stamp x.attempt p x.notes x.writes x.puts x.mark

-- into its section, with nothing appended yet
abbrev pub in_section : Slot → Slot
in_section x = slot x.stamp x.attempt 3 x.notes x.writes 0 x.mark

-- one more of its writes has been appended
abbrev pub next_put : ℕ → ℕ → ℕ
next_put k n = cond (nat_lt k n) (suc k) k

abbrev pub one_put : Slot → Slot
one_put x =
    slot x.stamp x.attempt x.phase x.notes x.writes
    (next_put x.puts (length x.writes)) x.mark

-- attempts stop at what 64 bits hold; a transaction is restarted far less often
abbrev pub next_attempt : ℕ → ℕ
next_attempt n = cond (nat_lt n 18446744073709551615) (suc n) n

-- back to phase 1 with the same stamp, the next attempt and empty notes and writes
abbrev pub restarted : Slot → Slot
restarted x = slot x.stamp (next_attempt x.attempt) 1 [] [] x.puts Checked

abbrev pub committed : Slot → Slot
committed x = slot x.stamp x.attempt 5 [] [] x.puts x.mark

abbrev pub is_live : Slot → Bool
is_live x = live x.phase

-- a live transaction younger than t has its notes marked
abbrev pub mark_younger : ℕ → Slot → Slot
mark_younger t x =
    cond (nat_lt t x.stamp && is_live x) (with_mark (Marked (length x.notes)) x) x

-- LISTS OF SLOTS

abbrev pub is_free : Slot → Bool
is_free x = x.phase == 0

abbrev pub holds : ℕ → Slot → Bool
holds t x = not (is_free x) && x.stamp == t

-- the slot that has the stamp
abbrev pub held : ℕ → List Slot → Option Slot
held t xs = find (holds t) xs

-- the slot that has the stamp is changed, and no other
abbrev pub adjust : ℕ → (Slot → Slot) → List Slot → List Slot
adjust t f [] = []
adjust t f (x ∷ xs) = cond (holds t x) (f x ∷ xs) (x ∷ adjust t f xs)

-- the first free slot is taken
abbrev pub place : Slot → List Slot → List Slot
place y [] = []
place y (x ∷ xs) = cond (is_free x) (y ∷ xs) (x ∷ place y xs)

-- no slot is free
abbrev pub full : List Slot → Bool
full [] = true
full (x ∷ xs) = not (is_free x) && full xs

abbrev pub tally : (Slot → Bool) → List Slot → ℕ
tally p [] = 0
tally p (x ∷ xs) = cond (p x) (suc (tally p xs)) (tally p xs)

abbrev pub elder : Slot → Option Slot → Option Slot
elder x None = Some x
elder x (Some y) = cond (nat_le x.stamp y.stamp) (Some x) (Some y)

-- the oldest of those that pass a test: older means a lesser stamp
abbrev pub oldest : (Slot → Bool) → List Slot → Option Slot
oldest p [] = None
oldest p (x ∷ xs) = cond (p x) (elder x (oldest p xs)) (oldest p xs)

-- live and older than t
abbrev pub older_live : ℕ → Slot → Bool
older_live t x = is_live x && nat_lt x.stamp t

-- in its section or checking
abbrev pub validating : Slot → Bool
validating x = x.phase == 3 || x.phase == 4

-- live, marked and still to be checked
abbrev pub due : Slot → Bool
due x = is_live x && is_marked x.mark

-- another's open section that writes the granule
abbrev pub other_section : ℕ → ℕ → Slot → Bool
other_section t g x =
    (x.phase == 3) && (not (x.stamp == t) && is_some (own g x.writes))

-- another running or waiting transaction that writes the granule
abbrev pub other_writer : ℕ → ℕ → Slot → Bool
other_writer t g x =
    (x.phase == 1 || x.phase == 2)
    && (not (x.stamp == t) && is_some (own g x.writes))

-- to wake: if the oldest live transaction is in phase 2, it goes to phase 3
abbrev pub woken_by : Option Slot → List Slot → List Slot
woken_by None xs = xs
woken_by (Some x) xs = cond (x.phase == 2) (adjust x.stamp in_section xs) xs

abbrev pub woken : List Slot → List Slot
woken xs = woken_by (oldest is_live xs) xs
