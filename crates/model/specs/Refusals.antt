-- The table of refusals. Causes are tried from the top down, and the first that applies wins.
use Rattle.std.specs.Prelude.{ℕ, ◌^◌, Bool, false, cond, not, ◌&&◌, ◌||◌, List, [], ◌∷◌, ◌++◌}
use Rattle.std.specs.Prelude.{length, is_some, Some, None, Option, ◌==◌, nat_le, nat_lt}
use Rattle.std.specs.Option.{is_none, unwrap_or}
use Rattle.model.specs.Slots.{Slot, held, note_fits, oldest, other_section, other_writer}
use Rattle.model.specs.Slots.{free_slot, full, tally, read_answer}
use Rattle.model.specs.Worlds.{World, slot_with, own_of}

-- a line of the table: when it applies, its number, and what is returned
pub record Rule : Type 0 where
  pub applies : Bool
  pub number : ℕ
  pub returns : List ℕ

abbrev pub rule : Bool → ℕ → List ℕ → Rule
rule b n xs = record { applies = b; number = n; returns = xs }

-- a refusal's number, and what is returned with it
abbrev pub Refused : Type 0
Refused = ℕ × List ℕ

abbrev pub refusal : List Rule → Option Refused
refusal [] = None
refusal (r ∷ rs) = cond r.applies (Some (r.number, r.returns)) (refusal rs)

-- 1: not opened
abbrev pub not_opened : World → Rule
not_opened w = rule (not w.opened) 1 []

-- 2: already opened
abbrev pub already_opened : World → Rule
already_opened w = rule w.opened 2 []

-- 3: a stamp out of range or not above the last, which is returned
abbrev pub good_stamp : World → ℕ → Bool
good_stamp w t = nat_lt 0 t && (nat_lt t (2 ^ 62) && nat_lt w.last t)

abbrev pub bad_stamp : World → ℕ → Rule
bad_stamp w t = rule (not (good_stamp w t)) 3 (w.last ∷ [])

-- 4: 32 slots held
abbrev pub no_free_slot : World → Rule
no_free_slot w = rule (full w.slots) 4 []

-- 5: the granule is not in the store
abbrev pub no_granule : World → ℕ → Rule
no_granule w g = rule (not (nat_lt g w.store.archive.count)) 5 []

-- 7: no slot has this stamp
abbrev pub no_transaction : List Slot → ℕ → Rule
no_transaction xs t = rule (is_none (held t xs)) 7 []

-- 8: not the present attempt, which is returned
abbrev pub old_attempt : List Slot → ℕ → ℕ → Rule
old_attempt xs t a =
    rule (not ((slot_with xs t).attempt == a)) 8 ((slot_with xs t).attempt ∷ [])

-- 9: not a phase that the call needs; the phase is returned
abbrev pub wrong_phase : List Slot → ℕ → (ℕ → Bool) → Rule
wrong_phase xs t needed =
    rule (not (needed (slot_with xs t).phase)) 9 ((slot_with xs t).phase ∷ [])

-- 10: another's open section writes the granule; its stamp is returned
abbrev pub section_writes : List Slot → ℕ → ℕ → Rule
section_writes xs t g =
    rule (is_some (oldest (other_section t g) xs)) 10
    ((unwrap_or (oldest (other_section t g) xs) free_slot).stamp ∷ [])

-- 11: the store refuses to tell the granule's newest version; granule and fault are returned
abbrev pub not_told : World → ℕ → ℕ → Rule
not_told w t g =
    rule (is_none (own_of w.slots t g) && not (w.store.archive.reach g)) 11 (g ∷ 22 ∷ [])

-- 12: a 65th note
abbrev pub note_65 : World → ℕ → ℕ → Rule
note_65 w t g =
    rule (is_none (own_of w.slots t g) && not (note_fits g (slot_with w.slots t).notes))
    12 []

-- 13: a 17th write
abbrev pub write_17 : World → ℕ → ℕ → Rule
write_17 w t g =
    rule (is_none (own_of w.slots t g) && nat_le 16 (length (slot_with w.slots t).writes))
    13 []

-- 14: of a granule not yet written, the free places do not exceed the other writers
abbrev pub no_place : World → ℕ → ℕ → Rule
no_place w t g =
    rule (is_none (own_of w.slots t g)
    && nat_le (w.store.room g) (tally (other_writer t g) w.slots)) 14 []

-- 15: a code that is not of the entry kind; the code is returned
abbrev pub foreign : (ℕ → Bool) → Option ℕ → Bool
foreign kind None = false
foreign kind (Some c) = not (kind c)

abbrev pub listed_code : Option ℕ → List ℕ
listed_code None = []
listed_code (Some c) = c ∷ []

abbrev pub foreign_code : (ℕ → Bool) → Option ℕ → Rule
foreign_code kind o = rule (foreign kind o) 15 (listed_code o)

abbrev pub running : ℕ → Bool
running p = p == 1

abbrev pub running_or_waiting : ℕ → Bool
running_or_waiting p = p == 1 || p == 2

-- what a read of granule g by transaction t answers
abbrev pub read_code : World → ℕ → ℕ → Option ℕ
read_code w t g = read_answer (own_of w.slots t g) (w.store.archive.history g)

-- a call of transaction t in its attempt a
abbrev pub of_attempt : List Slot → ℕ → ℕ → List Rule
of_attempt xs t a = no_transaction xs t ∷ old_attempt xs t a ∷ []

-- and where that needs a phase
abbrev pub of_phase : List Slot → ℕ → ℕ → (ℕ → Bool) → List Rule
of_phase xs t a needed = of_attempt xs t a ++ (wrong_phase xs t needed ∷ [])

-- a call of running transaction t on granule g
abbrev pub on_granule : World → ℕ → ℕ → ℕ → List Rule
on_granule w t a g =
    not_opened w ∷ no_granule w g
    ∷ (of_phase w.slots t a running ++ (section_writes w.slots t g ∷ []))

-- a write or an erasure but for the code's kind
abbrev pub on_writing : World → ℕ → ℕ → ℕ → List Rule
on_writing w t a g = on_granule w t a g ++ (write_17 w t g ∷ no_place w t g ∷ [])

-- a read but for the code's kind
abbrev pub on_reading : World → ℕ → ℕ → ℕ → List Rule
on_reading w t a g = on_granule w t a g ++ (not_told w t g ∷ note_65 w t g ∷ [])
