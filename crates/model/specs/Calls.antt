-- The calls: what each answers, and what certifier and store then are.
use Rattle.std.specs.Prelude.{◌≡◌, ℕ, Bool, true, cond, List, [], ◌∷◌, ◌++◌, length, Some, None, Ok}
use Rattle.std.specs.Prelude.{Err, Option, Result, ◌==◌}
use Rattle.model.specs.declared.version.Content.{Content}
use Rattle.model.specs.declared.version.Content.TheVariants.{Entry, Absence}
use Rattle.model.specs.declared.fault.Fault.{Fault}
use Rattle.model.specs.declared.phase.Phase.{Phase}
use Rattle.model.specs.declared.phase.Phase.TheVariants as P
use Rattle.model.specs.declared.answer.Status.{Status}
use Rattle.model.specs.declared.answer.Opened.{Opened}
use Rattle.model.specs.declared.answer.Reply.{Reply}
use Rattle.model.specs.declared.answer.Reply.TheVariants as Y
use Rattle.model.specs.declared.answer.Refusal.{Refusal}
use Rattle.model.specs.declared.answer.Refusal.TheVariants as R
use Rattle.model.specs.Numbers.{refusal_number, returned}
use Rattle.model.specs.Archives.{latest_of}
use Rattle.model.specs.Slots.{Slot, new_slot, free_slot, with_notes, with_writes, in_phase}
use Rattle.model.specs.Slots.{in_section, set_own, noted_read, adjust, place, woken}
use Rattle.model.specs.Worlds.{World, world, with_slots, slot_with, own_of, older, reaching}
use Rattle.model.specs.Refusals.{Rule, Refused, refusal, not_opened, already_opened, bad_stamp}
use Rattle.model.specs.Refusals.{no_free_slot, no_transaction, of_phase, on_reading, on_writing}
use Rattle.model.specs.Refusals.{foreign_code, running, running_or_waiting, read_code}
use Rattle.model.specs.Plans.{plan_of, after_plan, put_plan, step_of, plan_refused}

-- a call; an entry kind is a test on codes, and a notice is what is within reach after it
pub data Call : Type 0 where
  call_open : Call
  call_begin : ℕ → Call
  call_read : ℕ → ℕ → ℕ → (ℕ → Bool) → Call
  call_write : ℕ → ℕ → ℕ → ℕ → (ℕ → Bool) → Call
  call_erase : ℕ → ℕ → ℕ → Call
  call_commit : ℕ → ℕ → Call
  call_roll_back : ℕ → ℕ → Call
  call_advance : Call
  call_status : ℕ → Call
  call_notice : (ℕ → Bool) → Call

-- an answer; of a refusal its number and what is returned
pub data Answer : Type 0 where
  accepted : Reply → Answer
  refused : ℕ → List ℕ → Answer

-- the lines of the table of refusals for each call
abbrev pub rules : Call → World → List Rule
rules call_open w = already_opened w ∷ []
rules (call_begin t) w = not_opened w ∷ bad_stamp w t ∷ no_free_slot w ∷ []
rules (call_read t a g kind) w = on_reading w t a g ++ (foreign_code kind (read_code w t g) ∷ [])
rules (call_write t a g c kind) w = on_writing w t a g ++ (foreign_code kind (Some c) ∷ [])
rules (call_erase t a g) w = on_writing w t a g
rules (call_commit t a) w = not_opened w ∷ of_phase w.slots t a running
rules (call_roll_back t a) w = not_opened w ∷ of_phase w.slots t a running_or_waiting
rules call_advance w = not_opened w ∷ plan_refused (plan_of w.slots) w.store
rules (call_status t) w = not_opened w ∷ no_transaction w.slots t ∷ []
rules (call_notice reach) w = not_opened w ∷ []

-- the note that a read takes
abbrev pub noting_read : ℕ → ℕ → World → World
noting_read t g w =
    with_slots
    (adjust t
    (with_notes (noted_read (own_of w.slots t g) g (slot_with w.slots t).notes))
    w.slots) w

-- the record of a write
abbrev pub recording : ℕ → ℕ → Content → World → World
recording t g c w =
    with_slots (adjust t (with_writes (set_own g c (slot_with w.slots t).writes)) w.slots) w

abbrev pub opened_with : World → Opened
opened_with w = record {
  granules = w.store.archive.count;
  last = latest_of w.store.archive;
}

-- the phase with a number
abbrev pub phase_of : ℕ → Phase
phase_of n =
    cond (n == 1) P.Running (cond (n == 2) P.Waiting (cond (n == 3) P.Section
    (cond (n == 4) P.Checking (cond (n == 5) P.Committed P.Free))))

-- a slot's status, with so many older live transactions
abbrev pub status_of : Slot → ℕ → Status
status_of x n = record {
  phase = phase_of x.phase;
  attempt = x.attempt;
  older = n;
  notes = length x.notes;
}

-- what an accepted call leaves
abbrev pub after : Call → World → World
after call_open w = world true (latest_of w.store.archive) w.slots w.store
after (call_begin t) w = world w.opened t (place (new_slot t) w.slots) w.store
after (call_read t a g kind) w = noting_read t g w
after (call_write t a g c kind) w = recording t g (Entry c) w
after (call_erase t a g) w = recording t g Absence w
after (call_commit t a) w =
    with_slots (adjust t (cond (older t w.slots == 0) in_section (in_phase 2)) w.slots) w
after (call_roll_back t a) w = with_slots (woken (adjust t (λ x. free_slot) w.slots)) w
after call_advance w =
    world w.opened w.last (after_plan (plan_of w.slots) w.slots)
    (put_plan (plan_of w.slots) w.store)
after (call_status t) w = w
after (call_notice reach) w =
    world w.opened w.last w.slots (reaching reach w.store)

-- what an accepted call answers
abbrev pub reply : Call → World → Reply
reply call_open w = Y.Opened (opened_with w)
reply (call_begin t) w = Y.Began 1
reply (call_read t a g kind) w = Y.Read (read_code w t g)
reply (call_write t a g c kind) w = Y.Recorded
reply (call_erase t a g) w = Y.Recorded
reply (call_commit t a) w = Y.Committing (cond (older t w.slots == 0) P.Section P.Waiting)
reply (call_roll_back t a) w = Y.RolledBack
reply call_advance w = Y.Stepped (step_of (plan_of w.slots))
reply (call_status t) w = Y.Status (status_of (slot_with w.slots t) (older t w.slots))
reply (call_notice reach) w = Y.Noticed

-- a refused call leaves all as it was, but 15 keeps the note that its read took
abbrev pub spared : Call → ℕ → World → World
spared call_open n w = w
spared (call_begin t) n w = w
spared (call_read t a g kind) n w = cond (n == 15) (noting_read t g w) w
spared (call_write t a g c kind) n w = w
spared (call_erase t a g) n w = w
spared (call_commit t a) n w = w
spared (call_roll_back t a) n w = w
spared call_advance n w = w
spared (call_status t) n w = w
spared (call_notice reach) n w = w

abbrev pub answered : Option Refused → Call → World → World × Answer
answered None c w = (after c w, accepted (reply c w))
answered (Some r) c w = (spared c r.0 w, refused r.0 r.1)

-- what a call does to a certifier beside its store, and its answer
abbrev pub step : Call → World → World × Answer
step c w = answered (refusal (rules c w)) c w

-- a result as an answer
abbrev pub outcome : {X : Type 0} → (X → Reply) → Result X Refusal → Answer
outcome f (Ok x) = accepted (f x)
outcome f (Err r) = refused (refusal_number r) (returned r)

-- the call c in the world w gives the answer a and leaves the world w'
pub record Does (w : World) (c : Call) (a : Answer) (w' : World) : Type 0 where
  pub after : w' ≡ (step c w).0
  pub answer : a ≡ (step c w).1

-- a fault that is returned arose in the store, at the granule that is returned with it
abbrev pub FromStore : (ℕ → Fault → Type 0) → Refusal → Type 0
FromStore origin R.NotOpened = Unit {0}
FromStore origin R.AlreadyOpened = Unit {0}
FromStore origin (R.BadStamp t) = Unit {0}
FromStore origin R.NoFreeSlot = Unit {0}
FromStore origin R.NoSuchGranule = Unit {0}
FromStore origin R.NoSuchTransaction = Unit {0}
FromStore origin (R.OldAttempt a) = Unit {0}
FromStore origin (R.WrongPhase p) = Unit {0}
FromStore origin (R.InSection t) = Unit {0}
FromStore origin (R.Store g f) = origin g f
FromStore origin R.TooManyNotes = Unit {0}
FromStore origin R.TooManyWrites = Unit {0}
FromStore origin R.NoFreePlace = Unit {0}
FromStore origin (R.ForeignCode c) = Unit {0}

abbrev pub Arising : {X : Type 0} → (ℕ → Fault → Type 0) → Result X Refusal → Type 0
Arising origin (Ok x) = Unit {0}
Arising origin (Err r) = FromStore origin r
