-- The numbers of causes, phases and refusals, and what is returned with a refusal.
use Rattle.std.specs.Prelude.{ℕ, Bool, ◌&&◌, List, [], ◌∷◌, nat_le}
use Rattle.model.specs.declared.fault.Cause.{Cause}
use Rattle.model.specs.declared.fault.Cause.TheVariants as C
use Rattle.model.specs.declared.phase.Phase.{Phase}
use Rattle.model.specs.declared.phase.Phase.TheVariants as P
use Rattle.model.specs.declared.answer.Refusal.{Refusal}
use Rattle.model.specs.declared.answer.Refusal.TheVariants as R

abbrev pub cause_number : Cause → ℕ
cause_number C.Missing = 21
cause_number C.OutOfReach = 22
cause_number C.BadStamp = 23
cause_number C.NoFreePlace = 24

-- a free slot counts as phase 0
abbrev pub phase_number : Phase → ℕ
phase_number P.Free = 0
phase_number P.Running = 1
phase_number P.Waiting = 2
phase_number P.Section = 3
phase_number P.Checking = 4
phase_number P.Committed = 5

-- phases 1 to 4 are live
abbrev pub live : ℕ → Bool
live p = nat_le 1 p && nat_le p 4

abbrev pub refusal_number : Refusal → ℕ
refusal_number R.NotOpened = 1
refusal_number R.AlreadyOpened = 2
refusal_number (R.BadStamp t) = 3
refusal_number R.NoFreeSlot = 4
refusal_number R.NoSuchGranule = 5
refusal_number R.NoSuchTransaction = 7
refusal_number (R.OldAttempt a) = 8
refusal_number (R.WrongPhase p) = 9
refusal_number (R.InSection t) = 10
refusal_number (R.Store g f) = 11
refusal_number R.TooManyNotes = 12
refusal_number R.TooManyWrites = 13
refusal_number R.NoFreePlace = 14
refusal_number (R.ForeignCode c) = 15

-- what is returned with a refusal; of a fault only the number, since where it arose is the
-- store's to say
abbrev pub returned : Refusal → List ℕ
returned R.NotOpened = []
returned R.AlreadyOpened = []
returned (R.BadStamp t) = t ∷ []
returned R.NoFreeSlot = []
returned R.NoSuchGranule = []
returned R.NoSuchTransaction = []
returned (R.OldAttempt a) = a ∷ []
returned (R.WrongPhase p) = phase_number p ∷ []
returned (R.InSection t) = t ∷ []
returned (R.Store g f) = g ∷ cause_number f.cause ∷ []
returned R.TooManyNotes = []
returned R.TooManyWrites = []
returned R.NoFreePlace = []
returned (R.ForeignCode c) = c ∷ []
