-- The answer lines. A line is the event's letter, "ok" and the answer, or "no", the refusal's
-- number and what is returned with it.
use Rattle.std.specs.Prelude.{ℕ, List, [], ◌∷◌, ◌++◌, Some, None, Ok, Err, codes, Option, Result}
use Rattle.model.specs.declared.answer.Reply.{Reply}
use Rattle.model.specs.declared.answer.Reply.TheVariants as A
use Rattle.model.specs.declared.answer.Refusal.{Refusal}
use Rattle.model.specs.declared.answer.Refusal.TheVariants as R
use Rattle.model.specs.declared.answer.Status.{Status}
use Rattle.model.specs.declared.answer.Step.{Step}
use Rattle.model.specs.declared.answer.Step.TheVariants as S
use Rattle.model.specs.declared.phase.Phase.{Phase}
use Rattle.model.specs.declared.phase.Phase.TheVariants as P
use Rattle.model.specs.Numbers.{phase_number, refusal_number, returned}
use Rattle.script.specs.declared.unread.Unread.{Unread}
use Rattle.script.specs.declared.unread.Unread.TheVariants as U
use Rattle.script.specs.Events.{Said, letter_of}
use Rattle.script.specs.Writing.{spaced, named}

-- a commit leads to waiting or to the section
abbrev pub phase_text : Phase → List ℕ
phase_text P.Free = codes " ok" ++ spaced (phase_number P.Free ∷ [])
phase_text P.Running = codes " ok" ++ spaced (phase_number P.Running ∷ [])
phase_text P.Waiting = codes " ok wait"
phase_text P.Section = codes " ok sect"
phase_text P.Checking = codes " ok" ++ spaced (phase_number P.Checking ∷ [])
phase_text P.Committed = codes " ok" ++ spaced (phase_number P.Committed ∷ [])

abbrev pub step_text : Step → List ℕ
step_text S.Idle = codes " ok idle"
step_text (S.Put g) = codes " ok put" ++ spaced (g ∷ [])
step_text S.Mark = codes " ok mark"
step_text (S.Again t g) = codes " ok again" ++ spaced (t ∷ g ∷ [])
step_text (S.Pass t) = codes " ok pass" ++ spaced (t ∷ [])
step_text (S.Done t) = codes " ok done" ++ spaced (t ∷ [])

abbrev pub read_text : Option ℕ → List ℕ
read_text None = codes " ok none"
read_text (Some c) = codes " ok" ++ spaced (c ∷ [])

abbrev pub status_text : Status → List ℕ
status_text s =
    codes " ok" ++ spaced (phase_number s.phase ∷ s.attempt ∷ s.older ∷ s.notes ∷ [])

-- what follows the letter of an accepted event
abbrev pub reply_text : Said → Reply → List ℕ
reply_text e (A.Opened o) = codes " ok" ++ spaced (o.granules ∷ o.last ∷ [])
reply_text e (A.Began a) = (codes " ok" ++ spaced (a ∷ [])) ++ named e
reply_text e (A.Read c) = read_text c
reply_text e A.Recorded = codes " ok"
reply_text e (A.Committing p) = phase_text p
reply_text e A.RolledBack = codes " ok"
reply_text e (A.Stepped s) = step_text s
reply_text e (A.Status s) = status_text s
reply_text e A.Noticed = codes " ok"

-- where a fault arose: its layer, and the granule as the layer counts it
abbrev pub place_of : Refusal → List ℕ
place_of R.NotOpened = []
place_of R.AlreadyOpened = []
place_of (R.BadStamp t) = []
place_of R.NoFreeSlot = []
place_of R.NoSuchGranule = []
place_of R.NoSuchTransaction = []
place_of (R.OldAttempt a) = []
place_of (R.WrongPhase p) = []
place_of (R.InSection t) = []
place_of (R.Store g f) = f.layer ∷ f.granule ∷ []
place_of R.TooManyNotes = []
place_of R.TooManyWrites = []
place_of R.NoFreePlace = []
place_of (R.ForeignCode c) = []

-- what is returned with a refusal, and where its fault arose
abbrev pub returned_in_full : Refusal → List ℕ
returned_in_full f = returned f ++ place_of f

-- what follows the letter of a refused event
abbrev pub refusal_text : Refusal → List ℕ
refusal_text f = codes " no" ++ spaced (refusal_number f ∷ returned_in_full f)

abbrev pub outcome_text : Said → Result Reply Refusal → List ℕ
outcome_text e (Ok a) = reply_text e a
outcome_text e (Err f) = refusal_text f

-- a line without its line feed
abbrev pub answer_line : Said → Result Reply Refusal → List ℕ
answer_line e o = letter_of e ∷ outcome_text e o

-- a line that is no event, and a script that is too long, have no letter
abbrev pub unreadable_line : List ℕ
unreadable_line = codes "? no 16"

abbrev pub too_long_line : List ℕ
too_long_line = codes "? no 17"

abbrev pub unread_line : Unread → List ℕ
unread_line U.Line = unreadable_line
unread_line U.Script = too_long_line
