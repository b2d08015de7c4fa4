-- From the lines of the table, and from what has been changed, to what a call does.
use Rattle.std.proofs.Common.{◌≡◌, Some, sym, refl}
use Rattle.model.specs.declared.phase.Phase.{Phase}
use Rattle.model.specs.declared.phase.Phase.TheVariants as P
use Rattle.model.specs.Numbers.{phase_number}
use Rattle.model.specs.Worlds.{World}
use Rattle.model.specs.Refusals.{Refused, refusal}
use Rattle.model.specs.Calls.{Call, Does, refused, rules, spared}
use Rattle.model.specs.Calls.{phase_of}

pub refused_by : (w : World) (c : Call) (r : Refused) → refusal (rules c w) ≡ Some r
    → spared c r.0 w ≡ w → Does w c (refused r.0 r.1) w
refused_by w c r e s = record { after = rw e (sym s); answer = rw e }

-- a phase is told by its number

pub phase_again : (p : Phase) → p ≡ phase_of (phase_number p)
phase_again P.Free = refl
phase_again P.Running = refl
phase_again P.Waiting = refl
phase_again P.Section = refl
phase_again P.Checking = refl
phase_again P.Committed = refl
