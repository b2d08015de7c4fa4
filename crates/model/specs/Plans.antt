-- The steps of an advance: what is done next, and what then stands.
use Rattle.std.specs.Prelude.{ℕ, cond, List, [], ◌∷◌, is_some, map, slice_get, Some, None, Option}
use Rattle.std.specs.Prelude.{◌==◌}
use Rattle.model.specs.declared.version.Write.{Write}
use Rattle.model.specs.declared.phase.Mark.TheVariants.{Unmarked, Checked}
use Rattle.model.specs.declared.fault.Cause.{Cause}
use Rattle.model.specs.declared.plan.Plan.{Plan}
use Rattle.model.specs.declared.plan.Plan.TheVariants as P
use Rattle.model.specs.declared.answer.Step.{Step}
use Rattle.model.specs.declared.answer.Step.TheVariants as S
use Rattle.model.specs.Numbers.{cause_number}
use Rattle.model.specs.Archives.{version_with}
use Rattle.model.specs.Stores.{Stored, append_fault}
use Rattle.model.specs.Slots.{Slot, oldest, validating, due, conflict, marked_notes, adjust}
use Rattle.model.specs.Slots.{one_put, in_phase, mark_younger, restarted, with_mark}
use Rattle.model.specs.Slots.{committed, woken}
use Rattle.model.specs.Worlds.{append_to}
use Rattle.model.specs.Refusals.{Rule, rule}

-- in phase 3 the next write is appended, and with all written the notes are marked
abbrev pub plan_put : ℕ → Option Write → Plan
plan_put t None = P.Mark t
plan_put t (Some w) = P.Put t w

-- a junior is restarted where a written granule is noted before its mark
abbrev pub plan_verdict : ℕ → Option ℕ → Plan
plan_verdict t None = P.Pass t
plan_verdict t (Some g) = P.Again t g

-- in phase 4 the oldest marked junior, still live and not yet checked, is taken
abbrev pub plan_check : Slot → Option Slot → Plan
plan_check x None = P.Done x.stamp
plan_check x (Some y) =
    plan_verdict y.stamp (conflict x.writes (marked_notes y.mark y.notes))

abbrev pub plan_for : List Slot → Option Slot → Plan
plan_for xs None = P.Idle
plan_for xs (Some x) =
    cond (x.phase == 3) (plan_put x.stamp (slice_get x.writes x.puts))
    (plan_check x (oldest due xs))

-- what the next advance does
abbrev pub plan_of : List Slot → Plan
plan_of xs = plan_for xs (oldest validating xs)

-- the slots after it
abbrev pub after_plan : Plan → List Slot → List Slot
after_plan P.Idle xs = xs
after_plan (P.Put t w) xs = adjust t one_put xs
after_plan (P.Mark t) xs = adjust t (in_phase 4) (map (mark_younger t) xs)
after_plan (P.Again t g) xs = adjust t restarted xs
after_plan (P.Pass t) xs = adjust t (with_mark Checked) xs
after_plan (P.Done t) xs = woken (adjust t committed (map (with_mark Unmarked) xs))

-- the store after it
abbrev pub put_plan : Plan → Stored → Stored
put_plan P.Idle s = s
put_plan (P.Put t w) s = append_to s w.granule (version_with t w.content)
put_plan (P.Mark t) s = s
put_plan (P.Again t g) s = s
put_plan (P.Pass t) s = s
put_plan (P.Done t) s = s

-- the answer
abbrev pub step_of : Plan → Step
step_of P.Idle = S.Idle
step_of (P.Put t w) = S.Put w.granule
step_of (P.Mark t) = S.Mark
step_of (P.Again t g) = S.Again t g
step_of (P.Pass t) = S.Pass t
step_of (P.Done t) = S.Done t

abbrev pub number_or_0 : Option Cause → ℕ
number_or_0 None = 0
number_or_0 (Some c) = cause_number c

-- 11: the store refuses the append; the granule and the fault are returned
abbrev pub append_refused : Stored → ℕ → ℕ → Rule
append_refused s g t =
    rule (is_some (append_fault s g t)) 11 (g ∷ number_or_0 (append_fault s g t) ∷ [])

abbrev pub plan_refused : Plan → Stored → List Rule
plan_refused P.Idle s = []
plan_refused (P.Put t w) s = append_refused s w.granule t ∷ []
plan_refused (P.Mark t) s = []
plan_refused (P.Again t g) s = []
plan_refused (P.Pass t) s = []
plan_refused (P.Done t) s = []
