-- The parts of a call: a part is refused by the first of its lines of the table that applies.
use Rattle.std.specs.Prelude.{◌≡◌, ℕ, Bool, List, Some, None, Ok, Err, IfOk, Option, Result}
use denote.Ref.{Bor}
use Rattle.model.specs.declared.phase.Phase.{Phase}
use Rattle.model.specs.declared.answer.Refusal.{Refusal}
use Rattle.model.specs.Numbers.{phase_number, refusal_number, returned}
use Rattle.model.specs.Slots as M
use Rattle.model.specs.Worlds.{World}
use Rattle.model.specs.Refusals.{Rule, refusal, of_phase, on_reading, read_code}
use Rattle.model.specs.Calls.{FromStore, noting_read}
use Rattle.slot.specs.declared.slot.Slot.{Slot}
use Rattle.slot.specs.Means.{slot_of}

-- these lines refuse with e
abbrev pub Refuses : List Rule → Refusal → Type 0
Refuses rs e = refusal rs ≡ Some (refusal_number e, returned e)

-- either none of these lines applies, or one refuses, and that comes from no store
abbrev pub Passes : {X : Type 0} → List Rule → Result X Refusal → Type 0
Passes rs (Ok x) = refusal rs ≡ None
Passes rs (Err e) = Refuses rs e × FromStore (λ _ _. ⊥) e

-- the same for the lines of a call of transaction t in its attempt a, whatever phases the test is
-- known to let through
abbrev pub PassesPhase : {X : Type 0} →
    (Phase → Bool → Type 0) → List M.Slot → ℕ → ℕ → Result X Refusal → Type 0
PassesPhase R xs t a r =
    (p : ℕ → Bool) → ((q : Phase) (b : Bool) → R q b → b ≡ p (phase_number q))
    → Passes (of_phase xs t a p) r

-- the slot that is handed out is that of transaction t
abbrev pub HandsOut : ℕ → List M.Slot → Result (Bor Slot) Refusal → Type 0
HandsOut t xs r = IfOk r (λ x. M.held t xs ≡ Some (slot_of x.now))

-- a read but for the code's kind: a refusal takes no note
abbrev pub ReadCode : World → ℕ → ℕ → ℕ → Result (Option ℕ) Refusal → World → Type 0
ReadCode w t a g (Ok o) w' =
    (refusal (on_reading w t a g) ≡ None) × (o ≡ read_code w t g) × (w' ≡ noting_read t g w)
ReadCode w t a g (Err e) w' = Refuses (on_reading w t a g) e × (w' ≡ w)
