-- What calls leave as it was.
use Rattle.std.specs.Prelude.{◌≡◌, ℕ, List, Some, None, Option, ◌≢◌}
use Rattle.model.specs.Slots.{held}
use Rattle.model.specs.Worlds.{World}
use Rattle.model.specs.Calls as M

-- the transaction that a call is about, where it can touch no other's slot; a rollback wakes
abbrev pub caller : M.Call → Option ℕ
caller M.call_open = None
caller (M.call_begin t) = Some t
caller (M.call_read t a g kind) = Some t
caller (M.call_write t a g c kind) = Some t
caller (M.call_erase t a g) = Some t
caller (M.call_commit t a) = Some t
caller (M.call_roll_back t a) = None
caller M.call_advance = None
caller (M.call_status t) = Some t
caller (M.call_notice reach) = None

-- a call of one transaction leaves the slot of every other as it was
abbrev pub OthersKept : Type 0
OthersKept = (c : M.Call) (w : World) (t u : ℕ) → caller c ≡ Some t → (u ≢ t)
    → held u (M.step c w).0.slots ≡ held u w.slots

-- a refusal leaves certifier and store as they were, but for the note that 15 keeps
abbrev pub RefusalsKeep : Type 0
RefusalsKeep = (c : M.Call) (w : World) (n : ℕ) (xs : List ℕ)
    → (M.step c w).1 ≡ M.refused n xs → (n ≢ 15) → (M.step c w).0 ≡ w

-- versions come by an advance only
abbrev pub OnlyAdvanceAppends : Type 0
OnlyAdvanceAppends = (c : M.Call) (w : World) → (c ≢ M.call_advance)
    → (M.step c w).0.store.archive.history ≡ w.store.archive.history
