-- What is looked for among the slots.
use Rattle.std.specs.Prelude.{◌≡◌, ℕ, Bool, List, not, ◌&&◌, is_some, Some, None, Option, ◌==◌}
use Rattle.model.specs.Slots as M
use Rattle.slot.specs.declared.slot.Slot.{Slot}
use Rattle.slot.specs.Means.{slot_of, slots_of}

-- another's slot with a write of the granule
abbrev pub writes_beside : ℕ → ℕ → M.Slot → Bool
writes_beside t g x = not (x.stamp == t) && is_some (M.own g x.writes)

-- of two the elder, the first where they are of one age
abbrev pub join : Option M.Slot → Option M.Slot → Option M.Slot
join None b = b
join (Some x) b = M.elder x b

-- o is the oldest of those that pass a test: whatever the test is known to ask of what a slot means
abbrev pub IsOldest : (Slot → Bool → Type 0) → List Slot → Option M.Slot → Type 0
IsOldest R xs o =
    (p : M.Slot → Bool) → ((x : Slot) (b : Bool) → R x b → b ≡ p (slot_of x))
    → o ≡ M.oldest p (slots_of xs)
