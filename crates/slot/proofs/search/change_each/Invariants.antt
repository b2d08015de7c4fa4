use Rattle.std.proofs.Common.{◌≡◌, ◌++◌, map, take, drop}
use Rattle.model.specs.Slots as M
use Rattle.slot.specs.declared.slot.Slot.{Slot}
use Rattle.slot.specs.Means.{slot_of, slots_of}
use Rattle.slot.specs.Changes.{FnReturnsAtMut}
use Rattle.slot.proofs.search.change_each.Given as goal

abbrev pub invariant-loop-slot : goal.invariant-loop-slot
invariant-loop-slot g l =
    goal.F-IsAlwaysCallable g l.change
    × ((f : M.Slot → M.Slot)
    → ((x y : Slot) → FnReturnsAtMut g.F.Fn l.change x y → slot_of y ≡ f (slot_of x))
    → slots_of l.slots
    ≡ map f (take l.slot-index (slots_of l.initial.slots))
    ++ drop l.slot-index (slots_of l.initial.slots))
