use Rattle.std.proofs.Common.{◌≡◌, Bool, map, drop}
use Rattle.std.specs.Option.{option_map}
use Rattle.std.specs.Fn.{FnReturnsAt}
use Rattle.model.specs.Slots as M
use Rattle.slot.specs.declared.slot.Slot.{Slot}
use Rattle.slot.specs.Means.{slot_of, slots_of}
use Rattle.slot.specs.Tests.{join}
use Rattle.slot.proofs.search.oldest.Given as goal

abbrev pub invariant-loop-slot : goal.invariant-loop-slot
invariant-loop-slot g l =
    goal.F-IsAlwaysCallable g l.test
    × ((p : M.Slot → Bool)
    → ((x : Slot) (b : Bool) → FnReturnsAt g.F.Fn l.test x b → b ≡ p (slot_of x))
    → join (option_map (λ x. slot_of x.now) l.best)
    (M.oldest p (map slot_of (drop l.slot-index l.slots)))
    ≡ M.oldest p (slots_of l.slots))
