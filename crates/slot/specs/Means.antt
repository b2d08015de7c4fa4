-- What a slot of the code means.
use Rattle.std.specs.Prelude.{◌≡◌, ℕ, List, map, Some, slice_index_or, slice_set}
use Rattle.bounded.specs.Listed.{listed}
use Rattle.model.specs.Numbers.{phase_number}
use Rattle.model.specs.Slots as M
use Rattle.slot.specs.declared.slot.Slot.{Slot}

abbrev pub slot_of : Slot → M.Slot
slot_of s =
    M.slot s.stamp s.attempt (phase_number s.phase) (listed s.notes)
    (listed s.writes) s.puts s.mark

abbrev pub slots_of : List Slot → List M.Slot
slots_of xs = map slot_of xs

-- the slot at i is the one that has the stamp
pub record Stands (t : ℕ) (xs : List M.Slot) (i : ℕ) : Type 0 where
  pub held : M.held t xs ≡ Some (slice_index_or xs i M.free_slot)
  pub changes : (f : M.Slot → M.Slot)
      → M.adjust t f xs ≡ slice_set xs i (f (slice_index_or xs i M.free_slot))
