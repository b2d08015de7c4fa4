use Rattle.std.proofs.Common.{◌≡◌, drop, None}
use Rattle.model.specs.Slots.{mem, conflict}
use Rattle.slot.proofs.conflict.first_conflict.Given as goal

abbrev pub invariant-loop-note : goal.invariant-loop-note
invariant-loop-note l =
    (l.found ≡ None)
    × (mem l.write.granule (drop l.note-index l.notes)
    ≡ mem l.write.granule l.notes)

abbrev pub invariant-writes : goal.invariant-writes
invariant-writes l =
    (l.found ≡ None)
    × (conflict (drop l.write-index l.writes) l.notes ≡ conflict l.writes l.notes)
