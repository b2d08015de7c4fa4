use Rattle.std.proofs.Common.{◌≡◌, refl, sym, rules}
use Rattle.slot.specs.Means.{slot_of}
use Rattle.slot.proofs.Loops.{best_here, best_next}
use Rattle.slot.proofs.search.oldest.Goals as goal

pub loop-slot-preserved : goal.loop-slot-preserved
loop-slot-preserved g c = (
  c.loop-slot.invariant.0,
  λ p k.
      let said : p (slot_of c.slot-item.result) ≡ c.test.result =
      sym (k c.slot-item.result c.test.result
      (record { shown = _; shows = refl; says = record { met = c.test.ensures } })) in
      let before = c.loop-slot.invariant.1 p k in
      search (rules, best_here, best_next),
)
