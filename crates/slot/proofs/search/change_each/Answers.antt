use Rattle.std.proofs.Common.{◌≡◌, refl, sym, rules}
use Rattle.slot.specs.Means.{slot_of}
use Rattle.slot.proofs.Loops.{each_more}
use Rattle.slot.proofs.search.change_each.Goals as goal

pub loop-slot-preserved : goal.loop-slot-preserved
loop-slot-preserved g c = (
  c.loop-slot.invariant.0,
  λ f k.
      let changed : slot_of c.change.new.arg2 ≡ f (slot_of c.slot-item.result) =
      k c.slot-item.result c.change.new.arg2 (record {
        shown = _;
        shows = sym c.slot-item.is;
        left = _;
        met = c.change.ensures;
        leaves = refl;
      }) in
      let before = c.loop-slot.invariant.1 f k in
      search (rules, each_more),
)
