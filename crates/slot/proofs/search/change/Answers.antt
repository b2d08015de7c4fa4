use Rattle.std.proofs.Common.{sym, ◌∙◌, rules, refl}
use Rattle.model.specs.Slots as M
use Rattle.slot.specs.Means.{slot_of, slots_of}
use Rattle.slot.proofs.Places.{stands, not_held, adjust_none, one_changed}
use Rattle.slot.proofs.search.change.Goals as goal

pub returns-in-Some : goal.returns-in-Some
returns-in-Some g c = λ f k.
    let xs = c.args.slots.now in
    let x = c.index-slots-i.result in
    let y = c.change.new.arg2 in
    let s = stands c.args.stamp xs c.in-Some.i (search rules) in
    let e = k x y (record {
      shown = _;
      shows = sym c.index-slots-i.is;
      left = _;
      met = c.change.ensures;
      leaves = refl;
    }) in
    one_changed slot_of f xs c.in-Some.i x y
    M.free_slot (search rules) ∙ sym (s.changes f)

pub returns-in_default : goal.returns-in_default
returns-in_default g c = λ f k.
    let xs = c.args.slots.now in
    sym (adjust_none c.args.stamp f (slots_of xs) (not_held c.args.stamp xs (search rules)))
