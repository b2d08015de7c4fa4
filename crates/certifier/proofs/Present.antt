-- From the search for the slot that has the stamp to the line of the table that asks for it.
use Rattle.std.proofs.Common.{◌≡◌, ℕ, List, [], ◌∷◌, Some, None, find}
use Rattle.std.proofs.Common.{Option, IfOk, Bor, sym, ap, ◌∙◌}
use Rattle.std.specs.Option.{option_map, ok_or}
use Rattle.model.specs.declared.answer.Refusal.TheVariants.{NoSuchTransaction}
use Rattle.model.specs.Slots as M
use Rattle.model.specs.Refusals.{no_transaction}
use Rattle.slot.specs.declared.slot.Slot.{Slot}
use Rattle.slot.specs.Means.{slot_of, slots_of}
use Rattle.slot.proofs.Chains.{held_of}
use Rattle.certifier.specs.Ruled.{Passes}

held_by : (ys : List Slot) (t : ℕ) (o : Option (Bor Slot))
    → option_map (λ x. x.now) o ≡ find (λ x. M.holds t (slot_of x)) ys
    → M.held t (slots_of ys) ≡ option_map (λ x. slot_of x.now) o
held_by ys t None e = held_of (M.holds t) slot_of ys ∙ ap (option_map slot_of) (sym e)
held_by ys t (Some y) e = held_of (M.holds t) slot_of ys ∙ ap (option_map slot_of) (sym e)

pub passes_held : (ys : List Slot) (t : ℕ) (o : Option (Bor Slot))
    → option_map (λ x. x.now) o ≡ find (λ x. M.holds t (slot_of x)) ys
    → Passes (no_transaction (slots_of ys) t ∷ []) (ok_or o NoSuchTransaction)
passes_held ys t None e = (rw (held_by ys t None e), tt)
passes_held ys t (Some y) e = rw (held_by ys t (Some y) e)

pub holds_held : (ys : List Slot) (t : ℕ) (o : Option (Bor Slot))
    → option_map (λ x. x.now) o ≡ find (λ x. M.holds t (slot_of x)) ys
    → IfOk (ok_or o NoSuchTransaction) (λ x. M.held t (slots_of ys) ≡ Some (slot_of x.now))
holds_held ys t None e = tt
holds_held ys t (Some y) e = held_by ys t (Some y) e
