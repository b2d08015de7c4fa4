-- The lines of the table for a write or an erasure.
use Rattle.std.proofs.Common.{◌≡◌, ℕ, Bool, true, [], ◌∷◌}
use Rattle.std.proofs.Common.{List, Option, Some, None, sym, refl, ◌∙◌}
use Rattle.model.specs.declared.version.Content.{Content}
use Rattle.model.specs.Slots as M
use Rattle.model.specs.Worlds.{World, slot_with}
use Rattle.model.specs.Refusals.{Refused, refusal, on_writing}
use Rattle.model.specs.Refusals.{foreign_code}
use Rattle.model.specs.Calls.{Does, call_write, refused}
use Rattle.slot.specs.Changes.{recorded, write_fits}
use Rattle.slot.proofs.Places.{adjust_as, adjust_none}
use Rattle.certifier.proofs.Rules.{stop}
use Rattle.certifier.proofs.Does.{refused_by}

pub write_refused : (w : World) (t a g n : ℕ) (kind : ℕ → Bool) (r : Refused)
    → refusal (on_writing w t a g) ≡ Some r
    → Does w (call_write t a g n kind) (refused r.0 r.1) w
write_refused w t a g n kind r e =
    refused_by w (call_write t a g n kind) r
    (stop (on_writing w t a g) (foreign_code kind (Some n) ∷ []) r e) refl

-- a write that fits is recorded as the definitions say
pub recorded_as : (t g : ℕ) (c : Content) (xs : List M.Slot)
    → write_fits g (slot_with xs t).writes ≡ true
    → M.adjust t (recorded g c) xs
    ≡ M.adjust t (M.with_writes (M.set_own g c (slot_with xs t).writes)) xs
recorded_as t g c xs f = go (M.held t xs) refl
  where
    go : (o : Option M.Slot) → M.held t xs ≡ o
        → M.adjust t (recorded g c) xs
        ≡ M.adjust t (M.with_writes (M.set_own g c (slot_with xs t).writes)) xs
    go None e = adjust_none t (recorded g c) xs e ∙ sym (adjust_none t _ xs e)
    go (Some x) e =
        let k = rw e at f in
        adjust_as t (recorded g c) (M.with_writes (M.set_own g c (slot_with xs t).writes)) xs x e
        (rw (e, k) refl)
