-- What the changes of a slot are.
use Rattle.std.specs.Prelude.{◌≡◌, ℕ, Bool, cond, ◌||◌, List, length, map, is_some, Option, ◌==◌}
use Rattle.std.specs.Prelude.{nat_lt}
use denote.Ref.{MutBor}
use Rattle.std.specs.List.{position_from}
use Rattle.std.specs.Fn.{Shared}
use Rattle.model.specs.declared.version.Content.{Content}
use Rattle.model.specs.declared.version.Write.{Write}
use Rattle.model.specs.Slots as M
use Rattle.slot.specs.declared.slot.Slot.{Slot}
use Rattle.slot.specs.Means.{slot_of, slots_of}

-- the slot that has the stamp t was changed as R allows, and no other: whatever R is known to do to
-- what a slot means has been done to that slot
abbrev pub Changed : ℕ → (Slot → Slot → Type 0) → List Slot → List Slot → Type 0
Changed t R xs ys =
    (f : M.Slot → M.Slot) → ((x y : Slot) → R x y → slot_of y ≡ f (slot_of x))
    → slots_of ys ≡ M.adjust t f (slots_of xs)

-- each slot was changed as R allows
abbrev pub ChangedEach : (Slot → Slot → Type 0) → List Slot → List Slot → Type 0
ChangedEach R xs ys =
    (f : M.Slot → M.Slot) → ((x y : Slot) → R x y → slot_of y ≡ f (slot_of x))
    → slots_of ys ≡ map f (slots_of xs)

-- a call of f at a `&mut` to x may leave y there
pub record FnReturnsAtMut {F : Type 0}
    (g : Shared F (MutBor Slot × Unit {0}) (Unit {0} × (MutBor Slot × Unit {0})))
    (f : F) (x y : Slot) : Type 0 where
  pub shown : MutBor Slot
  pub shows : shown.now ≡ x
  pub left : MutBor Slot
  pub met : g.post f (shown, tt) (tt, (left, tt))
  pub leaves : left.now ≡ y

-- a note is taken where it fits
abbrev pub noted : ℕ → M.Slot → M.Slot
noted g x = cond (M.note_fits g x.notes) (M.with_notes (M.note g x.notes) x) x

-- the place of the write of g
abbrev pub place_of : ℕ → List Write → Option ℕ
place_of g ws = position_from (λ w. w.granule == g) 0 ws

abbrev pub write_fits : ℕ → List Write → Bool
write_fits g ws = is_some (M.own g ws) || nat_lt (length ws) 16

-- a write is recorded where it fits
abbrev pub recorded_in : ℕ → Content → List Write → List Write
recorded_in g c ws = cond (write_fits g ws) (M.set_own g c ws) ws

abbrev pub recorded : ℕ → Content → M.Slot → M.Slot
recorded g c x = M.with_writes (recorded_in g c x.writes) x
