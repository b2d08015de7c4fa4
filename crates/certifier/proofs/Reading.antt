-- The lines of the table for a read, and the note that it takes.
use Rattle.std.proofs.Common.{◌≡◌, ℕ, Bool, true, false, eqb, ltb, [], ◌∷◌, Some, None}
use Rattle.std.proofs.Common.{Option, sym, refl, ap, ◌∙◌, arith}
use Rattle.std.proofs.lemmas.Bool.Decides.{nat_tests}
use Rattle.model.specs.declared.version.Content.{Content}
use Rattle.model.specs.declared.version.Version.{Version}
use Rattle.model.specs.Archives.{granule_fault, newest}
use Rattle.model.specs.Slots as M
use Rattle.model.specs.Worlds.{World, with_slots}
use Rattle.model.specs.Refusals.{Refused, refusal, on_granule, on_reading, not_told, note_65}
use Rattle.model.specs.Refusals.{read_code, foreign_code}
use Rattle.model.specs.Calls.{noting_read, Does, call_read, refused, rules}
use Rattle.slot.specs.Changes.{noted}
use Rattle.slot.proofs.Places.{adjust_as, adjust_kept}
use Rattle.certifier.proofs.Rules.{past, stop, No15, not_15}

-- a granule that a call works on exists
exists : (w : World) (t a g : ℕ) → refusal (on_granule w t a g) ≡ None
    → ltb g w.store.archive.count ≡ true
exists w t a g p = grind (arith, nat_tests)

module _ (w : World) (t a g : ℕ) (x : M.Slot) (p : refusal (on_granule w t a g) ≡ None)
    (held : M.held t w.slots ≡ Some x) where
  rest : refusal (on_reading w t a g) ≡ refusal (not_told w t g ∷ note_65 w t g ∷ [])
  rest = past (on_granule w t a g) (not_told w t g ∷ note_65 w t g ∷ []) p

  pub own_read : (c : Content) → Some c ≡ M.own g x.writes
      → (refusal (on_reading w t a g) ≡ None) × (M.code_of c ≡ read_code w t g)
      × (w ≡ noting_read t g w)
  own_read c o =
      let e = sym o in
      let k = adjust_kept t (M.with_notes x.notes) w.slots x held refl in (
        rest ∙ rw (held, e),
        rw (held, e),
        rw (held, e) (ap (λ ys. with_slots ys w) (sym k)),
      )

  module _ (o : None ≡ M.own g x.writes) where
    module _ (f : granule_fault w.store.archive g ≡ None) where
      reached : w.store.archive.reach g ≡ true
      reached = grind (arith, nat_tests)

      pub too_many : M.note_fits g x.notes ≡ false
          → refusal (on_reading w t a g) ≡ Some (12, [])
      too_many n = let e = sym o in rest ∙ rw (held, e, reached, n)

      pub told : M.note_fits g x.notes ≡ true → (v : Option Version)
          → v ≡ newest (w.store.archive.history g)
          → (refusal (on_reading w t a g) ≡ None) × (M.answer_of v ≡ read_code w t g)
          × (with_slots (M.adjust t (noted g) w.slots) w ≡ noting_read t g w)
      told n v e =
          let d = sym o in
          let k = adjust_as t (noted g) (M.with_notes (M.note g x.notes)) w.slots x held (rw n) in (
            rest ∙ rw (held, d, reached, n),
            rw (held, d) (ap M.answer_of e),
            rw (held, d) (ap (λ ys. with_slots ys w) k),
          )

  pub kept : M.note_fits g x.notes ≡ false
      → with_slots (M.adjust t (noted g) w.slots) w ≡ w
  kept n = ap (λ ys. with_slots ys w) (adjust_kept t (noted g) w.slots x held (rw n))

-- a refusal but for the code's kind keeps no note
pub read_refused : (w w' : World) (t a g : ℕ) (kind : ℕ → Bool) (r : Refused)
    → refusal (on_reading w t a g) ≡ Some r → w' ≡ w
    → Does w (call_read t a g kind) (refused r.0 r.1) w'
read_refused w w' t a g kind r e s =
    let no-15 : No15 (on_reading w t a g)
    = (refl, (refl, (refl, (refl, (refl, (refl, (refl, (refl, tt)))))))) in
    let n : eqb r.0 15 ≡ false
    = not_15 (on_reading w t a g) r no-15 e in
    let u : refusal (rules (call_read t a g kind) w) ≡ Some r
    = stop (on_reading w t a g) (foreign_code kind (read_code w t g) ∷ []) r e in
    record { after = rw (u, n) s; answer = rw u }
