use Rattle.std.proofs.Common.{◌≡◌, true, false, None, sym, ap, ◌∙◌, rules}
use Rattle.std.proofs.lemmas.Result.{err_from_is_err_and}
use Rattle.model.specs.declared.answer.Refusal.TheVariants.{TooManyNotes}
use Rattle.model.specs.Archives.{granule_fault, newest}
use Rattle.model.specs.Slots as M
use Rattle.model.specs.Worlds.{slot_with, with_slots}
use Rattle.slot.specs.Means.{slot_of}
use Rattle.certifier.specs.Beside.{beside}
use Rattle.certifier.proofs.Reading.{own_read, too_many, told, kept}
use Rattle.certifier.proofs.certifier.Certifier.read_code.Goals as goal

pub returns-in-Some-clause-read : goal.returns-in-Some-clause-read
returns-in-Some-clause-read g c =
    let s = c.args.store.now in
    let w = beside c.args.self.now (g.S.Archive.means s) (g.S.Store.room s) in
    let by = c.args.by in
    let x = slot_of c.in_ok-on_granule.field-0.now in
    let h = c.in_ok-on_granule.ensures in
    let e = own_read w by.stamp by.number c.args.granule x h.passes h.held
    c.in-Some.content c.in-Some.ensures in
    (e.0, c.code.ensures ∙ e.1, e.2)

pub returns-in_err-map_err-clause-read : goal.returns-in_err-map_err-clause-read
returns-in_err-map_err-clause-read g c =
    let s = c.args.store.now in
    let w = beside c.args.self.now (g.S.Archive.means s) (g.S.Store.room s) in
    let by = c.args.by in
    let x = slot_of c.in_ok-on_granule.field-0.now in
    let h = c.in_ok-on_granule.ensures in
    let r = c.from_residual-in_err-map_err in
    let p = err_from_is_err_and r.result r.ensures.1 in
    let named : c.in_err-map_err.field-0.0 ≡ TooManyNotes = search rules in
    let n : M.note_fits c.args.granule (slot_with w.slots by.stamp).notes ≡ false
    = search rules in
    let unfit = rw h.held at n in
    let f : granule_fault w.store.archive c.args.granule ≡ None = search rules in
    let e = too_many w by.stamp by.number c.args.granule x h.passes h.held
    c.in_default.ensures f unfit in
    let k = kept w by.stamp by.number c.args.granule x h.passes h.held unfit in
    rw (p.1, p.2, named) (e, ap (λ ys. with_slots ys w) c.note.ensures.after ∙ k)

pub returns-clause-read : goal.returns-clause-read
returns-clause-read g c =
    let s = c.args.store.now in
    let w = beside c.args.self.now (g.S.Archive.means s) (g.S.Store.room s) in
    let by = c.args.by in
    let x = slot_of c.in_ok-on_granule.field-0.now in
    let h = c.in_ok-on_granule.ensures in
    let n : M.note_fits c.args.granule (slot_with w.slots by.stamp).notes ≡ true
    = search rules in
    let fits = rw h.held at n in
    let said : M.answer_of c.in_ok-version.version ≡ c.and_then.result = search rules in
    let f : granule_fault w.store.archive c.args.granule ≡ None = search rules in
    let v : c.in_ok-version.version ≡ newest (w.store.archive.history c.args.granule)
    = search rules in
    let e = told w by.stamp by.number c.args.granule x h.passes h.held
    c.in_default.ensures f fits c.in_ok-version.version v in
    (e.0, sym said ∙ e.1, ap (λ ys. with_slots ys w) c.note.ensures.after ∙ e.2)
