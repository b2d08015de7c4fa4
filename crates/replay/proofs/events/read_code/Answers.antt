use Rattle.std.proofs.Common.{◌≡◌, ℕ, Option, ap, rules}
use Rattle.std.specs.Option.{option_map}
use Rattle.std.proofs.lemmas.Result.{err_from_is_err_and}
use Rattle.kind.specs.Roster.{roster_code}
use Rattle.model.specs.declared.answer.Reply.TheVariants as Y
use Rattle.model.specs.Calls.{call_read, accepted}
use Rattle.certifier.specs.Beside.{beside}
use Rattle.replay.specs.Replays.{of_kind}
use Rattle.replay.proofs.OfKind.{read_at, answered_as}
use Rattle.replay.proofs.events.read_code.Goals as goal

pub returns-in_err-entry-clause-does : goal.returns-in_err-entry-clause-does
returns-in_err-entry-clause-does g c =
    let s = c.args.store.now in
    let a = g.S.Archive.means s in
    let room = g.S.Store.room s in
    let by = c.args.by in
    let p = err_from_is_err_and c.from_residual.result c.from_residual.ensures.1 in
    rw (p.1, p.2)
    (read_at (beside c.args.certifier.now a room) (beside c.read.new.self a room)
    by.stamp by.number c.args.granule c.of-kind.result _ c.of-kind.ensures
    c.in_err-entry.ensures.does)

pub returns-clause-does : goal.returns-clause-does
returns-clause-does g c =
    let s = c.args.store.now in
    let a = g.S.Archive.means s in
    let room = g.S.Store.room s in
    let w = beside c.args.certifier.now a room in
    let w' = beside c.read.new.self a room in
    let by = c.args.by in
    let q : option_map roster_code c.in_ok-entry.entry ≡ c.map.result = search rules in
    answered_as w w' (call_read by.stamp by.number c.args.granule (of_kind c.args.granule)) _ _
    (ap (λ (o : Option ℕ). accepted (Y.Read o)) q)
    (read_at w w' by.stamp by.number c.args.granule c.of-kind.result _ c.of-kind.ensures
    c.in_ok-entry.ensures.does)
