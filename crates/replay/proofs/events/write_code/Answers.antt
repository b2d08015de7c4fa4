use Rattle.std.proofs.lemmas.Result.{err_from_is_err_and}
use Rattle.certifier.specs.Beside.{beside}
use Rattle.replay.proofs.OfKind.{write_at}
use Rattle.replay.proofs.events.write_code.Goals as goal

pub returns-in_err-write-clause-does : goal.returns-in_err-write-clause-does
returns-in_err-write-clause-does g c =
    let s = c.args.store.now in
    let a = g.S.Archive.means s in
    let room = g.S.Store.room s in
    let by = c.args.by in
    let p = err_from_is_err_and c.from_residual.result c.from_residual.ensures.1 in
    rw (p.1, p.2)
    (write_at (beside c.args.certifier.now a room) (beside c.write.new.self a room)
    by.stamp by.number c.args.granule c.of.result _ c.of.ensures c.args.code
    c.in_err-write.ensures.does)

pub returns-clause-does : goal.returns-clause-does
returns-clause-does g c =
    let s = c.args.store.now in
    let a = g.S.Archive.means s in
    let room = g.S.Store.room s in
    let by = c.args.by in
    write_at (beside c.args.certifier.now a room) (beside c.write.new.self a room)
    by.stamp by.number c.args.granule c.of.result _ c.of.ensures c.args.code
    c.in_ok-write.ensures.does
