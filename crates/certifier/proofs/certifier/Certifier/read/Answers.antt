use Rattle.std.proofs.Common.{is_some}
use Rattle.std.proofs.lemmas.Result.{err_from_is_err_and}
use Rattle.certifier.specs.Beside.{beside}
use Rattle.certifier.proofs.Reading.{read_refused}
use Rattle.certifier.proofs.certifier.Certifier.read.Goals as goal

pub returns-in_err-code-clause-does : goal.returns-in_err-code-clause-does
returns-in_err-code-clause-does g c =
    let s = c.args.store.now in
    let a = g.S.Archive.means s in
    let room = g.S.Store.room s in
    let by = c.args.by in
    let e = c.in_err-code.ensures in
    let p = err_from_is_err_and c.from_residual.result c.from_residual.ensures.1 in
    rw (p.1, p.2)
    (read_refused (beside c.args.self.now a room) (beside c.read_code.new.self a room)
    by.stamp by.number c.args.granule (λ n. is_some (g.K.EntryKind.decoded c.args.kind.now n)) _
    e.read.0 e.read.1)
