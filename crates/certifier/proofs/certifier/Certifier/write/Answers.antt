use Rattle.std.proofs.Common.{is_some}
use Rattle.std.proofs.lemmas.Result.{err_from_is_err_and}
use Rattle.certifier.specs.Beside.{beside}
use Rattle.certifier.proofs.Writing.{write_refused}
use Rattle.certifier.proofs.certifier.Certifier.write.Goals as goal

pub returns-in_err-on_writing-clause-does : goal.returns-in_err-on_writing-clause-does
returns-in_err-on_writing-clause-does g c =
    let s = c.args.store.now in
    let w = beside c.args.self.now (g.S.Archive.means s) (g.S.Store.room s) in
    let by = c.args.by in
    let p = err_from_is_err_and c.from_residual.result c.from_residual.ensures.1 in
    rw (p.1, p.2)
    (write_refused w by.stamp by.number c.args.granule c.args.code
    (λ n. is_some (g.K.EntryKind.decoded c.args.kind.now n)) _ c.in_err-on_writing.ensures.passes.0)
