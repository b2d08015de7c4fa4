use Rattle.model.specs.Stores.{stored}
use Rattle.store_tests.proofs.Back.{read_back}
use Rattle.store_tests.proofs.append.append_and_read.Goals as goal

pub returns-clause-read : goal.returns-clause-read
returns-clause-read g c =
    let s = c.args.store.now in let s' = c.append.new.self in
    let a = c.in_ok-append.ensures.appended in
    read_back
    (stored (g.S.Archive.means s) (g.S.Store.room s))
    (stored (g.S.Archive.means s') (g.S.Store.room s'))
    (g.S.Archive.origin s) (g.S.Archive.origin s')
    c.args.granule c.args.version c.newest.result a.0 a.1 c.newest.ensures
