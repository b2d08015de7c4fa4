use Rattle.std.proofs.Common.{◌≡◌, [], ◌++◌, vec_items, sym, refl, ap, ◌∙◌, append_assoc}
use Rattle.std.proofs.Common.{rules}
use Rattle.std.proofs.lemmas.List.{append-nil}
use Rattle.std.proofs.lemmas.Result.{err_from_is_err_and}
use Rattle.script.specs.Lines.{lines_of}
use Rattle.replay.specs.Replays.{sense}
use Rattle.replay.proofs.Fronts.{front_none, front_more}
use Rattle.replay.proofs.scripts.put_lines.Goals as goal

pub loop-line-init : goal.loop-line-init
loop-line-init g c =
    let σ = sense g.S.Archive.means g.S.Store.room g.S.Archive.origin in
    let all : lines_of c.args.script.now ≡ lines_of c.into_iter-line-iterator.result.rest.now
    = search rules in (
      c.requires,
      refl,
      (
        [],
        front_none σ c.args.certifier.now c.args.store.now _ _ all,
        sym (append-nil (vec_items c.args.out.now)),
      ),
    )

pub loop-line-preserved : goal.loop-line-preserved
loop-line-preserved g c =
    let σ = sense g.S.Archive.means g.S.Store.room g.S.Archive.origin in
    let done = c.loop-line.invariant.2 in
    let e = c.in_ok-put_line.ensures in
    let p = e.put in (
      e.sound,
      e.lent ∙ c.loop-line.invariant.1,
      (
        done.0 ++ p.0,
        front_more σ c.args.certifier.now c.args.store.now
            (lines_of c.args.script.now) (lines_of c.loop-line.line-iterator.rest.now) done.0
            c.loop-line.certifier c.loop-line.store c.in-Some.line.now
            (lines_of c.next.new.self.rest.now) p.0
            c.put_line.new.certifier c.put_line.new.store
            c.in-Some.ensures.steps done.1 p.1,
        p.2 ∙ (ap (λ xs. xs ++ p.0) done.2
            ∙ append_assoc (vec_items c.args.out.now) done.0 p.0),
      ),
    )

pub returns-in_err-put_line-clause-put : goal.returns-in_err-put_line-clause-put
returns-in_err-put_line-clause-put g c =
    let σ = sense g.S.Archive.means g.S.Store.room g.S.Archive.origin in
    let done = c.loop-line.invariant.2 in
    let p = c.in_err-put_line.ensures.put in
    let more = p.2 in
    let r = err_from_is_err_and c.from_residual.result c.from_residual.ensures.1 in
    rw r.1 (
      lines_of c.next.new.self.rest.now,
      done.0 ++ p.0,
      front_more σ c.args.certifier.now c.args.store.now
          (lines_of c.args.script.now) (lines_of c.loop-line.line-iterator.rest.now) done.0
          c.loop-line.certifier c.loop-line.store c.in-Some.line.now
          (lines_of c.next.new.self.rest.now) p.0
          c.put_line.new.certifier c.put_line.new.store
          c.in-Some.ensures.steps done.1 p.1,
      (
        done.0 ++ more.0,
        more.1 ∙ (ap (λ xs. xs ++ more.0) done.2
            ∙ append_assoc (vec_items c.args.out.now) done.0 more.0),
      ),
    )
