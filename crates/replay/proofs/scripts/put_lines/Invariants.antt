use Rattle.std.proofs.Common.{◌≡◌, ℕ, List, ◌++◌, vec_items}
use Rattle.script.specs.Lines.{lines_of}
use Rattle.replay.specs.Replays.{sense, PutFront}
use Rattle.replay.proofs.scripts.put_lines.Given as goal

abbrev pub invariant-loop-line : goal.invariant-loop-line
invariant-loop-line g l =
    g.S.Archive.sound l.store
    × (g.S.Store.lent l.store ≡ g.S.Store.lent l.initial.store)
    × ((text : List ℕ)
    × PutFront (sense g.S.Archive.means g.S.Store.room g.S.Archive.origin)
    l.initial.certifier l.initial.store (lines_of l.script) (lines_of l.line-iterator.rest.now) text
    l.certifier l.store
    × (vec_items l.out ≡ vec_items l.initial.out ++ text))
