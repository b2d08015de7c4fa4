use Rattle.std.proofs.Common.{rules, refl, ◌∙◌, arith, max}
use Rattle.std.proofs.lemmas.Iterator.{YieldsList-from_range}
use Rattle.std.proofs.lemmas.Iterator.Consumers.{fold_from_yields_List}
use Rattle.model.specs.Archives.{top}
use Rattle.table.specs.Words.{table_archive}
use Rattle.table.proofs.Pairs.{tops}
use Rattle.table.proofs.table.Table.latest_below.Goals as goal

pub returns : goal.returns
returns c =
    let s = c.args.self.now in let n = c.args.granule in
    let h = (table_archive s.words.now s.shape.granules s.shape.depth).history in
    fold_from_yields_List _ (λ t g. max t (top (h g))) 0 c.fold.result c.fold.ensures.ran
    (YieldsList-from_range 0 n n refl (omega arith)) (λ a x b q k. search rules)
    ∙ tops h 0 n n (omega arith)
