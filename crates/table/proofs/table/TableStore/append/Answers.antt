use Rattle.std.proofs.Common.{rules}
use Rattle.table.proofs.Grown.{table_appended}
use Rattle.table.proofs.table.TableStore.append.Goals as goal

pub returns : goal.returns
returns c =
    let s = c.args.self.now in
    let t = table_appended s.words.now c.put.new.self.words.now
    s.shape.granules s.shape.depth
    c.put.new.self.shape.granules c.put.new.self.shape.depth
    c.args.granule c.args.version c.put.result
    c.requires c.put.ensures.words (search rules) (search rules) in
    record { sound = t.0; lent = search rules; same = c.put.ensures.same; appended = t.1 }
