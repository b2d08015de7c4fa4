use Rattle.std.proofs.Common.{rules}
use Rattle.std.specs.Result.{is_ok}
use Rattle.bounded.specs.Listed.{listed}
use Rattle.slot.proofs.Writes.{recorded_over, recorded_new}
use Rattle.slot.proofs.ops.record_in.Goals as goal

pub returns-in-Some : goal.returns-in-Some
returns-in-Some c =
    recorded_over c.args.write.granule c.args.write.content (listed c.args.writes.now)
    (listed c.set.new.self) c.in-Some.i (search rules) (search rules)

pub returns-in-None : goal.returns-in-None
returns-in-None c =
    recorded_new c.args.write.granule c.args.write.content (listed c.args.writes.now)
    (listed c.push.new.self) (is_ok c.push.result) (search rules) (search rules) (search rules)
