use Rattle.std.proofs.Common.{sym}
use Rattle.table.proofs.Laws.{accepted_sound}
use Rattle.table.proofs.table.Table.new.Goals as goal

pub returns-in-Ok-clause-sound : goal.returns-in-Ok-clause-sound
returns-in-Ok-clause-sound c = accepted_sound _ _ _ (sym c.in-Ok.ensures.value)
