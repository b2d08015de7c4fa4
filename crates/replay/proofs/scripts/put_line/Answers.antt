use Rattle.std.proofs.Common.{sym}
use Rattle.script.specs.Events.{said}
use Rattle.replay.specs.Replays.{unreadable, answered}
use Rattle.replay.proofs.scripts.put_line.Goals as goal

pub returns-in-Some-clause-put : goal.returns-in-Some-clause-put
returns-in-Some-clause-put g c = (
  _,
  answered (said c.in-Some.event) c.put_event-outcome.result
      (sym c.in-Some.ensures.value) c.put_event-outcome.ensures.put,
  c.push_answer.ensures,
)

pub returns-in-None-clause-put : goal.returns-in-None-clause-put
returns-in-None-clause-put g c =
    (_, unreadable (sym c.in-None.ensures.value), c.push_unread.ensures)
