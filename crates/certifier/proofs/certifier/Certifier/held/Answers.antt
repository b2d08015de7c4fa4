use Rattle.certifier.proofs.Present.{passes_held, holds_held}
use Rattle.certifier.proofs.certifier.Certifier.held.Goals as goal

pub returns-clause-passes : goal.returns-clause-passes
returns-clause-passes c =
    rw c.ok_or.ensures.value
    (passes_held c.args.self.now.slots c.args.stamp c.held.result c.held.ensures)

pub returns-clause-held : goal.returns-clause-held
returns-clause-held c =
    rw c.ok_or.ensures.value
    (holds_held c.args.self.now.slots c.args.stamp c.held.result c.held.ensures)
