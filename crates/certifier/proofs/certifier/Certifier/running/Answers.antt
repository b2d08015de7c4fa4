use Rattle.std.proofs.Common.{rules}
use Rattle.model.specs.Refusals.{running}
use Rattle.certifier.proofs.certifier.Certifier.running.Goals as goal

pub returns-clause-passes : goal.returns-clause-passes
returns-clause-passes c = c.in_phase.ensures.passes running (λ q b r. search rules)
