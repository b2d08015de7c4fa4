use Rattle.std.proofs.Common.{rules}
use Rattle.model.specs.Refusals.{running_or_waiting}
use Rattle.certifier.proofs.certifier.Certifier.not_in_section.Goals as goal

pub returns-clause-passes : goal.returns-clause-passes
returns-clause-passes c = c.in_phase.ensures.passes running_or_waiting (λ q b r. search rules)
