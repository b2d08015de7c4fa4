use Rattle.std.proofs.Common.{sym}
use Rattle.kind.specs.Made.{made_true}
use Rattle.kind.proofs.licence.Suspension.new.Goals as goal

pub returns : goal.returns
returns c = sym (made_true _ _ _)
