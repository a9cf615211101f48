use Rattle.std.proofs.Common.{rules, refl}
use Rattle.config.proofs.alone.Alone.changed.Goals as goal

-- Stays: as of `after`, and it doesn't name the module that the step leaves.
pub returns-in-Ok-clause-accepted : goal.returns-in-Ok-clause-accepted
returns-in-Ok-clause-accepted g c = rw c.in-Ok.is (c.step-told.new.arg2, c.step-told.result, search rules, refl)
