use Rattle.std.proofs.Common.{rules}
use Rattle.config.proofs.alone.Alone.after.Goals as goal

-- Stays: the clause is by cases on the verdict, and the check doesn't put the verdict's `Ok` into it.
pub returns-in-Ok-clause-accepted : goal.returns-in-Ok-clause-accepted
returns-in-Ok-clause-accepted g c = rw c.in-Ok.is (search rules)
