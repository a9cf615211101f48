use Rattle.std.proofs.Common.{rules}
use Rattle.queue.proofs.Blanks.{popped_laid}
use Rattle.queue.proofs.queue.Queue.pop.Goals as goal

pub invariant_of-self : goal.invariant_of-self
invariant_of-self g c = (
  search rules,
  search rules,
  search rules,
  search rules,
  popped_laid _ _ _ _ _ _ _ c.self.invariant c.self.view_is _ _ (search rules) c.slot-self-inside.ensures,
)
