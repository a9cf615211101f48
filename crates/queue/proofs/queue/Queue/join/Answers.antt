use Rattle.std.proofs.Common.{rules}
use Rattle.queue.proofs.Blanks.{joined_laid, pushed_out_laid}
use Rattle.queue.proofs.queue.Queue.join.Goals as goal

pub invariant_of-self : goal.invariant_of-self
invariant_of-self g c = (
  search rules,
  search rules,
  search rules,
  search rules,
  joined_laid _ _ _ _ _ _ _ c.self.invariant c.self.view_is _ _ (search rules) c.slot-slot.ensures,
)

pub invariant_of-self-2 : goal.invariant_of-self-2
invariant_of-self-2 g c = (
  search rules,
  search rules,
  search rules,
  search rules,
  pushed_out_laid _ _ _ _ _ _ _ c.self.invariant c.self.view_is _ _ (search rules) c.slot-second.ensures,
)
