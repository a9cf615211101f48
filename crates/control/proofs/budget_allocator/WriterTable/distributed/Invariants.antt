use Rattle.std.proofs.Common.{◌≡◌, drop}
use Rattle.control.specs.BudgetAllocator.{distributed_from, writers_of}
use Rattle.control.proofs.budget_allocator.WriterTable.distributed.Given as goal

-- the rest of the writers, from the total so far, gives the sum with all
-- Stays: a loop needs one; as `iter().fold`, with a lemma that the recursion of the specs is std's `fold`, the function did not prove.
abbrev pub invariant-loop-row : goal.invariant-loop-row
invariant-loop-row l = distributed_from l.total (drop l.row-index (writers_of l.self)) ≡ distributed_from l.sum (writers_of l.self)
