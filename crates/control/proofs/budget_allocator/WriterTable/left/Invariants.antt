use Rattle.std.proofs.Common.{◌≡◌, drop}
use Rattle.control.specs.BudgetAllocator.{left_from, writers_of}
use Rattle.control.proofs.budget_allocator.WriterTable.left.Given as goal

-- the rest of the writers, from what is left so far, leaves what all do
-- Stays: a loop needs one; as `iter().fold`, with a lemma that the recursion of the specs is std's `fold`, the function did not prove.
abbrev pub invariant-loop-row : goal.invariant-loop-row
invariant-loop-row l =
    left_from l.reserve l.total l.left (drop l.row-index (writers_of l.self)) ≡ left_from l.reserve l.total l.rate_bps (writers_of l.self)
