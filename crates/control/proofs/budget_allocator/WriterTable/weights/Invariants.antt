use Rattle.std.proofs.Common.{◌≡◌, drop}
use Rattle.control.specs.BudgetAllocator.{weights_from, no_weights, writers_of}
use Rattle.control.proofs.budget_allocator.WriterTable.weights.Given as goal

-- the rest of the writers, from the sums so far, gives the weights of all
-- Stays: a loop needs one; as `iter().fold`, with a lemma that the recursion of the specs is std's `fold`, the function did not prove.
abbrev pub invariant-loop-row : goal.invariant-loop-row
invariant-loop-row l = weights_from l.sums (drop l.row-index (writers_of l.self)) ≡ weights_from no_weights (writers_of l.self)
