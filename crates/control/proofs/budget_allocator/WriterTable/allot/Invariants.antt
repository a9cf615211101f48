use Rattle.std.proofs.Common.{◌≡◌, ◌++◌, take, drop, map}
use Rattle.control.specs.BudgetAllocator.{with_budget}
use Rattle.control.proofs.budget_allocator.WriterTable.allot.Given as goal

-- the writers before this one have their budgets, the others stand as they were
-- Stays: a loop that changes each row in place needs one, and the check makes none.
abbrev pub invariant-loop-row : goal.invariant-loop-row
invariant-loop-row l =
    l.row-items ≡ map (with_budget l.shares) (take l.row-index l.initial.row-items) ++ drop l.row-index l.initial.row-items
