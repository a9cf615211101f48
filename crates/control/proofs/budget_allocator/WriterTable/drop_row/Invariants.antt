use Rattle.std.proofs.Common.{◌≡◌, ◌≤◌, [], ◌∷◌, ◌++◌, take, drop, length}
use Rattle.control.specs.BudgetAllocator.{blank_writer}
use Rattle.control.proofs.budget_allocator.WriterTable.drop_row.Given as goal

-- the carried row, put before those that were passed, gives the rows as they stood and a blank one behind them
-- Stays: a loop that changes rows in place needs one, and the check makes none.
abbrev pub invariant-loop-k : goal.invariant-loop-k
invariant-loop-k l =
    (l.place ≤ l.k)
    × ((length l.self.rows ≡ 64)
    × ((l.self.count ≡ l.initial.self.count)
    × (take l.k l.self.rows ++ (l.carried ∷ drop l.k l.self.rows) ≡ l.initial.self.rows ++ (blank_writer ∷ []))))
