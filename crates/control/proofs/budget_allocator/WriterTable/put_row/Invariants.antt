use Rattle.std.proofs.Common.{◌≡◌, ◌∷◌, ◌++◌, take, drop}
use Rattle.control.proofs.budget_allocator.WriterTable.put_row.Given as goal

-- the carried row, put before those that it has not passed, gives the rows as they stood behind the writer
-- Stays: a loop that changes each row in place needs one, and the check makes none.
abbrev pub invariant-loop-row : goal.invariant-loop-row
invariant-loop-row l =
    take l.row-index l.row-items ++ (l.carried ∷ drop l.row-index l.row-items) ≡ l.fn.writer ∷ l.initial.row-items
