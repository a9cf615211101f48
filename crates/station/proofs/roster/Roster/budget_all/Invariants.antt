use Rattle.std.proofs.Common.{◌≡◌, ◌++◌, take, drop, map}
use Rattle.station.specs.Station.{budgeted}
use Rattle.station.proofs.roster.Roster.budget_all.Given as goal

-- the writers before the place have their budgets, the others stand as they were
-- Stays: what a loop keeps is the one thing that the check asks for.
abbrev pub invariant-loop-writer : goal.invariant-loop-writer
invariant-loop-writer g l =
    l.writers ≡ map (budgeted l.config l.time l.table) (take l.writer-index l.initial.writers) ++ drop l.writer-index l.initial.writers
