use Rattle.std.proofs.Common.{◌≡◌, arith, rules, tests}
use Rattle.std.proofs.lemmas.Iterator.{YieldsList-from_slice}
use Rattle.std.proofs.lemmas.Iterator.Search.{position_from_yields_List}
use Rattle.std.specs.List.{position}
use Rattle.signals.proofs.Searches.{position-first}
use Rattle.control.specs.BudgetAllocator.{no_writer, comes_before, place_for, taken_of, writers_of}
use Rattle.control.proofs.budget_allocator.WriterTable.place_for.Goals as goal

-- Stays: the check doesn't join the run of `position` over the slice with `first`, which goes by index (`position-first`).
pub returns-clause-place : goal.returns-clause-place
unfolding place_for
returns-clause-place c =
    let t = c.args.self.now in
    let found : c.position.result ≡ position (comes_before c.args.writer) (writers_of t) =
    position_from_yields_List (comes_before c.args.writer) _ _ _ c.position.ensures.ran (YieldsList-from_slice _ cc) (λ x b q k. search (rules, tests)) in
    rw (c.unwrap_or.ensures, found, c.taken.ensures)
    (position-first (comes_before c.args.writer) no_writer t.rows (taken_of t.count) (omega arith))
