use Rattle.std.proofs.Common.{◌≡◌, eqb, arith, rules, tests}
use Rattle.std.proofs.lemmas.Iterator.{YieldsList-from_slice}
use Rattle.std.proofs.lemmas.Iterator.Search.{position_from_yields_List}
use Rattle.std.specs.List.{position}
use Rattle.signals.proofs.Searches.{position-first}
use Rattle.control.specs.BudgetAllocator.{no_writer, place_of, taken_of, writers_of}
use Rattle.control.specs.declared.budget_allocator.WriterInfo.{WriterInfo}
use Rattle.control.proofs.budget_allocator.WriterTable.place_of.Goals as goal

-- Stays: the check doesn't join the run of `position` over the slice with `first`, which goes by index (`position-first`).
pub returns : goal.returns
unfolding place_of
returns c =
    let t = c.args.self.now in
    let has = λ (row : WriterInfo). eqb row.id c.args.id in
    let found : c.position.result ≡ position has (writers_of t) =
    position_from_yields_List has _ _ _ c.position.ensures.ran (YieldsList-from_slice _ cc) (λ x b q k. search (rules, tests)) in
    rw (c.unwrap_or.ensures, found, c.taken.ensures) (position-first has no_writer t.rows (taken_of t.count) (omega arith))
