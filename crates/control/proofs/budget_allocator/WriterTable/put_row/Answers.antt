use Rattle.std.proofs.Common.{◌≡◌, ℕ, ◌+◌, ◌-◌, min, max, List, ◌∷◌, ◌++◌, take, drop, length, ap, sym, ◌∙◌, arith, rules}
use Rattle.std.proofs.lemmas.Grind.{common_steps}
use Rattle.control.specs.BudgetAllocator.{taken_of, table_of, lacking, with_row}
use Rattle.control.specs.declared.budget_allocator.WriterInfo.{WriterInfo}
use Rattle.control.proofs.Rows.{lacking_carried, rows_carried}
use Rattle.control.proofs.budget_allocator.WriterTable.put_row.Goals as goal

-- Stays: the check doesn't see the rows that were passed as a list less its last.
pub returns : goal.returns
unfolding with_row
returns c =
    let l = c.loop-row in
    let a = c.args in
    let rows : List WriterInfo = a.self.now.rows in
    let m : ℕ = c.taken-n.result + 1 - a.place in
    let long : length rows ≡ 64 = search rules in
    let size : length l.row-items ≡ m = grind (arith, common_steps) in
    let passed : l.row-items ≡ lacking (a.writer ∷ take m (drop a.place rows)) m =
    sym (lacking_carried l.row-items l.row-index l.carried m (omega arith)) ∙ ap (λ (s : List WriterInfo). lacking s m) l.invariant in
    let n : ℕ = min (max a.place (taken_of a.self.now.count + 1)) 64 in
    ap (λ (rs : List WriterInfo). table_of rs a.self.now.count)
    (ap (λ (s : List WriterInfo). take a.place rows ++ (s ++ drop m (drop a.place rows))) passed
    ∙ rows_carried rows a.place m n a.writer (omega arith) (omega arith))
