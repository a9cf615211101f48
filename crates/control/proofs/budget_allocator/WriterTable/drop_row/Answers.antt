use Rattle.std.proofs.Common.{◌≡◌, ℕ, min, List, [], ◌∷◌, ◌++◌, length, refl, ap, sym, ◌∙◌, arith, rules}
use Rattle.control.specs.BudgetAllocator.{table_of, blank_writer, lacking, without_row}
use Rattle.control.specs.declared.budget_allocator.WriterInfo.{WriterInfo}
use Rattle.control.proofs.Rows.{lacking_carried, carried_last}
use Rattle.control.proofs.budget_allocator.WriterTable.drop_row.Goals as goal

-- Stays: the check finds the array's length and not, with it, that no row lies beyond.
pub loop-k-init : goal.loop-k-init
loop-k-init c =
    let long : length c.args.self.now.rows ≡ 64 = search rules in
    (omega arith, (long, (refl, carried_last c.args.self.now.rows 64 blank_writer long)))

-- Stays: the check doesn't see the rows that are left as a list less its row `place`.
pub returns : goal.returns
unfolding without_row
returns c =
    let l = c.loop-k in
    let a = c.args in
    let whole : List WriterInfo = a.self.now.rows ++ (blank_writer ∷ []) in
    let at : l.k ≡ min a.place 64 = omega arith in
    let rows : l.self.rows ≡ lacking whole l.k =
    sym (lacking_carried l.self.rows l.k l.carried l.k (omega arith)) ∙ ap (λ (s : List WriterInfo). lacking s l.k) l.invariant.1.1.1 in
    ap (λ (n : ℕ). table_of l.self.rows n) l.invariant.1.1.0
    ∙ ap (λ (rs : List WriterInfo). table_of rs a.self.now.count) (rows ∙ ap (lacking whole) at)
