-- The writers as a list, and lists of calls on an allocator: what is claimed of the table's order. Definitions only.
use Rattle.std.specs.Prelude.{ℕ, ◌≤◌, true, cond, ◌≢◌, ◌↔◌, ◌≡◌, eqb, Float, length}
use mathlib.Core.List.{List, [], ◌∷◌, Memᴰ}
use Rattle.config.specs.declared.config.Priority.{Priority}
use Rattle.control.specs.BudgetAllocator.{comes_before, writers_of, registered, unregistered, reallocated}
use Rattle.control.specs.declared.budget_allocator.AllocationConfig.{AllocationConfig}
use Rattle.control.specs.declared.budget_allocator.BudgetAllocator.{BudgetAllocator}
use Rattle.control.specs.declared.budget_allocator.WriterInfo.{WriterInfo}
use Rattle.control.specs.declared.budget_allocator.WriterTable.{WriterTable}

-- the writer comes before the first of the list
abbrev pub Leads : WriterInfo → List WriterInfo → Type 0
Leads w [] = Unit {0}
Leads w (x ∷ xs) = comes_before w x ≡ true

-- each writer comes before the next, by class and then by id
abbrev pub IsOrdered : List WriterInfo → Type 0
IsOrdered [] = Unit {0}
IsOrdered (w ∷ ws) = Leads w ws × IsOrdered ws

-- no writer of the list has the id
abbrev pub Lacks : ℕ → List WriterInfo → Type 0
Lacks id [] = Unit {0}
Lacks id (w ∷ ws) = (w.id ≢ id) × Lacks id ws

-- no id twice
abbrev pub IsDistinct : List WriterInfo → Type 0
IsDistinct [] = Unit {0}
IsDistinct (w ∷ ws) = Lacks w.id ws × IsDistinct ws

-- a table of 64 rows whose writers are by class and then by id, no id twice
pub record IsInOrder (t : WriterTable) : Type 0 where
  pub size : length t.rows ≡ 64
  pub fits : t.count ≤ 64
  pub ordered : IsOrdered (writers_of t)
  pub distinct : IsDistinct (writers_of t)

-- a writer put in before the first that comes after it
unfoldable pub inserted : WriterInfo → List WriterInfo → List WriterInfo
inserted w [] = w ∷ []
inserted w (x ∷ xs) = cond (comes_before w x) (w ∷ (x ∷ xs)) (x ∷ inserted w xs)

-- the list less the first writer with the id
unfoldable pub removed : ℕ → List WriterInfo → List WriterInfo
removed id [] = []
removed id (x ∷ xs) = cond (eqb x.id id) xs (x ∷ removed id xs)

-- the same writers are in both lists, in whatever order
abbrev pub SameWriters : List WriterInfo → List WriterInfo → Type 0
SameWriters xs ys = (w : WriterInfo) → Memᴰ w xs ↔ Memᴰ w ys

-- a call that changes an allocator
pub data AllocatorCall : Type 0 where
  register : ℕ → Priority → Float → AllocatorCall
  unregister : ℕ → AllocatorCall
  reallocate : AllocationConfig → ℕ → AllocatorCall

-- the allocator after a call
abbrev pub after_call : BudgetAllocator → AllocatorCall → BudgetAllocator
after_call a (register id class weight) = registered a id class weight
after_call a (unregister id) = (unregistered a id).0
after_call a (reallocate c rate) = reallocated a c rate

-- the allocator after every call of a list, in turn
abbrev pub after_calls : BudgetAllocator → List AllocatorCall → BudgetAllocator
after_calls a [] = a
after_calls a (call ∷ calls) = after_calls (after_call a call) calls
