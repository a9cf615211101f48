-- Shares of the rate: "Shares as in `reallocate`, updates by class and then by id". Definitions only.
use Rattle.std.specs.Prelude.{ℕ, zero, suc, ◌+◌, ◌-◌, min, max, Bool, true, false, cond, Option, Some, None, List, [], ◌∷◌, ◌++◌, map, ltb, leb, eqb, Float, get_or, replicate, take, drop}
use Rattle.std.specs.Float.{nan, binary32}
use Rattle.std.specs.Float.Ieee.{of_bits, add, div}
use Rattle.config.specs.Config.{class_number}
use Rattle.config.specs.declared.config.CongestionConfig.{CongestionConfig}
use Rattle.config.specs.declared.config.Priority.{Priority}
use Rattle.config.specs.declared.config.Priority.TheVariants.{P0, P1, P2}
use Rattle.config.specs.PerClass.{per_class, value_at, with_value}
use Rattle.config.specs.declared.per_class.PerClass.{PerClass}
use Rattle.numeric.specs.Float.{zero32, scaled, max_of}
use Rattle.numeric.specs.Integer.{up_to_u64, next}
use Rattle.numeric.specs.Search.{first}
use Rattle.control.specs.declared.budget_allocator.AllocationConfig.{AllocationConfig}
use Rattle.control.specs.declared.budget_allocator.AllocationStats.{AllocationStats}
use Rattle.control.specs.declared.budget_allocator.BudgetAllocator.{BudgetAllocator}
use Rattle.control.specs.declared.budget_allocator.Shares.{Shares}
use Rattle.control.specs.declared.budget_allocator.WriterInfo.{WriterInfo}
use Rattle.control.specs.declared.budget_allocator.WriterTable.{WriterTable}

-- what the settings guarantee P0
abbrev pub allocation_config_of : CongestionConfig → AllocationConfig
allocation_config_of c = record { p0_min_share = c.p0_min_share; p0_min_bps = c.p0_min_bps }

-- ---- the table: writers by class and then by id, from row 0

abbrev pub writer_of : ℕ → Priority → Float → ℕ → ℕ → WriterInfo
writer_of id class weight budget previous =
    record { id = id; priority = class; weight = weight; budget_bps = budget; previous_bps = previous }

-- "Weights .. below 0.1 counts as 0.1" (0x3dcccccd)
abbrev pub new_writer : ℕ → Priority → Float → WriterInfo
new_writer id class weight = writer_of id class (max_of weight (of_bits binary32 0x3dcc_cccd)) 0 0

abbrev pub blank_writer : WriterInfo
blank_writer = writer_of 0 P0 zero32 0 0

-- what the language's reading gives beyond an array's end; no row taken lies there
abbrev pub no_writer : WriterInfo
no_writer = writer_of 0 P0 nan 0 0

abbrev pub row_at : List WriterInfo → ℕ → WriterInfo
row_at rows k = get_or rows k no_writer

-- by class, then by id
unfoldable pub comes_before : WriterInfo → WriterInfo → Bool
comes_before a b =
    cond (eqb (class_number a.priority) (class_number b.priority)) (ltb a.id b.id)
    (ltb (class_number a.priority) (class_number b.priority))

-- how many rows are taken
abbrev pub taken_of : ℕ → ℕ
taken_of count = min count 64

abbrev pub table_of : List WriterInfo → ℕ → WriterTable
table_of rows count = record { rows = rows; count = count }

abbrev pub new_table : WriterTable
new_table = table_of (replicate 64 blank_writer) 0

-- the list of the writers
abbrev pub writers_of : WriterTable → List WriterInfo
writers_of t = take (taken_of t.count) t.rows

-- the first row with the id, or the number of rows taken
unfoldable pub place_of : WriterTable → ℕ → ℕ
place_of t id = first (λ (k : ℕ). eqb (row_at t.rows k).id id) (taken_of t.count)

-- before the first of the rows taken that comes after the writer, or after them all
unfoldable pub place_for : WriterTable → WriterInfo → ℕ
place_for t w = first (λ (k : ℕ). comes_before w (row_at t.rows k)) (taken_of t.count)

-- a list less its k-th element
unfoldable pub lacking : {A : Type 0} → List A → ℕ → List A
lacking [] k = []
lacking (x ∷ xs) zero = xs
lacking (x ∷ xs) (suc k) = x ∷ lacking xs k

-- the writer takes row k, which moves on with those after it, up to the first that is free, which is given up; of 64 taken the last is
unfoldable pub with_row : WriterTable → ℕ → WriterInfo → WriterTable
with_row t k w =
    table_of (lacking (take k t.rows ++ (w ∷ drop k t.rows)) (min (max k (taken_of t.count + 1)) 64)) t.count

-- row k is given up, those after it move up, and a blank row comes last
unfoldable pub without_row : WriterTable → ℕ → WriterTable
without_row t k = table_of (lacking (t.rows ++ (blank_writer ∷ [])) (min k 64)) t.count

-- "writers by class and then by id": a new one takes its place in that order
unfoldable pub entered : WriterTable → WriterInfo → WriterTable
entered t w =
    cond (ltb (taken_of t.count) 64) (table_of (with_row t (place_for t w) w).rows (taken_of t.count + 1)) t

unfoldable pub is_known : WriterTable → ℕ → Bool
is_known t id = ltb (place_of t id) (taken_of t.count)

unfoldable pub without : WriterTable → ℕ → WriterTable
without t id =
    cond (ltb (place_of t id) (taken_of t.count))
    (table_of (without_row t (place_of t id)).rows (taken_of t.count - 1)) t

-- the budget in a writer's row
unfoldable pub budget_of : WriterTable → ℕ → Option ℕ
budget_of t id = cond (is_known t id) (Some (row_at t.rows (place_of t id)).budget_bps) None

-- not there, and 64 are
unfoldable pub full_for : WriterTable → ℕ → Bool
full_for t id = cond (is_known t id) false (leb 64 (taken_of t.count))

-- what is shown of a row: the writer there, or a blank
abbrev pub writer_at : WriterTable → ℕ → WriterInfo
writer_at t k = cond (ltb k (taken_of t.count)) (row_at t.rows k) blank_writer

-- ---- the allotment: what each writer of a list gets of a rate

abbrev pub no_weights : PerClass Float
no_weights = per_class zero32 zero32 zero32

-- a writer's weight joins its class's
unfoldable pub weighed : PerClass Float → WriterInfo → PerClass Float
weighed s w = with_value s w.priority (add binary32 (value_at s w.priority) w.weight)

-- the weights of each class, summed in f32 in the list's order
unfoldable pub weights_from : PerClass Float → List WriterInfo → PerClass Float
weights_from s [] = s
weights_from s (w ∷ ws) = weights_from (weighed s w) ws

-- a weight's part of a budget; no writer gets less than 1,000
unfoldable pub share_of : ℕ → Float → Float → ℕ
share_of budget weight total = max (scaled budget (div binary32 weight total)) 1000

-- P0 has its share of the rate to share out, or its guaranteed bytes per second where they are more
unfoldable pub reserve_of : AllocationConfig → ℕ → ℕ
reserve_of c rate = max (scaled rate c.p0_min_share) c.p0_min_bps

-- of what P0's writers leave P1 has 0.7 (0x3f333333), and P2 the rest
unfoldable pub split_of : ℕ → ℕ
split_of left = scaled left (of_bits binary32 0x3f33_3333)

abbrev pub urgent_in : Priority → ℕ → ℕ
urgent_in P0 part = part
urgent_in P1 part = 0
urgent_in P2 part = 0

-- what a writer takes before P1 and P2
unfoldable pub urgent_part : ℕ → Float → WriterInfo → ℕ
urgent_part reserve total w = urgent_in w.priority (share_of reserve w.weight total)

-- what P0's writers leave of the rate: all of it where there are none
unfoldable pub left_from : ℕ → Float → ℕ → List WriterInfo → ℕ
left_from reserve total left [] = left
left_from reserve total left (w ∷ ws) = left_from reserve total (left - urgent_part reserve total w) ws

abbrev pub budgets_of : ℕ → ℕ → PerClass ℕ
budgets_of reserve left = per_class reserve (split_of left) (left - split_of left)

abbrev pub shares_by : PerClass Float → ℕ → ℕ → List WriterInfo → Shares
shares_by weights reserve rate ws =
    record { weights = weights; budgets = budgets_of reserve (left_from reserve weights.p0 rate ws) }

unfoldable pub shares_of : AllocationConfig → ℕ → List WriterInfo → Shares
shares_of c rate ws = shares_by (weights_from no_weights ws) (reserve_of c rate) rate ws

unfoldable pub budget_for : Shares → WriterInfo → ℕ
budget_for s w = share_of (value_at s.budgets w.priority) w.weight (value_at s.weights w.priority)

-- the new budget; the old one is kept beside it
unfoldable pub with_budget : Shares → WriterInfo → WriterInfo
with_budget s w = writer_of w.id w.priority w.weight (budget_for s w) w.budget_bps

-- every writer of the list with its budget of the rate
unfoldable pub allotted : AllocationConfig → ℕ → List WriterInfo → List WriterInfo
allotted c rate ws = map (with_budget (shares_of c rate ws)) ws

-- the table with such budgets
unfoldable pub allotted_table : WriterTable → Shares → WriterTable
allotted_table t s = table_of (map (with_budget s) (writers_of t) ++ drop (taken_of t.count) t.rows) t.count

-- "`total_distributed_bps` .. stop at their largest value"
unfoldable pub distributed_from : ℕ → List WriterInfo → ℕ
distributed_from sum [] = sum
distributed_from sum (w ∷ ws) = distributed_from (up_to_u64 (sum + w.budget_bps)) ws

-- ---- the allocator

abbrev pub stats_of : ℕ → ℕ → ℕ → ℕ → AllocationStats
stats_of reallocations registered unregistered distributed =
    record {
      reallocations = reallocations;
      writers_registered = registered;
      writers_unregistered = unregistered;
      total_distributed_bps = distributed;
    }

abbrev pub no_stats : AllocationStats
no_stats = stats_of 0 0 0 0

abbrev pub allocator_of : WriterTable → ℕ → AllocationStats → BudgetAllocator
allocator_of t rate s = record { table = t; global_budget_bps = rate; stats = s }

abbrev pub new_allocator : BudgetAllocator
new_allocator = allocator_of new_table 0 no_stats

abbrev pub registered_stats : AllocationStats → AllocationStats
registered_stats s =
    stats_of s.reallocations (next s.writers_registered) s.writers_unregistered s.total_distributed_bps

abbrev pub unregistered_stats : AllocationStats → AllocationStats
unregistered_stats s =
    stats_of s.reallocations s.writers_registered (next s.writers_unregistered) s.total_distributed_bps

abbrev pub reallocated_stats : AllocationStats → WriterTable → AllocationStats
reallocated_stats s t =
    stats_of (next s.reallocations) s.writers_registered s.writers_unregistered
    (distributed_from s.total_distributed_bps (writers_of t))

-- weight 1
abbrev pub one : Float
one = of_bits binary32 0x3f80_0000

-- "the allocator replaces, as Rust does": a known id goes, and the new writer takes its place by class and id
unfoldable pub registered : BudgetAllocator → ℕ → Priority → Float → BudgetAllocator
registered a id class weight =
    allocator_of (entered (without a.table id) (new_writer id class weight)) a.global_budget_bps (registered_stats a.stats)

-- what is left, and whether the writer was there
unfoldable pub unregistered : BudgetAllocator → ℕ → BudgetAllocator × Bool
unregistered a id =
    cond (is_known a.table id)
    (allocator_of (without a.table id) a.global_budget_bps (unregistered_stats a.stats), true)
    (a, false)

abbrev pub reallocated_to : BudgetAllocator → ℕ → WriterTable → BudgetAllocator
reallocated_to a rate t = allocator_of t rate (reallocated_stats a.stats t)

unfoldable pub reallocated : BudgetAllocator → AllocationConfig → ℕ → BudgetAllocator
reallocated a c rate = reallocated_to a rate (allotted_table a.table (shares_of c rate (writers_of a.table)))
