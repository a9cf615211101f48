-- An allocator used alone: it takes no times. The reasons that may apply to each call, and what it answers and leaves. Definitions only.
use Rattle.std.specs.Prelude.{ℕ, Bool, not, ◌||◌, List, ◌∷◌, Result, Float}
use Rattle.std.specs.Float.{binary32}
use Rattle.std.specs.Float.Ieee.{of_bits, lt}
use Rattle.config.specs.Alone.{answered, made_or}
use Rattle.config.specs.Config.{settings_checks}
use Rattle.config.specs.Ledger.{counted, counted_checks, rate_check}
use Rattle.config.specs.Refusal.{Check, when, verdict_of}
use Rattle.config.specs.declared.alone.Alone.{Alone}
use Rattle.config.specs.declared.alone.Left.{Left}
use Rattle.config.specs.declared.config.CongestionConfig.{CongestionConfig}
use Rattle.config.specs.declared.config.Priority.{Priority}
use Rattle.config.specs.declared.refusal.Refusal.{Refusal}
use Rattle.config.specs.declared.refusal.Refusal.TheVariants.{SampleBeyond, TableFull}
use Rattle.numeric.specs.Float.{finite}
use Rattle.control.specs.BudgetAllocator.{allocation_config_of, full_for, new_allocator, one, registered, unregistered, reallocated}
use Rattle.control.specs.declared.budget_allocator.AllocationConfig.{AllocationConfig}
use Rattle.control.specs.declared.budget_allocator.BudgetAllocator.{BudgetAllocator}
use Rattle.control.specs.declared.budget_allocator_alone.ConfiguredAllocator.{ConfiguredAllocator}

-- "Weights finite, at most 1,000,000" (0x49742400)
unfoldable pub weight_out : Float → Bool
weight_out x = not (finite x) || lt (of_bits binary32 0x4974_2400) x

abbrev pub configured : AllocationConfig → BudgetAllocator → ConfiguredAllocator
configured c a = record { config = c; allocator = a }

-- 1 and 2
unfoldable pub made_alone : CongestionConfig → Result (Alone ConfiguredAllocator) Refusal
made_alone c = made_or (verdict_of (settings_checks c)) 0 (configured (allocation_config_of c) new_allocator)

-- 17 and 14
abbrev pub register_checks : Alone ConfiguredAllocator → ℕ → List Check
register_checks a id = when TableFull (full_for a.inner.allocator.table id) ∷ counted_checks a.ledger

-- 4, 17 and 14
abbrev pub weight_checks : Alone ConfiguredAllocator → ℕ → Float → List Check
weight_checks a id weight = when SampleBeyond (weight_out weight) ∷ register_checks a id

-- 6 and 17
abbrev pub allot_checks : Alone ConfiguredAllocator → ℕ → List Check
allot_checks a rate = rate_check rate ∷ counted_checks a.ledger

-- no call takes a time; r is what the step leaves and gives
abbrev pub answered_by : {T : Type 0} → List Check → Alone ConfiguredAllocator → BudgetAllocator × T → Left (Alone ConfiguredAllocator) T
answered_by checks a r = answered a (verdict_of checks) (counted a.ledger) (configured a.inner.config r.0, r.1)

unfoldable pub registered_alone : Alone ConfiguredAllocator → ℕ → Priority → Left (Alone ConfiguredAllocator) Unit
registered_alone a id class = answered_by (register_checks a id) a (registered a.inner.allocator id class one, tt)

unfoldable pub weighted_alone : Alone ConfiguredAllocator → ℕ → Priority → Float → Left (Alone ConfiguredAllocator) Unit
weighted_alone a id class weight =
    answered_by (weight_checks a id weight) a (registered a.inner.allocator id class weight, tt)

-- whether the writer was there
unfoldable pub unregistered_alone : Alone ConfiguredAllocator → ℕ → Left (Alone ConfiguredAllocator) Bool
unregistered_alone a id = answered_by (counted_checks a.ledger) a (unregistered a.inner.allocator id)

unfoldable pub reallocated_alone : Alone ConfiguredAllocator → ℕ → Left (Alone ConfiguredAllocator) Unit
reallocated_alone a rate = answered_by (allot_checks a rate) a (reallocated a.inner.allocator a.inner.config rate, tt)
