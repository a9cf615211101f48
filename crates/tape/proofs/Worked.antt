-- The worked tape gives the lines that stand beside it, by computation. Assumes nothing.
-- Stays: document 01's example as a theorem, which docs/GUARANTEES.md and docs/COVERAGE.md name.
use Prim.Native.Nat.{ℕ}
use mathlib.Core.List.{List, [], ◌∷◌}
use mathlib.Core.Path.{◌≡◌, refl}
use lib.Ieee.{of_int, of_bits, add, mul, div, le, to_unsigned, is_nan}
use Rattle.config.specs.Refusal.{verdict_of}
use Rattle.numeric.specs.Float.{scaled}
use Rattle.numeric.specs.Search.{first}
use Rattle.queue.specs.Pool.{is_short}
use Rattle.pacing.specs.WriterPacer.{attempt_p0, paid, limited, attempt, sent_from, sent_if, rate_set}
use Rattle.signals.specs.RttEstimator.{any_inflated}
use Rattle.control.specs.BudgetAllocator as allocator
use Rattle.control.specs.BudgetAllocator.{comes_before, place_of, place_for, lacking, with_row, is_known, without, weighed, weights_from, share_of, reserve_of, split_of, urgent_part, left_from, shares_of, budget_for, with_budget, allotted_table, registered, reallocated}
use Rattle.control.specs.Controller as controller
use Rattle.control.specs.Controller.{new_core, on_inflated, on_window, steered, core_ticked, new_controller, registered_in, controller_ticked}
use Rattle.control.specs.RateController.{decreased, with_params, changed_to, applied}
use Rattle.control.specs.Scorer as scorer
use Rattle.control.specs.Scorer.{added_if, impulse_of, congested_at, evaluated_stable, evaluated, ticked}
use Rattle.station.specs.Station.{is_here, joined, left_by, register_leaves, registered_station, eagain_station, budgeted, budgeted_all, ticked_by, ticked_station, sent_station}
use Rattle.tape.specs.Item.{word_at, whole, register_of, signal_of, item_by, item_at, takes, is_end, stops, items_from, items_of}
use Rattle.tape.specs.Run.{fields_by, tick_told, rate_told, played, lines_of, text_of, tape_text}
use Rattle.tape.specs.Text.{decimal_by, fields_text, update_text, each_text, updates_text, line_text}
use Rattle.tape.proofs.Items.{whole_tape}

-- the bytes of the worked tape's lines
-- Stays: the theorem below, which docs/GUARANTEES.md names, is about them.
abbrev pub whole_lines : List ℕ
whole_lines =
    -- word answer fields
    119 ∷ 111 ∷ 114 ∷ 100 ∷ 32 ∷ 97 ∷ 110 ∷ 115 ∷ 119 ∷ 101 ∷ 114 ∷ 32 ∷ 102 ∷ 105 ∷ 101 ∷ 108 ∷ 100 ∷ 115 ∷ 10
    -- 0 0
    ∷ 48 ∷ 32 ∷ 48 ∷ 10
    -- 1 0
    ∷ 49 ∷ 32 ∷ 48 ∷ 10
    -- 2 0
    ∷ 50 ∷ 32 ∷ 48 ∷ 10
    -- 4 0 2 1:0:10000000 2:0:28000000
    ∷ 52 ∷ 32 ∷ 48 ∷ 32 ∷ 50 ∷ 32 ∷ 49 ∷ 58 ∷ 48 ∷ 58 ∷ 49 ∷ 48 ∷ 48 ∷ 48 ∷ 48 ∷ 48 ∷ 48 ∷ 48 ∷ 32 ∷ 50 ∷ 58 ∷ 48 ∷ 58 ∷ 50 ∷ 56 ∷ 48 ∷ 48 ∷ 48 ∷ 48 ∷ 48 ∷ 48 ∷ 10
    -- 5 0 empty
    ∷ 53 ∷ 32 ∷ 48 ∷ 32 ∷ 101 ∷ 109 ∷ 112 ∷ 116 ∷ 121 ∷ 10
    ∷ []

-- Stays: a theorem that docs/GUARANTEES.md and docs/COVERAGE.md name.
pub whole_tape-lines : tape_text whole_tape ≡ whole_lines
unfolding scaled of_int of_bits add mul div le to_unsigned is_nan verdict_of first is_short rate_set attempt_p0 paid limited attempt sent_from sent_if any_inflated comes_before place_of place_for lacking with_row allocator.entered is_known without weighed weights_from share_of reserve_of split_of urgent_part left_from shares_of budget_for with_budget allotted_table registered reallocated new_core controller.on_eagain on_inflated on_window steered core_ticked new_controller registered_in controller_ticked decreased with_params changed_to applied scorer.on_eagain added_if impulse_of congested_at evaluated_stable evaluated ticked is_here joined left_by register_leaves registered_station eagain_station budgeted budgeted_all ticked_by ticked_station sent_station word_at whole register_of signal_of item_by item_at takes is_end stops items_from items_of fields_by tick_told rate_told played lines_of text_of tape_text decimal_by fields_text update_text each_text updates_text line_text
whole_tape-lines = refl
