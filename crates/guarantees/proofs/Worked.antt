-- The worked lists hold by computation. Assumes nothing.
-- Stays: the worked lists (`worked`, `tape_worked`) that docs/GUARANTEES.md names; nothing cites a list that is proved.
use mathlib.Core.Path.{refl}
use lib.Ieee.{of_int, of_bits, add, mul, div, le, to_unsigned, is_nan}
use Rattle.config.specs.Config.{not_in_open_closed, not_in_open, not_in_closed, failed_check, rates_beyond, floats_beyond, limit_beyond, queues_beyond}
use Rattle.config.specs.Refusal.{verdict_of}
use Rattle.control.specs.BudgetAllocator.{comes_before, place_of, place_for, lacking, with_row, is_known, without, weighed, weights_from, share_of, reserve_of, split_of, urgent_part, left_from, shares_of, budget_for, with_budget, allotted_table, registered, reallocated}
use Rattle.control.specs.BudgetAllocator as allocator
use Rattle.control.specs.Controller.{new_core, on_inflated, on_window, steered, core_ticked, new_controller, registered_in, controller_ticked}
use Rattle.control.specs.Controller as controller
use Rattle.control.specs.RateController.{decreased, with_params, changed_to, applied}
use Rattle.control.specs.Scorer.{added_if, impulse_of, congested_at, evaluated_stable, evaluated, ticked}
use Rattle.control.specs.Scorer as scorer
use Rattle.numeric.specs.Float.{scaled}
use Rattle.numeric.specs.Search.{first}
use Rattle.queue.specs.Coalescing.{inserted}
use Rattle.queue.specs.Pool.{is_short, slot_start, put, stored}
use Rattle.queue.specs.Waiting.{roomy, joined as joined_to, next_slot, joins}
use Rattle.pacing.specs.Records.{shaped}
use Rattle.pacing.specs.TokenBucket.{credit, wait_of, refilled, tried, told}
use Rattle.pacing.specs.WriterPacer.{enqueue_p1, enqueue_p2, enqueue, gone, paid, waited, limited, attempt, hand_in_noted, handed_in, hand_in_stored, send_noted, sent_from, sent_if, rate_set}
use Rattle.signals.specs.RttEstimator.{any_inflated}
use Rattle.station.specs.Station.{is_here, joined, with_pacer, left_by, made_by, made_station, register_leaves, registered_station, eagain_station, budgeted, budgeted_all, ticked_by, ticked_station, handed_station, pool_by, pool_handed, sent_station}
use Rattle.guarantees.specs.Book.{joining, replacing, keyed_in, handed_to, taken_from, with_queue, handed_by, with_page, page_after_send, noted}
use Rattle.guarantees.specs.Calls.{controlled, outcome, in_place, written, after, answers}
use Rattle.guarantees.specs.Theorem.{keep, keeps}
use Rattle.guarantees.specs.Worked.{IsWorked, IsTapeWorked}

-- Stays: docs/GUARANTEES.md names it.
pub worked : IsWorked
unfolding of_int of_bits add mul div le to_unsigned not_in_open_closed not_in_open not_in_closed failed_check rates_beyond floats_beyond limit_beyond queues_beyond verdict_of first inserted shaped is_short slot_start put stored roomy joined_to next_slot joins credit wait_of refilled tried told enqueue_p1 enqueue_p2 enqueue gone paid waited limited attempt hand_in_noted handed_in hand_in_stored send_noted sent_from sent_if is_here joined with_pacer left_by made_by made_station register_leaves registered_station handed_station pool_by pool_handed sent_station joining replacing keyed_in handed_to taken_from with_queue handed_by with_page page_after_send noted outcome in_place written after answers keep keeps
worked = (refl, refl, refl, refl, refl, refl)

-- Stays: docs/GUARANTEES.md names it.
pub tape_worked : IsTapeWorked
unfolding scaled of_int of_bits add mul div le to_unsigned is_nan not_in_open_closed not_in_open not_in_closed failed_check rates_beyond floats_beyond limit_beyond queues_beyond verdict_of first is_short rate_set paid limited attempt send_noted sent_from sent_if any_inflated comes_before place_of place_for lacking with_row allocator.entered is_known without weighed weights_from share_of reserve_of split_of urgent_part left_from shares_of budget_for with_budget allotted_table registered reallocated new_core controller.on_eagain on_inflated on_window steered core_ticked new_controller registered_in controller_ticked decreased with_params changed_to applied scorer.on_eagain added_if impulse_of congested_at evaluated_stable evaluated ticked is_here joined left_by made_by made_station register_leaves registered_station eagain_station budgeted budgeted_all ticked_by ticked_station sent_station controlled outcome in_place written after answers
tape_worked = (refl, refl, refl)
