-- The settled examples hold: each row by computation. Assumes nothing.
-- Stays: the settled examples (`settled`) that README.md and docs/GUARANTEES.md name; nothing cites a table that is proved.
use mathlib.Core.Path.{refl}
use lib.Ieee.{of_int, of_bits, to_bits, add, sub, mul, div, lt, le, to_unsigned, is_nan}
use Rattle.config.specs.Refusal.{verdict_of}
use Rattle.control.specs.BudgetAllocator.{weights_from, reserve_of, split_of, left_from, shares_of, allotted_table, distributed_from, reallocated}
use Rattle.control.specs.Controller.{new_core, on_inflated, on_window, steered, core_ticked, new_controller, sampled, controller_ticked, full_for_peer}
use Rattle.control.specs.Controller as controller
use Rattle.control.specs.ControllerAlone.{signalled_alone, eagain_alone, sampled_alone, ticked_alone}
use Rattle.control.specs.Metrics.{change_recorded}
use Rattle.control.specs.RateController.{decreased, gained_from, lost_from, softened, hardened, with_params, changed_to, applied}
use Rattle.control.specs.Scorer.{added_if, impulse_of, tick_measured, congestion_measured, congested_for, on_rtt_inflated, in_cooldown, can_increase, congested_at, evaluated_stable, evaluated_congested, evaluated, ticked}
use Rattle.control.specs.Scorer as scorer
use Rattle.numeric.specs.Float.{scaled}
use Rattle.numeric.specs.Search.{first}
use Rattle.queue.specs.Coalescing.{joined_hash, joined_all, inserted, popped_front}
use Rattle.queue.specs.Pool.{is_short}
use Rattle.queue.specs.Waiting.{roomy, joined, next_slot, joins}
use Rattle.pacing.specs.TokenBucket.{credit, wait_of, refilled, tried, forced, told}
use Rattle.pacing.specs.WriterPacer.{enqueue_p0, enqueue_p1, enqueue_p2, enqueue, gone, attempt_p0, paid, waited, limited, attempt, hand_in_noted, handed_in, send_noted, sent_from, sent_if}
use Rattle.pacing.specs.WriterPacerAlone.{handed_alone, sent_alone}
use Rattle.signals.specs.Ecn.{recorded, responded, counted, window_signals, closed, processed_tos}
use Rattle.signals.specs.RttEstimator.{updated, inflated, place_of, tracker_updated, full_for, any_inflated}
use Rattle.signals.specs.RttEstimatorAlone.{sample_out}
use Rattle.guarantees.specs.Examples.{table, IsSettled}

-- Stays: docs/GUARANTEES.md names it: every row of the table.
pub settled : IsSettled table
unfolding scaled of_int of_bits to_bits add sub mul div lt le to_unsigned is_nan recorded responded counted window_signals closed processed_tos updated joined_hash joined_all credit wait_of refilled tried told verdict_of first inserted popped_front is_short roomy joined next_slot joins forced enqueue_p0 enqueue_p1 enqueue_p2 enqueue gone attempt_p0 paid waited limited attempt hand_in_noted handed_in send_noted sent_from sent_if handed_alone sent_alone inflated place_of tracker_updated full_for any_inflated sample_out weights_from reserve_of split_of left_from shares_of allotted_table distributed_from reallocated controller.on_eagain new_core on_inflated on_window steered core_ticked new_controller sampled controller_ticked full_for_peer signalled_alone eagain_alone sampled_alone ticked_alone decreased gained_from lost_from softened hardened with_params changed_to applied change_recorded scorer.on_eagain added_if impulse_of tick_measured congestion_measured congested_for on_rtt_inflated in_cooldown can_increase congested_at evaluated_stable evaluated_congested evaluated ticked
settled = (refl, (refl, (refl, (refl, (refl, (refl, (refl, (refl, (refl, (refl, (refl, (refl, (refl, (refl, (refl, tt)))))))))))))))
