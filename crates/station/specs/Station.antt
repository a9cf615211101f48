-- The station (document 01, "Station (added)" and the two lists of numbers): what it holds, which reasons may apply to each of its
-- calls, and what each call answers and leaves, worked out from the modules' own steps. Of a record and of the pool only the length
-- is read; where the bytes go is said apart. Definitions only.
use Rattle.std.specs.Prelude.{ℕ, ◌≡◌, ◌+◌, ◌*◌, min, Bool, true, false, not, ◌||◌, cond, List, [], ◌∷◌, ◌++◌, map, leb, eqb, Float, get_or, set, slice_get, option_map, replicate, take, drop, Option, Some, None, Result, Ok, Err}
use Rattle.config.specs.declared.alone.Left.{Left}
use Rattle.config.specs.Config.{making_checks, is_invalid, failed_check, rates_beyond, floats_beyond, queues_beyond}
use Rattle.config.specs.Ledger.{opened, resumed, moved, time_check, timed_checks, rate_checks}
use Rattle.config.specs.Refusal.{Check, when, verdict_of}
use Rattle.config.specs.declared.config.CongestionConfig.{CongestionConfig}
use Rattle.config.specs.declared.config.Priority.{Priority}
use Rattle.config.specs.declared.ledger.Ledger.{Ledger}
use Rattle.config.specs.declared.refusal.Refusal.{Refusal}
use Rattle.config.specs.declared.refusal.Refusal.TheVariants.{SettingsInvalid, SettingsBeyond, WriterUnknown, WriterKnown, TableFull}
use Rattle.std.specs.List.{list_any}
use Rattle.queue.specs.Pool.{Limits, slots_of, limits_of}
use Rattle.queue.specs.declared.entry.InstanceKey.{InstanceKey}
use Rattle.queue.specs.declared.fate.Fate.{Fate}
use Rattle.queue.specs.declared.fate.Kept.{Kept}
use Rattle.pacing.specs.WriterPacer.{Pacer, pacer_config_of, made, fits, rate_set, handed_in, sent_if, hand_in_stored, sent_bytes}
use Rattle.pacing.specs.WriterPacerAlone as alone
use Rattle.pacing.specs.declared.writer_pacer.PacerConfig.{PacerConfig}
use Rattle.pacing.specs.declared.send_action.SendAction.{SendAction}
use Rattle.signals.specs.RttEstimator.{any_inflated}
use Rattle.signals.specs.RttEstimatorAlone.{sample_checks}
use Rattle.control.specs.BudgetAllocator.{row_at, place_of, is_known}
use Rattle.control.specs.Controller.{controller_config_of, on_eagain, on_nacks, on_ecn_tos, new_controller, with_core, registered_in, sampled, controller_ticked_by, controller_set, full_for_peer}
use Rattle.control.specs.declared.budget_allocator.WriterTable.{WriterTable}
use Rattle.control.specs.declared.controller.ControllerCore.{ControllerCore}
use Rattle.control.specs.declared.controller.CongestionController.{CongestionController}
use Rattle.station.specs.declared.station.StationConfig.{StationConfig}

-- ---- what it holds

-- a writer's id and its pacer
pub record Writer : Type 0 where
  pub id : ℕ
  pub pacer : Pacer

-- four places, of which the first `count` are taken
pub record Roster : Type 0 where
  pub writers : List Writer
  pub count : ℕ

pub record Station : Type 0 where
  pub ledger : Ledger
  pub config : StationConfig
  pub controller : CongestionController
  pub roster : Roster

abbrev pub station_config_of : CongestionConfig → StationConfig
station_config_of c = record { controller = controller_config_of c; pacer = pacer_config_of c }

abbrev pub writer_of : ℕ → Pacer → Writer
writer_of id p = record { id = id; pacer = p }

abbrev pub one_slot_each : Limits
one_slot_each = record { p0 = 1; p1 = 1; p2 = 1 }

-- the pacer of a place that no writer has: queues of one slot, no rate
abbrev pub no_pacer : Pacer
no_pacer = made 0 one_slot_each 0

-- a place that no writer has, and what is read beyond the last
abbrev pub no_writer : Writer
no_writer = writer_of 0 no_pacer

-- the same, where queues of N0, N1 and N2 slots have room for it
abbrev pub no_writer_in : ℕ → ℕ → ℕ → Option Writer
no_writer_in N0 N1 N2 = cond (fits N0 N1 N2 one_slot_each) (Some no_writer) None

abbrev pub roster_of : List Writer → ℕ → Roster
roster_of ws count = record { writers = ws; count = count }

abbrev pub new_roster : Roster
new_roster = roster_of (replicate 4 no_writer) 0

abbrev pub new_roster_in : ℕ → ℕ → ℕ → Option Roster
new_roster_in N0 N1 N2 = cond (fits N0 N1 N2 one_slot_each) (Some new_roster) None

abbrev pub writer_at : Roster → ℕ → Writer
writer_at r i = get_or r.writers i no_writer

-- the pacer of a place, where there is such a place
abbrev pub pacer_at : Roster → ℕ → Option Pacer
pacer_at r i = option_map (λ w. w.pacer) (slice_get r.writers i)

abbrev pub pacer_in : Station → ℕ → Pacer
pacer_in s i = (writer_at s.roster i).pacer

-- how many places are taken
abbrev pub taken_of : Roster → ℕ
taken_of r = min r.count 4

-- "16 id already in the station"
unfoldable pub is_here : Roster → ℕ → Bool
is_here r id = list_any (λ w. eqb w.id id) (take (taken_of r) r.writers)

-- "up to 4 writers with a pacer each, numbered from 0 as registered": the next place is the newcomer's
unfoldable pub joined : Roster → Writer → Roster
joined r w = roster_of (set r.writers r.count w) (r.count + 1)

-- the roster with another pacer in place i
unfoldable pub with_pacer : Roster → ℕ → Pacer → Roster
with_pacer r i p = roster_of (set r.writers i (writer_of (writer_at r i).id p)) r.count

abbrev pub station_of : Ledger → StationConfig → CongestionController → Roster → Station
station_of l c x r = record { ledger = l; config = c; controller = x; roster = r }

-- ---- answers

abbrev pub answer_with : {T : Type 0} → Result T Refusal → Station → Left Station T
answer_with answer s = record { state = s; answer = answer }

-- "The result is then zero and state and buffers are unchanged": no result, and all as it was
abbrev pub turned_down : {T : Type 0} → Station → Refusal → Left Station T
turned_down s e = answer_with (Err e) s

-- accepted: what the step left and gave; turned down: the reason, and the old state
unfoldable pub left_by : {T : Type 0} → Result Unit Refusal → Station → Left Station T → Left Station T
left_by (Ok u) s x = x
left_by (Err e) s x = turned_down s e

-- ---- making one: 1, 2 and 7

abbrev pub new_station : StationConfig → ℕ → Station
new_station c time = station_of (opened time) c (new_controller c.controller time) new_roster

-- the station, or the reason
unfoldable pub made_by : Result Unit Refusal → Station → Result Station Refusal
made_by (Ok u) s = Ok s
made_by (Err e) s = Err e

-- 2 too, where queues of N0, N1 and N2 slots have no room for the limits of the settings
abbrev pub room_checks : ℕ → ℕ → ℕ → CongestionConfig → ℕ → List Check
room_checks N0 N1 N2 c time =
    when SettingsInvalid (is_invalid (failed_check c))
    ∷ when SettingsBeyond (rates_beyond c || (floats_beyond c || (queues_beyond c || not (fits N0 N1 N2 (limits_of c)))))
    ∷ time_check time
    ∷ []

-- "P0 1 to 128, P1 1 to 512, P2 1 to 128": with so much room the reasons are those of the settings alone
abbrev pub RoomForAllSettings : Type 0
RoomForAllSettings = (c : CongestionConfig) (time : ℕ) → verdict_of (room_checks 128 512 128 c time) ≡ verdict_of (making_checks c time)

unfoldable pub made_station : ℕ → ℕ → ℕ → CongestionConfig → ℕ → Result Station Refusal
made_station N0 N1 N2 c time = made_by (verdict_of (room_checks N0 N1 N2 c time)) (new_station (station_config_of c) time)

-- a call count that was kept elsewhere
abbrev pub resumed_station : Station → ℕ → Station
resumed_station s calls = station_of (resumed s.ledger calls) s.config s.controller s.roster

-- ---- register: 7, 17, 11, 16 and 14

abbrev pub register_checks : Station → ℕ → ℕ → List Check
register_checks s time id =
    when WriterKnown (is_here s.roster id) ∷ when TableFull (leb 4 s.roster.count) ∷ timed_checks s.ledger time

-- "A pacer starts at `min_rate_bps`, which counts as a rate setting"
abbrev pub first_pacer : PacerConfig → ℕ → Pacer
first_pacer c time = made time c.limits c.min_rate_bps

unfoldable pub register_leaves : Station → ℕ → ℕ → Priority → Station
register_leaves s time id class =
    station_of (moved s.ledger time) s.config (registered_in s.controller id class)
    (joined s.roster (writer_of id (first_pacer s.config.pacer time)))

unfoldable pub registered_station : Station → ℕ → ℕ → Priority → Left Station Unit
registered_station s time id class =
    left_by (verdict_of (register_checks s time id)) s (answer_with (Ok tt) (register_leaves s time id class))

-- ---- signals: 7, 17 and 11; a sample 4 and 14 too

-- what a signal leaves: all but ledger and controller stay
abbrev pub steered : Station → ℕ → CongestionController → Station
steered s time x = station_of (moved s.ledger time) s.config x s.roster

abbrev pub signalled : {T : Type 0} → Station → ℕ → T → CongestionController → Left Station T
signalled s time told x = left_by (verdict_of (timed_checks s.ledger time)) s (answer_with (Ok told) (steered s time x))

unfoldable pub eagain_station : Station → ℕ → Left Station Unit
eagain_station s time =
    signalled s time tt (with_core s.controller (on_eagain s.controller.core s.config.controller))

unfoldable pub nacks_station : Station → ℕ → ℕ → Left Station Unit
nacks_station s time count =
    signalled s time tt (with_core s.controller (on_nacks s.controller.core s.config.controller count))

-- told: whether congestion is signalled
abbrev pub marked_by : Station → ℕ → ControllerCore × Bool → Left Station Bool
marked_by s time m = signalled s time m.1 (with_core s.controller m.0)

unfoldable pub tos_station : Station → ℕ → ℕ → Left Station Bool
tos_station s time tos = marked_by s time (on_ecn_tos s.controller.core s.config.controller tos)

-- "14 for a peer is not looked at there", on a disabled station
abbrev pub rtt_checks : Station → ℕ → ℕ → Float → List Check
rtt_checks s time peer rtt =
    when TableFull (full_for_peer s.controller s.config.controller peer) ∷ sample_checks s.ledger time rtt

unfoldable pub rtt_station : Station → ℕ → ℕ → Float → Left Station Unit
rtt_station s time peer rtt =
    left_by (verdict_of (rtt_checks s time peer rtt)) s
    (answer_with (Ok tt) (steered s time (sampled s.controller s.config.controller time peer rtt)))

-- ---- ticks and rate settings: 7, 17 and 11; a rate setting 6 too

-- "so does each budget update, sent to its `set_rate`": the update is the writer's row in the allocator's table
unfoldable pub budgeted : PacerConfig → ℕ → WriterTable → Writer → Writer
budgeted c time t w =
    cond (is_known t w.id)
    (writer_of w.id (rate_set w.pacer c time (row_at t.rows (place_of t w.id)).budget_bps)) w

unfoldable pub budgeted_all : PacerConfig → ℕ → WriterTable → Roster → Roster
budgeted_all c time t r =
    roster_of (map (budgeted c time t) (take (taken_of r) r.writers) ++ drop (taken_of r) r.writers) r.count

-- the budgets of the allocator's table reach the pacers
abbrev pub allotted_to : Station → ℕ → Station
allotted_to s time =
    station_of s.ledger s.config s.controller (budgeted_all s.config.pacer time s.controller.allocator.table s.roster)

-- new budgets reach the pacers
abbrev pub allotted : Station → ℕ → CongestionController → Station
allotted s time x =
    station_of (moved s.ledger time) s.config x (budgeted_all s.config.pacer time x.allocator.table s.roster)

-- a rate that a tick changed is shared out at once; told: whether it did, and the updates are then the allocator's rows
abbrev pub tick_leaves : Station → ℕ → CongestionController × Bool → Left Station Bool
tick_leaves s time t =
    cond t.1 (answer_with (Ok true) (allotted s time t.0)) (answer_with (Ok false) (steered s time t.0))

-- a tick that is told whether a peer is inflated
unfoldable pub ticked_by : Station → ℕ → Bool → Left Station Bool
ticked_by s time inflated =
    left_by (verdict_of (timed_checks s.ledger time)) s
    (tick_leaves s time (controller_ticked_by s.controller s.config.controller time inflated))

unfoldable pub ticked_station : Station → ℕ → Left Station Bool
ticked_station s time = ticked_by s time (any_inflated s.controller.tracker)

-- a rate that is set is shared out whether it changed or not: the updates are the allocator's rows
unfoldable pub rated_station : Station → ℕ → ℕ → Left Station Unit
rated_station s time rate =
    left_by (verdict_of (rate_checks s.ledger time rate)) s
    (answer_with (Ok tt) (allotted s time (controller_set s.controller s.config.controller time rate)))

-- ---- hand-ins and send attempts

abbrev pub limits_in : Station → Limits
limits_in s = s.config.pacer.limits

-- "A station's pool is too short below 4 × 1,472 × the sum of the three limits"
abbrev pub slots_needed : Limits → ℕ
slots_needed m = 4 * slots_of m

-- 15: no writer has that number
abbrev pub pacer_check : Station → ℕ → Check
pacer_check s i = when WriterUnknown (leb s.roster.count i)

-- what a call on pacer i leaves: all but the ledger and that pacer stay
abbrev pub paced : Station → ℕ → ℕ → Pacer → Station
paced s time i p = station_of (moved s.ledger time) s.config s.controller (with_pacer s.roster i p)

-- 3, 7, 8, 17, 11, 13 and 15, for a record of n bytes and a pool of so many; 12 is found by the step
abbrev pub hand_in_checks : Station → ℕ → ℕ → ℕ → ℕ → List Check
hand_in_checks s bytes time i n =
    pacer_check s i ∷ alone.hand_in_checks s.ledger s.config.pacer.enabled (slots_needed (limits_in s)) bytes time n

abbrev pub hand_in_verdict : Station → ℕ → ℕ → ℕ → ℕ → Result Unit Refusal
hand_in_verdict s bytes time i n = verdict_of (hand_in_checks s bytes time i n)

-- a record of n bytes to pacer i
abbrev pub enqueued_in : Station → ℕ → Priority → InstanceKey → ℕ → Pacer × Kept
enqueued_in s i c key n = handed_in (pacer_in s i) c key n

-- "12: it counts as an accepted call, moving the last time, and uses up a sequence number": told is the record's fate, a full P0 queue among them
abbrev pub hand_in_leaves : Station → ℕ → ℕ → Pacer × Kept → Left Station Fate
hand_in_leaves s time i x = answer_with (Ok x.1.fate) (paced s time i x.0)

unfoldable pub handed_station : Station → ℕ → ℕ → ℕ → Priority → InstanceKey → ℕ → Left Station Fate
handed_station s bytes time i c key n =
    left_by (hand_in_verdict s bytes time i n) s (hand_in_leaves s time i (enqueued_in s i c key n))

-- a pool after a call that would leave it so
unfoldable pub pool_by : Result Unit Refusal → List ℕ → List ℕ → List ℕ
pool_by (Ok u) after pool = after
pool_by (Err e) after pool = pool

-- the record's bytes go to its slot in a pool
unfoldable pub pool_handed : Station → ℕ → ℕ → ℕ → Priority → InstanceKey → List ℕ → ℕ → List ℕ → List ℕ
pool_handed s bytes time i c key sample n pool =
    pool_by (hand_in_verdict s bytes time i n) (hand_in_stored pool (limits_in s) i c (enqueued_in s i c key n).1 sample) pool

-- 7, 8, 17, 11 and 15
abbrev pub send_checks : Station → ℕ → ℕ → ℕ → List Check
send_checks s bytes time i = pacer_check s i ∷ alone.send_checks s.ledger (slots_needed (limits_in s)) bytes time

abbrev pub send_verdict : Station → ℕ → ℕ → ℕ → Result Unit Refusal
send_verdict s bytes time i = verdict_of (send_checks s bytes time i)

-- with control off the Rust's empty
abbrev pub attempt_in : Station → ℕ → ℕ → Pacer × SendAction
attempt_in s time i = sent_if s.config.pacer.enabled (pacer_in s i) time

abbrev pub send_leaves : Station → ℕ → ℕ → Pacer × SendAction → Left Station SendAction
send_leaves s time i x = answer_with (Ok x.1) (paced s time i x.0)

unfoldable pub sent_station : Station → ℕ → ℕ → ℕ → Left Station SendAction
sent_station s bytes time i = left_by (send_verdict s bytes time i) s (send_leaves s time i (attempt_in s time i))

-- "A sent record is shown as the middle part of the pool where it was kept."
abbrev pub shown_bytes : Station → ℕ → SendAction → List ℕ → List ℕ
shown_bytes s i action pool = sent_bytes (limits_in s) i action pool
