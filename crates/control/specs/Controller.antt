-- The congestion controller: the core, the peers and the writers. Definitions only.
use Rattle.std.specs.Prelude.{ℕ, ◌+◌, ◌-◌, Bool, true, false, cond, ltb, leb, Float}
use Rattle.std.specs.Float.{binary32}
use Rattle.std.specs.Float.Ieee.{of_bits}
use Rattle.config.specs.declared.config.CongestionConfig.{CongestionConfig}
use Rattle.config.specs.declared.config.EcnMode.{EcnMode}
use Rattle.config.specs.declared.config.EcnMode.TheVariants.{Off, Opportunistic, Mandatory}
use Rattle.config.specs.declared.config.Priority.{Priority}
use Rattle.numeric.specs.Integer.{up_to_u32}
use Rattle.signals.specs.Ecn.{new_processor, processed_tos, processed_ce}
use Rattle.signals.specs.RttEstimator.{new_tracker, tracker_updated, full_for, any_inflated}
use Rattle.signals.specs.declared.ecn.EcnProcessor.{EcnProcessor}
use Rattle.signals.specs.declared.rtt_estimator.PeerRttTracker.{PeerRttTracker}
use Rattle.control.specs.BudgetAllocator.{allocation_config_of, new_allocator, one, registered, reallocated}
use Rattle.control.specs.Metrics.{no_metrics, rate_recorded, change_recorded, eagain_recorded, ce_recorded}
use Rattle.control.specs.RateController.{Applied, params_of, with_params, applied, rate_set}
use Rattle.control.specs.Scorer.{scorer_config_of, new_scorer, on_rtt_inflated, on_nack, Ticked, ticked}
use Rattle.control.specs.Scorer as Scorer
use Rattle.control.specs.declared.budget_allocator.BudgetAllocator.{BudgetAllocator}
use Rattle.control.specs.declared.controller.CongestionController.{CongestionController}
use Rattle.control.specs.declared.controller.ControllerConfig.{ControllerConfig}
use Rattle.control.specs.declared.controller.ControllerCore.{ControllerCore}
use Rattle.control.specs.declared.controller.NackWindow.{NackWindow}
use Rattle.control.specs.declared.metrics.CongestionMetrics.{CongestionMetrics}
use Rattle.control.specs.declared.rate_controller.RateController.{RateController}
use Rattle.control.specs.declared.scorer.CongestionScorer.{CongestionScorer}

-- opportunistic and mandatory are one to the controller
abbrev pub ecn_used : EcnMode → Bool
ecn_used Off = false
ecn_used Opportunistic = true
ecn_used Mandatory = true

-- what the settings say to the controller and its parts
abbrev pub controller_config_of : CongestionConfig → ControllerConfig
controller_config_of c =
    record {
      enabled = c.enabled;
      ecn = ecn_used c.ecn_mode;
      scorer = scorer_config_of c;
      rate = params_of c;
      allocation = allocation_config_of c;
    }

-- ---- the core: all but the tables

abbrev pub core_of : CongestionScorer → RateController → EcnProcessor → CongestionMetrics → NackWindow → ℕ → ControllerCore
core_of scorer rate ecn metrics nacks tick =
    record {
      scorer = scorer;
      rate_controller = rate;
      ecn = ecn;
      metrics = metrics;
      nacks = nacks;
      last_tick = tick;
    }

abbrev pub window_of : ℕ → ℕ → NackWindow
window_of count start = record { count = count; start = start }

-- the rate begins at its largest
unfoldable pub new_core : ControllerConfig → ℕ → ControllerCore
new_core c time =
    core_of (new_scorer time) (with_params c.rate time c.rate.max_rate) new_processor no_metrics (window_of 0 time) time

-- a core with another scorer, and with another scorer and metrics
abbrev pub with_scorer : ControllerCore → CongestionScorer → ControllerCore
with_scorer k s = core_of s k.rate_controller k.ecn k.metrics k.nacks k.last_tick

abbrev pub with_metrics : ControllerCore → CongestionScorer → CongestionMetrics → ControllerCore
with_metrics k s m = core_of s k.rate_controller k.ecn m k.nacks k.last_tick

unfoldable pub on_eagain : ControllerCore → ControllerConfig → ControllerCore
on_eagain k c =
    cond c.enabled (with_metrics k (Scorer.on_eagain k.scorer) (eagain_recorded k.metrics)) k

-- NACKs wait for the end of their window
abbrev pub with_window : ControllerCore → NackWindow → ControllerCore
with_window k w = core_of k.scorer k.rate_controller k.ecn k.metrics w k.last_tick

unfoldable pub on_nacks : ControllerCore → ControllerConfig → ℕ → ControllerCore
on_nacks k c count =
    cond c.enabled (with_window k (window_of (up_to_u32 (k.nacks.count + count)) k.nacks.start)) k

abbrev pub with_ecn : ControllerCore → EcnProcessor → ControllerCore
with_ecn k p = core_of k.scorer k.rate_controller p k.metrics k.nacks k.last_tick

-- marks that signal congestion count as an inflated round-trip time
unfoldable pub marked : ControllerCore → ControllerCore
marked k = with_metrics k (on_rtt_inflated k.scorer) (ce_recorded k.metrics)

-- a core, and whether congestion is signalled
abbrev pub Marked : Type 0
Marked = ControllerCore × Bool

abbrev pub marked_by : ControllerCore → EcnProcessor × Bool → Marked
marked_by k p = cond p.1 (marked (with_ecn k p.0), true) (with_ecn k p.0, false)

unfoldable pub on_ecn_tos : ControllerCore → ControllerConfig → ℕ → Marked
on_ecn_tos k c tos = cond c.enabled (cond c.ecn (marked_by k (processed_tos k.ecn tos)) (k, false)) (k, false)

unfoldable pub on_ecn_ce : ControllerCore → ControllerConfig → ControllerCore
on_ecn_ce k c = cond c.enabled (cond c.ecn (marked (with_ecn k (processed_ce k.ecn).0)) k) k

-- ---- a tick

unfoldable pub on_inflated : ControllerCore → Bool → ControllerCore
on_inflated k inflated = cond inflated (with_scorer k (on_rtt_inflated k.scorer)) k

-- "NACKs reach the scorer once per elapsed second": a window of a second or more closes, and reaches it as one NACK where its count is above the threshold
abbrev pub window_closed : ControllerCore → ℕ → ℕ → ControllerCore
window_closed k threshold time =
    cond (ltb threshold k.nacks.count) (with_scorer (with_window k (window_of 0 time)) (on_nack k.scorer))
    (with_window k (window_of 0 time))

unfoldable pub on_window : ControllerCore → ℕ → ℕ → ControllerCore
on_window k threshold time = cond (leb 1000000000 (time - k.nacks.start)) (window_closed k threshold time) k

-- the scorer's tick, what it asks of the rate, and the changed rate in the metrics
abbrev pub with_rate : ControllerCore → CongestionScorer → RateController → CongestionMetrics → ControllerCore
with_rate k s r m = core_of s r k.ecn m k.nacks k.last_tick

-- a core, and whether its rate changed
abbrev pub CoreTicked : Type 0
CoreTicked = ControllerCore × Bool

abbrev pub steered_by : ControllerCore → CongestionScorer → Applied → CoreTicked
steered_by k s a = (with_rate k s a.0 (change_recorded k.metrics a.1 a.0.current_rate), a.1)

abbrev pub steered_for : ControllerCore → ControllerConfig → ℕ → Ticked → CoreTicked
steered_for k c time t = steered_by k t.0 (applied k.rate_controller c.rate time t.1)

unfoldable pub steered : ControllerCore → ControllerConfig → ℕ → CoreTicked
steered k c time = steered_for k c time (ticked k.scorer c.scorer time)

abbrev pub ticked_at : ControllerCore → ℕ → ControllerCore
ticked_at k time = core_of k.scorer k.rate_controller k.ecn k.metrics k.nacks time

unfoldable pub core_ticked : ControllerCore → ControllerConfig → ℕ → Bool → CoreTicked
core_ticked k c time inflated =
    cond c.enabled (steered (on_window (on_inflated (ticked_at k time) inflated) c.scorer.nack_threshold time) c time)
    (k, false)

-- the controller's rate is held to its range; the metrics take the rate as given
unfoldable pub core_set : ControllerCore → ControllerConfig → ℕ → ℕ → ControllerCore
core_set k c time rate =
    with_rate k k.scorer (rate_set k.rate_controller c.rate time rate) (rate_recorded k.metrics rate)

-- ---- the controller: the core and the two tables

abbrev pub controller_of : ControllerCore → PeerRttTracker → BudgetAllocator → CongestionController
controller_of k t a = record { core = k; tracker = t; allocator = a }

-- a new peer's default is 100 ms
unfoldable pub new_controller : ControllerConfig → ℕ → CongestionController
new_controller c time = controller_of (new_core c time) (new_tracker (of_bits binary32 0x42c8_0000)) new_allocator

-- a signal touches the core alone
abbrev pub with_core : CongestionController → ControllerCore → CongestionController
with_core x k = controller_of k x.tracker x.allocator

-- what a TOS byte leaves, and whether congestion is signalled
abbrev pub with_marked : CongestionController → Marked → CongestionController × Bool
with_marked x m = (with_core x m.0, m.1)

unfoldable pub tos_in : CongestionController → ControllerConfig → ℕ → CongestionController × Bool
tos_in x c tos = with_marked x (on_ecn_tos x.core c tos)

unfoldable pub registered_in : CongestionController → ℕ → Priority → CongestionController
registered_in x id class = controller_of x.core x.tracker (registered x.allocator id class one)

unfoldable pub sampled : CongestionController → ControllerConfig → ℕ → ℕ → Float → CongestionController
sampled x c time id rtt =
    cond c.enabled (controller_of x.core (tracker_updated x.tracker time id rtt) x.allocator) x

-- a controller, and whether its rate changed: each writer's row then tells its update
abbrev pub ControllerTicked : Type 0
ControllerTicked = CongestionController × Bool

-- a changed rate is shared out at once
abbrev pub ticked_with : CongestionController → ControllerConfig → CoreTicked → ControllerTicked
ticked_with x c t =
    cond t.1
    (controller_of t.0 x.tracker (reallocated x.allocator c.allocation t.0.rate_controller.current_rate), true)
    (controller_of t.0 x.tracker x.allocator, false)

-- a tick that is told whether a peer is inflated
abbrev pub controller_ticked_by : CongestionController → ControllerConfig → ℕ → Bool → ControllerTicked
controller_ticked_by x c time inflated = ticked_with x c (core_ticked x.core c time inflated)

unfoldable pub controller_ticked : CongestionController → ControllerConfig → ℕ → ControllerTicked
controller_ticked x c time = controller_ticked_by x c time (any_inflated x.tracker)

-- "`set_rate` clamps the controller's rate but allots by the raw one"
unfoldable pub controller_set : CongestionController → ControllerConfig → ℕ → ℕ → CongestionController
controller_set x c time rate =
    controller_of (core_set x.core c time rate) x.tracker (reallocated x.allocator c.allocation rate)

-- "14 for a peer is not looked at" on a disabled station
unfoldable pub full_for_peer : CongestionController → ControllerConfig → ℕ → Bool
full_for_peer x c id = cond c.enabled (full_for x.tracker id) false
