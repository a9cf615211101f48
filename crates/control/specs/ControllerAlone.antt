-- A controller used alone: the reasons that may apply to each call, and what it answers and leaves. Definitions only.
use Rattle.std.specs.Prelude.{ℕ, Bool, true, false, List, ◌∷◌, Result, Float}
use Rattle.config.specs.Alone.{begun, answered, made_or}
use Rattle.config.specs.Config.{making_checks}
use Rattle.config.specs.Ledger.{counted, moved, counted_checks, timed_checks, rate_checks}
use Rattle.config.specs.Refusal.{Check, when, verdict_of}
use Rattle.config.specs.declared.alone.Alone.{Alone}
use Rattle.config.specs.declared.alone.Left.{Left}
use Rattle.config.specs.declared.config.CongestionConfig.{CongestionConfig}
use Rattle.config.specs.declared.config.Priority.{Priority}
use Rattle.config.specs.declared.refusal.Refusal.{Refusal}
use Rattle.config.specs.declared.refusal.Refusal.TheVariants.{TableFull}
use Rattle.numeric.specs.Float.{zero32}
use Rattle.signals.specs.RttEstimatorAlone.{sample_checks}
use Rattle.control.specs.BudgetAllocator.{full_for}
use Rattle.control.specs.Controller.{controller_config_of, on_eagain, on_nacks, on_ecn_ce, new_controller, with_core, tos_in, registered_in, sampled, controller_ticked, controller_set, full_for_peer}
use Rattle.control.specs.declared.budget_allocator.AllocationConfig.{AllocationConfig}
use Rattle.control.specs.declared.controller.CongestionController.{CongestionController}
use Rattle.control.specs.declared.controller.ControllerConfig.{ControllerConfig}
use Rattle.control.specs.declared.controller.ControllerCore.{ControllerCore}
use Rattle.control.specs.declared.controller_alone.ConfiguredCongestion.{ConfiguredCongestion}
use Rattle.control.specs.declared.rate_controller.RateParams.{RateParams}
use Rattle.control.specs.declared.scorer.ScorerConfig.{ScorerConfig}

-- settings that were turned down
abbrev pub no_scorer_config : ScorerConfig
no_scorer_config =
    record {
      tick_interval = 0;
      decay = zero32;
      decrease_threshold = zero32;
      increase_threshold = zero32;
      hysteresis = zero32;
      cooldown = 0;
      stable_window = 0;
      eagain_impulse = zero32;
      rtt_impulse = zero32;
      nack_impulse = zero32;
      nack_threshold = 0;
      eagain_is_hard = false;
    }

abbrev pub no_params : RateParams
no_params =
    record {
      min_rate = 0;
      max_rate = 0;
      ai_step = 0;
      md_hard = zero32;
      md_soft = zero32;
    }

abbrev pub no_allocation_config : AllocationConfig
no_allocation_config = record { p0_min_share = zero32; p0_min_bps = 0 }

abbrev pub no_config : ControllerConfig
no_config =
    record {
      enabled = false;
      ecn = false;
      scorer = no_scorer_config;
      rate = no_params;
      allocation = no_allocation_config;
    }

abbrev pub configured : ControllerConfig → CongestionController → ConfiguredCongestion
configured c x = record { config = c; controller = x }

-- a controller with no call yet
abbrev pub made_of : ControllerConfig → ℕ → Alone ConfiguredCongestion
made_of c time = begun time (configured c (new_controller c time))

-- 1, 2 and 7
unfoldable pub made_alone : CongestionConfig → ℕ → Result (Alone ConfiguredCongestion) Refusal
made_alone c time =
    made_or (verdict_of (making_checks c time)) time
    (configured (controller_config_of c) (new_controller (controller_config_of c) time))

-- 17 and 14
abbrev pub register_checks : Alone ConfiguredCongestion → ℕ → List Check
register_checks a id = when TableFull (full_for a.inner.controller.allocator.table id) ∷ counted_checks a.ledger

-- 4, 7, 17, 11, and 14: the peer is new and the table full
abbrev pub peer_checks : Alone ConfiguredCongestion → ℕ → ℕ → Float → List Check
peer_checks a time id rtt =
    when TableFull (full_for_peer a.inner.controller a.inner.config id) ∷ sample_checks a.ledger time rtt

-- a call that takes no time, and one at a time; r is what the step leaves and gives
abbrev pub counted_by : {T : Type 0} → List Check → Alone ConfiguredCongestion → CongestionController × T → Left (Alone ConfiguredCongestion) T
counted_by checks a r = answered a (verdict_of checks) (counted a.ledger) (configured a.inner.config r.0, r.1)

abbrev pub moved_by : {T : Type 0} → List Check → ℕ → Alone ConfiguredCongestion → CongestionController × T → Left (Alone ConfiguredCongestion) T
moved_by checks time a r = answered a (verdict_of checks) (moved a.ledger time) (configured a.inner.config r.0, r.1)

unfoldable pub registered_alone : Alone ConfiguredCongestion → ℕ → Priority → Left (Alone ConfiguredCongestion) Unit
registered_alone a id class = counted_by (register_checks a id) a (registered_in a.inner.controller id class, tt)

-- a signal takes no time, and touches the core alone
unfoldable pub signalled_alone : Alone ConfiguredCongestion → ControllerCore → Left (Alone ConfiguredCongestion) Unit
signalled_alone a k = counted_by (counted_checks a.ledger) a (with_core a.inner.controller k, tt)

unfoldable pub eagain_alone : Alone ConfiguredCongestion → Left (Alone ConfiguredCongestion) Unit
eagain_alone a = signalled_alone a (on_eagain a.inner.controller.core a.inner.config)

unfoldable pub nacks_alone : Alone ConfiguredCongestion → ℕ → Left (Alone ConfiguredCongestion) Unit
nacks_alone a count = signalled_alone a (on_nacks a.inner.controller.core a.inner.config count)

-- whether congestion is signalled
unfoldable pub tos_alone : Alone ConfiguredCongestion → ℕ → Left (Alone ConfiguredCongestion) Bool
tos_alone a tos = counted_by (counted_checks a.ledger) a (tos_in a.inner.controller a.inner.config tos)

unfoldable pub ce_alone : Alone ConfiguredCongestion → Left (Alone ConfiguredCongestion) Unit
ce_alone a = signalled_alone a (on_ecn_ce a.inner.controller.core a.inner.config)

unfoldable pub sampled_alone : Alone ConfiguredCongestion → ℕ → ℕ → Float → Left (Alone ConfiguredCongestion) Unit
sampled_alone a time id rtt = moved_by (peer_checks a time id rtt) time a (sampled a.inner.controller a.inner.config time id rtt, tt)

-- whether the writers' rows tell updates: where the rate changed, and always where a rate is set
unfoldable pub ticked_alone : Alone ConfiguredCongestion → ℕ → Left (Alone ConfiguredCongestion) Bool
ticked_alone a time = moved_by (timed_checks a.ledger time) time a (controller_ticked a.inner.controller a.inner.config time)

-- 6, 7, 17 and 11
unfoldable pub rated_alone : Alone ConfiguredCongestion → ℕ → ℕ → Left (Alone ConfiguredCongestion) Bool
rated_alone a time rate =
    moved_by (rate_checks a.ledger time rate) time a (controller_set a.inner.controller a.inner.config time rate, true)
