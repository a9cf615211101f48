-- The sending rate (document 01, rate_controller.rs): additive increase, multiplicative decrease. Definitions only.
use Rattle.std.specs.Prelude.{ℕ, ◌+◌, ◌-◌, min, max, Bool, true, false, cond, ltb, eqb, Float}
use Rattle.config.specs.declared.config.CongestionConfig.{CongestionConfig}
use Rattle.numeric.specs.Float.{scaled}
use Rattle.numeric.specs.Integer.{up_to_u64, next}
use Rattle.control.specs.declared.rate_controller.RateController.{RateController}
use Rattle.control.specs.declared.rate_controller.RateControllerMetrics.{RateControllerMetrics}
use Rattle.control.specs.declared.rate_controller.RateParams.{RateParams}
use Rattle.control.specs.declared.scorer.CongestionAction.{CongestionAction}
use Rattle.control.specs.declared.scorer.CongestionAction.TheVariants.{None, Increase, DecreaseSoft, DecreaseHard}

-- ---- the decrease

-- "Rust panics where the product exceeds the old rate; here the old rate is kept"; else the floor holds
abbrev pub by_product : ℕ → ℕ → ℕ → ℕ
by_product rate least product = cond (ltb rate product) rate (max product least)

unfoldable pub decreased : ℕ → Float → ℕ → ℕ
decreased rate factor least = by_product rate least (scaled rate factor)

-- ---- what is counted

abbrev pub metrics_of : ℕ → ℕ → ℕ → ℕ → ℕ → ℕ → ℕ → RateControllerMetrics
metrics_of increases soft hard lost gained peak least =
    record {
      increases = increases;
      decreases_soft = soft;
      decreases_hard = hard;
      capacity_lost = lost;
      capacity_gained = gained;
      peak_rate = peak;
      min_rate_reached = least;
    }

abbrev pub new_metrics : ℕ → RateControllerMetrics
new_metrics rate = metrics_of 0 0 0 0 0 rate rate

-- "`capacity_lost`, `capacity_gained` .. stop at their largest value"
unfoldable pub gained_from : RateControllerMetrics → ℕ → ℕ → RateControllerMetrics
gained_from m old new =
    metrics_of (next m.increases) m.decreases_soft m.decreases_hard m.capacity_lost
    (up_to_u64 (m.capacity_gained + (new - old))) (max m.peak_rate new) m.min_rate_reached

unfoldable pub lost_from : RateControllerMetrics → ℕ → ℕ → RateControllerMetrics
lost_from m old new =
    metrics_of m.increases m.decreases_soft m.decreases_hard (up_to_u64 (m.capacity_lost + (old - new)))
    m.capacity_gained m.peak_rate (min m.min_rate_reached new)

unfoldable pub softened : RateControllerMetrics → RateControllerMetrics
softened m =
    metrics_of m.increases (next m.decreases_soft) m.decreases_hard m.capacity_lost
    m.capacity_gained m.peak_rate m.min_rate_reached

unfoldable pub hardened : RateControllerMetrics → RateControllerMetrics
hardened m =
    metrics_of m.increases m.decreases_soft (next m.decreases_hard) m.capacity_lost
    m.capacity_gained m.peak_rate m.min_rate_reached

unfoldable pub reached_by : RateControllerMetrics → ℕ → RateControllerMetrics
reached_by m rate =
    metrics_of m.increases m.decreases_soft m.decreases_hard m.capacity_lost m.capacity_gained
    (max m.peak_rate rate) (min m.min_rate_reached rate)

-- ---- the controller

-- what the settings say of the rate
abbrev pub params_of : CongestionConfig → RateParams
params_of c =
    record {
      min_rate = c.min_rate_bps;
      max_rate = c.max_rate_bps;
      ai_step = c.ai_step_bps;
      md_hard = c.md_factor_hard;
      md_soft = c.md_factor_soft;
    }

abbrev pub controller_of : ℕ → ℕ → RateControllerMetrics → RateController
controller_of rate time m = record { current_rate = rate; last_change = time; metrics = m }

-- a rate held to the range
abbrev pub held_rate : RateParams → ℕ → ℕ
held_rate p rate = min (max rate p.min_rate) p.max_rate

unfoldable pub with_params : RateParams → ℕ → ℕ → RateController
with_params p time rate = controller_of (held_rate p rate) time (new_metrics (held_rate p rate))

-- a controller, and whether its rate changed
abbrev pub Applied : Type 0
Applied = RateController × Bool

-- a rate equal to the old one is no change, and moves nothing
unfoldable pub changed_to : RateController → ℕ → ℕ → RateControllerMetrics → Applied
changed_to r time rate m =
    cond (eqb rate r.current_rate) (r, false) (controller_of rate time m, true)

abbrev pub increased : RateController → ℕ → ℕ → Applied
increased r time rate = changed_to r time rate (gained_from r.metrics r.current_rate rate)

abbrev pub decreased_soft : RateController → ℕ → ℕ → Applied
decreased_soft r time rate = changed_to r time rate (softened (lost_from r.metrics r.current_rate rate))

abbrev pub decreased_hard : RateController → ℕ → ℕ → Applied
decreased_hard r time rate = changed_to r time rate (hardened (lost_from r.metrics r.current_rate rate))

unfoldable pub applied : RateController → RateParams → ℕ → CongestionAction → Applied
applied r p time None = (r, false)
applied r p time Increase = increased r time (min (r.current_rate + p.ai_step) p.max_rate)
applied r p time DecreaseSoft = decreased_soft r time (decreased r.current_rate p.md_soft p.min_rate)
applied r p time DecreaseHard = decreased_hard r time (decreased r.current_rate p.md_hard p.min_rate)

unfoldable pub rate_set : RateController → RateParams → ℕ → ℕ → RateController
rate_set r p time rate = controller_of (held_rate p rate) time (reached_by r.metrics (held_rate p rate))
