-- A rate controller used alone: the reasons that may apply to each call, and what it leaves and answers. Definitions only.
use Rattle.std.specs.Prelude.{ℕ, Bool, ◌||◌, List, [], ◌∷◌, ltb, Result}
use Rattle.config.specs.Alone.{answered, made_or}
use Rattle.config.specs.Config.{factor_out}
use Rattle.config.specs.Ledger.{moved, time_check, timed_checks, rate_checks}
use Rattle.config.specs.Refusal.{Check, when, verdict_of}
use Rattle.config.specs.declared.alone.Alone.{Alone}
use Rattle.config.specs.declared.alone.Left.{Left}
use Rattle.config.specs.declared.refusal.Refusal.{Refusal}
use Rattle.config.specs.declared.refusal.Refusal.TheVariants.{SettingsBeyond, RateBeyond}
use Rattle.control.specs.RateController.{Applied, with_params, applied, rate_set}
use Rattle.control.specs.declared.rate_controller.RateController.{RateController}
use Rattle.control.specs.declared.rate_controller.RateParams.{RateParams}
use Rattle.control.specs.declared.rate_controller_alone.ConfiguredController.{ConfiguredController}
use Rattle.control.specs.declared.scorer.CongestionAction.{CongestionAction}

-- "any rate given: at most 1,000,000,000 bytes per second; `min_rate_bps` .. at least 1", and the least rate no more than the largest
unfoldable pub rates_out : RateParams → ℕ → Bool
rates_out p initial =
    ltb p.min_rate 1
    || (ltb p.max_rate p.min_rate
    || (ltb 1000000000 p.max_rate || (ltb 1000000000 p.ai_step || ltb 1000000000 initial)))

-- 2, 6 and 7
abbrev pub making_checks : RateParams → ℕ → ℕ → List Check
making_checks p time initial =
    when SettingsBeyond (factor_out p.md_hard || factor_out p.md_soft)
    ∷ when RateBeyond (rates_out p initial)
    ∷ time_check time
    ∷ []

abbrev pub configured : RateParams → RateController → ConfiguredController
configured p r = record { params = p; controller = r }

unfoldable pub made_alone : RateParams → ℕ → ℕ → Result (Alone ConfiguredController) Refusal
made_alone p time initial =
    made_or (verdict_of (making_checks p time initial)) time (configured p (with_params p time initial))

-- what the controller after a change is, beside its parameters, and whether the rate changed
abbrev pub changed_in : RateParams → Applied → ConfiguredController × Bool
changed_in p x = (configured p x.0, x.1)

-- 7, 17 and 11
unfoldable pub applied_alone : Alone ConfiguredController → ℕ → CongestionAction → Left (Alone ConfiguredController) Bool
applied_alone a time action =
    answered a (verdict_of (timed_checks a.ledger time)) (moved a.ledger time)
    (changed_in a.inner.params (applied a.inner.controller a.inner.params time action))

-- 6, 7, 17 and 11
unfoldable pub rated_alone : Alone ConfiguredController → ℕ → ℕ → Left (Alone ConfiguredController) Unit
rated_alone a time rate =
    answered a (verdict_of (rate_checks a.ledger time rate)) (moved a.ledger time)
    (configured a.inner.params (rate_set a.inner.controller a.inner.params time rate), tt)
