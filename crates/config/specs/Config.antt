-- The settings: defaults, the seven checks of `validate`, and the limits of the domain. Definitions only.
use Rattle.std.specs.Prelude.{ℕ, Bool, true, false, not, cond, ◌&&◌, ◌||◌, List, [], ◌∷◌, ltb, leb, eqb, Float, Result, Ok, Err}
use Rattle.std.specs.Float.{binary32}
use Rattle.std.specs.Float.Ieee.{lt, le, of_bits}
use Rattle.numeric.specs.Float.{zero32, one32, finite}
use Rattle.config.specs.Ledger.{time_check}
use Rattle.config.specs.Refusal.{Check, when}
use Rattle.config.specs.declared.config.CongestionConfig.{CongestionConfig}
use Rattle.config.specs.declared.config.EcnMode.{EcnMode}
use Rattle.config.specs.declared.config.EcnMode.TheVariants.{Off}
use Rattle.config.specs.declared.config.InvalidSetting.{InvalidSetting}
use Rattle.config.specs.declared.config.InvalidSetting.TheVariants.{Rates, HardFactor, SoftFactor, ScoreDecay, Thresholds, P0MinShare, RepairBudgetRatio}
use Rattle.config.specs.declared.config.Priority.{Priority}
use Rattle.config.specs.declared.config.Priority.TheVariants.{P0, P1, P2}
use Rattle.config.specs.declared.refusal.Refusal.{Refusal}
use Rattle.config.specs.declared.refusal.Refusal.TheVariants.{SettingsInvalid, SettingsBeyond, KindUnknown}

-- "class (0 P0 .., 1 P1 .., 2 P2 ..)"
abbrev pub class_number : Priority → ℕ
class_number P0 = 0
class_number P1 = 1
class_number P2 = 2

-- the class of a digit; "5 unknown kind": from 3 on none
abbrev pub class_of : ℕ → Result Priority Refusal
class_of n = cond (eqb n 0) (Ok P0) (cond (eqb n 1) (Ok P1) (cond (eqb n 2) (Ok P2) (Err KindUnknown)))

-- the Rust's `CongestionConfig::default()`; the floats are 0.5, 0.8, 0.90, 0.3 and 0.2 as f32
abbrev pub defaults : CongestionConfig
defaults =
    record {
      enabled = true;
      min_rate_bps = 10000;
      max_rate_bps = 100000000;
      ai_step_bps = 50000;
      md_factor_hard = of_bits binary32 0x3f00_0000;
      md_factor_soft = of_bits binary32 0x3f4c_cccd;
      stable_window_ms = 1000;
      cooldown_ms = 300;
      score_tick_ms = 100;
      score_decay = of_bits binary32 0x3f66_6666;
      decrease_threshold = 60;
      increase_threshold = 20;
      hysteresis_band = 10;
      eagain_is_hard = true;
      eagain_impulse = 60;
      rtt_impulse = 20;
      nack_rate_threshold = 10;
      nack_impulse = 20;
      repair_budget_ratio = of_bits binary32 0x3e99_999a;
      max_queue_p0 = 100;
      max_queue_p1 = 500;
      max_queue_p2 = 100;
      p0_min_share = of_bits binary32 0x3e4c_cccd;
      p0_min_bps = 10000;
      ecn_mode = Off;
    }

-- settings with another `enabled`, other queue limits and another ECN mode
abbrev pub settings_with : CongestionConfig → Bool → ℕ → ℕ → ℕ → EcnMode → CongestionConfig
settings_with c enabled p0 p1 p2 mode =
    record c { enabled = enabled; max_queue_p0 = p0; max_queue_p1 = p1; max_queue_p2 = p2; ecn_mode = mode }

-- the Rust's `CongestionConfig::disabled()`
abbrev pub without_control : CongestionConfig
without_control =
    settings_with defaults false defaults.max_queue_p0 defaults.max_queue_p1 defaults.max_queue_p2 defaults.ecn_mode

-- outside (0, 1], (0, 1) and [0, 1]; every test is false at a NaN, which so passes
unfoldable pub not_in_open_closed : Float → Bool
not_in_open_closed x = le x zero32 || lt one32 x

unfoldable pub not_in_open : Float → Bool
not_in_open x = le x zero32 || le one32 x

unfoldable pub not_in_closed : Float → Bool
not_in_closed x = lt x zero32 || lt one32 x

-- "a factor outside (0, 1], or NaN, is 2"
unfoldable pub factor_out : Float → Bool
factor_out x = not (lt zero32 x && le x one32)

-- the number of a check of `validate`, from 1
abbrev pub setting_number : InvalidSetting → ℕ
setting_number Rates = 1
setting_number HardFactor = 2
setting_number SoftFactor = 3
setting_number ScoreDecay = 4
setting_number Thresholds = 5
setting_number P0MinShare = 6
setting_number RepairBudgetRatio = 7

-- one check of them
abbrev pub fails_by : InvalidSetting → Bool → Result Unit InvalidSetting
fails_by x b = cond b (Err x) (Ok tt)

-- which of the seven checks of `validate` fails first
unfoldable pub failed_check : CongestionConfig → Result Unit InvalidSetting
failed_check c =
    cond (ltb c.max_rate_bps c.min_rate_bps) (Err Rates)
    (cond (not_in_open_closed c.md_factor_hard) (Err HardFactor)
    (cond (not_in_open_closed c.md_factor_soft) (Err SoftFactor)
    (cond (not_in_open c.score_decay) (Err ScoreDecay)
    (cond (leb c.decrease_threshold c.increase_threshold) (Err Thresholds)
    (cond (not_in_closed c.p0_min_share) (Err P0MinShare)
    (cond (not_in_closed c.repair_budget_ratio) (Err RepairBudgetRatio) (Ok tt)))))))

-- "Every rate in the settings, `p0_min_bps` ..: at most 1,000,000,000 bytes per second; `min_rate_bps` .. at least 1"
unfoldable pub rates_beyond : CongestionConfig → Bool
rates_beyond c =
    ltb c.min_rate_bps 1
    || (ltb 1000000000 c.min_rate_bps
    || (ltb 1000000000 c.max_rate_bps || (ltb 1000000000 c.ai_step_bps || ltb 1000000000 c.p0_min_bps)))

-- "All floats in the settings finite"
unfoldable pub floats_beyond : CongestionConfig → Bool
floats_beyond c =
    not (finite c.md_factor_hard)
    || (not (finite c.md_factor_soft)
    || (not (finite c.score_decay)
    || (not (finite c.repair_budget_ratio) || not (finite c.p0_min_share))))

unfoldable pub limit_beyond : ℕ → ℕ → Bool
limit_beyond limit most = ltb limit 1 || ltb most limit

-- "Queue limits: P0 1 to 128, P1 1 to 512, P2 1 to 128"
unfoldable pub queues_beyond : CongestionConfig → Bool
queues_beyond c =
    limit_beyond c.max_queue_p0 128 || (limit_beyond c.max_queue_p1 512 || limit_beyond c.max_queue_p2 128)

-- a check failed
abbrev pub is_invalid : Result Unit InvalidSetting → Bool
is_invalid (Ok u) = false
is_invalid (Err e) = true

-- 1: `validate` refuses; 2: settings beyond the domain
abbrev pub settings_checks : CongestionConfig → List Check
settings_checks c =
    when SettingsInvalid (is_invalid (failed_check c))
    ∷ when SettingsBeyond (rates_beyond c || (floats_beyond c || queues_beyond c))
    ∷ []

-- 1, 2 and 7
abbrev pub making_checks : CongestionConfig → ℕ → List Check
making_checks c time = time_check time ∷ settings_checks c
