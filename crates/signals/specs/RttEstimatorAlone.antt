-- An estimator used alone: the numbers that may apply to each call, and what it answers and leaves
-- ("RTT samples 0 to 1,000,000 ms, 64 peers"). Definitions only.
use Rattle.std.specs.Prelude.{ℕ, Bool, not, ◌&&◌, List, [], ◌∷◌, Float, Result}
use Rattle.std.specs.Float.{binary32}
use Rattle.std.specs.Float.Ieee.{of_bits, le}
use Rattle.config.specs.Alone.{answered, made_or}
use Rattle.config.specs.Ledger.{moved, timed_checks}
use Rattle.config.specs.Refusal.{Check, when, verdict_of}
use Rattle.config.specs.declared.alone.Alone.{Alone}
use Rattle.config.specs.declared.alone.Left.{Left}
use Rattle.config.specs.declared.ledger.Ledger.{Ledger}
use Rattle.config.specs.declared.refusal.Refusal.{Refusal}
use Rattle.config.specs.declared.refusal.Refusal.TheVariants.{SampleBeyond}
use Rattle.signals.specs.RttEstimator.{new_estimator, updated}
use Rattle.signals.specs.declared.rtt_estimator.RttEstimator.{RttEstimator}

-- 0 and 1,000,000 as f32
abbrev pub least_sample : Float
least_sample = of_bits binary32 0

abbrev pub greatest_sample : Float
greatest_sample = of_bits binary32 0x4974_2400

-- not between the two; no NaN is
unfoldable pub sample_out : Float → Bool
sample_out x = not (le least_sample x && le x greatest_sample)

-- 4 alone, where there is no time
abbrev pub default_checks : Float → List Check
default_checks x = when SampleBeyond (sample_out x) ∷ []

-- 4, 7, 17 and 11
abbrev pub sample_checks : Ledger → ℕ → Float → List Check
sample_checks l time x = when SampleBeyond (sample_out x) ∷ timed_checks l time

unfoldable pub new_alone : Float → Result (Alone RttEstimator) Refusal
new_alone x = made_or (verdict_of (default_checks x)) 0 (new_estimator x)

unfoldable pub updated_alone : Alone RttEstimator → ℕ → Float → Left (Alone RttEstimator) Unit
updated_alone a time x =
    answered a (verdict_of (sample_checks a.ledger time x)) (moved a.ledger time) (updated a.inner time x, tt)
