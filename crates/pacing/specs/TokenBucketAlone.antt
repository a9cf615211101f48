-- A bucket used alone: the reasons that may apply to each call, and what it answers and leaves
-- ("A bucket alone: rate at least 1, capacity and byte counts at most 1,000,000,000"). Definitions only.
use Rattle.std.specs.Prelude.{ℕ, Bool, ◌||◌, List, [], ◌∷◌, ltb, Result}
use Rattle.config.specs.Alone.{answered, made_or}
use Rattle.config.specs.Ledger.{counted, moved, time_check, counted_checks, timed_checks}
use Rattle.config.specs.Refusal.{Check, when, verdict_of}
use Rattle.config.specs.declared.alone.Alone.{Alone}
use Rattle.config.specs.declared.alone.Left.{Left}
use Rattle.config.specs.declared.ledger.Ledger.{Ledger}
use Rattle.config.specs.declared.refusal.Refusal.{Refusal}
use Rattle.config.specs.declared.refusal.Refusal.TheVariants.{RateBeyond}
use Rattle.pacing.specs.TokenBucket.{made, refilled, tried, forced, rated, resized, told}
use Rattle.pacing.specs.declared.token_bucket.TokenBucket.{TokenBucket}

-- a rate outside 1 to 1,000,000,000
abbrev pub rate_out : ℕ → Bool
rate_out rate = ltb rate 1 || ltb 1000000000 rate

-- a capacity or a byte count above 1,000,000,000
abbrev pub is_beyond : ℕ → Bool
is_beyond bytes = ltb 1000000000 bytes

-- 6 and 7
abbrev pub making_checks : ℕ → ℕ → ℕ → List Check
making_checks time rate capacity = when RateBeyond (rate_out rate || is_beyond capacity) ∷ time_check time ∷ []

-- 6, 7, 17 and 11
abbrev pub byte_checks : Ledger → ℕ → ℕ → List Check
byte_checks l time bytes = when RateBeyond (is_beyond bytes) ∷ timed_checks l time

abbrev pub rate_checks : Ledger → ℕ → ℕ → List Check
rate_checks l time rate = when RateBeyond (rate_out rate) ∷ timed_checks l time

-- 6 and 17: the call takes no time
abbrev pub capacity_checks : Ledger → ℕ → List Check
capacity_checks l capacity = when RateBeyond (is_beyond capacity) ∷ counted_checks l

unfoldable pub made_alone : ℕ → ℕ → ℕ → Result (Alone TokenBucket) Refusal
made_alone time rate capacity =
    made_or (verdict_of (making_checks time rate capacity)) time (made time rate capacity)

unfoldable pub refilled_alone : Alone TokenBucket → ℕ → Left (Alone TokenBucket) Unit
refilled_alone a time =
    answered a (verdict_of (timed_checks a.ledger time)) (moved a.ledger time) (refilled a.inner time, tt)

-- whether the tokens were taken
unfoldable pub tried_alone : Alone TokenBucket → ℕ → ℕ → Left (Alone TokenBucket) Bool
tried_alone a time bytes =
    answered a (verdict_of (byte_checks a.ledger time bytes)) (moved a.ledger time) (tried a.inner time bytes)

unfoldable pub forced_alone : Alone TokenBucket → ℕ → ℕ → Left (Alone TokenBucket) Unit
forced_alone a time bytes =
    answered a (verdict_of (byte_checks a.ledger time bytes)) (moved a.ledger time) (forced a.inner time bytes, tt)

unfoldable pub rated_alone : Alone TokenBucket → ℕ → ℕ → Left (Alone TokenBucket) Unit
rated_alone a time rate =
    answered a (verdict_of (rate_checks a.ledger time rate)) (moved a.ledger time) (rated a.inner time rate, tt)

unfoldable pub resized_alone : Alone TokenBucket → ℕ → Left (Alone TokenBucket) Unit
resized_alone a capacity =
    answered a (verdict_of (capacity_checks a.ledger capacity)) (counted a.ledger) (resized a.inner capacity, tt)

-- the nanoseconds to wait
unfoldable pub told_alone : Alone TokenBucket → ℕ → ℕ → Left (Alone TokenBucket) ℕ
told_alone a time bytes =
    answered a (verdict_of (byte_checks a.ledger time bytes)) (moved a.ledger time) (told a.inner time bytes)
