-- The token bucket: credit, refill, and what each step leaves. Definitions only.
use Rattle.std.specs.Prelude.{ℕ, ◌+◌, ◌-◌, min, Bool, true, false, cond, ltb, leb, pos}
use Rattle.std.specs.Float.{binary64}
use Rattle.std.specs.Float.Ieee.{of_int, to_unsigned, mul, div}
use Rattle.numeric.specs.Duration.{seconds_of, nanos_of}
use Rattle.pacing.specs.declared.token_bucket.TokenBucket.{TokenBucket}

-- "Credit is the f64 of elapsed seconds times the rate, cut to an integer."
unfoldable pub credit : ℕ → ℕ → ℕ
credit nanos rate = to_unsigned 64 (mul binary64 (seconds_of nanos) (of_int binary64 (pos rate)))

-- the seconds that so many tokens take at the rate, as the nearest nanosecond
unfoldable pub wait_of : ℕ → ℕ → ℕ
wait_of bytes rate = nanos_of (div binary64 (of_int binary64 (pos bytes)) (of_int binary64 (pos rate)))

abbrev pub bucket_of : ℕ → ℕ → ℕ → ℕ → TokenBucket
bucket_of tokens capacity rate time =
    record { tokens = tokens; capacity = capacity; rate_bps = rate; last_refill = time }

-- a full bucket
abbrev pub made : ℕ → ℕ → ℕ → TokenBucket
made time rate capacity = bucket_of capacity capacity rate time

abbrev pub with_tokens : TokenBucket → ℕ → TokenBucket
with_tokens b n = bucket_of n b.capacity b.rate_bps b.last_refill

-- the credit of the time since the refill time; a clock that stands before it has earned nothing
abbrev pub earned : TokenBucket → ℕ → ℕ
earned b time = credit (time - b.last_refill) b.rate_bps

-- n tokens more, up to the capacity, and the refill time moved
abbrev pub credited : TokenBucket → ℕ → ℕ → TokenBucket
credited b time n = bucket_of (min (b.tokens + n) b.capacity) b.capacity b.rate_bps time

-- "Credit 0 leaves the refill time unmoved."
unfoldable pub refilled : TokenBucket → ℕ → TokenBucket
refilled b time = cond (ltb 0 (earned b time)) (credited b time (earned b time)) b

-- n tokens are taken where they are there, and none otherwise; and whether they were taken
abbrev pub taken_from : TokenBucket → ℕ → TokenBucket × Bool
taken_from b n = cond (leb n b.tokens) (with_tokens b (b.tokens - n), true) (b, false)

unfoldable pub tried : TokenBucket → ℕ → ℕ → TokenBucket × Bool
tried b time n = taken_from (refilled b time) n

-- "tokens falling to 0 if short"
unfoldable pub forced : TokenBucket → ℕ → ℕ → TokenBucket
forced b time n = with_tokens (refilled b time) ((refilled b time).tokens - n)

-- the old rate is settled first
unfoldable pub rated : TokenBucket → ℕ → ℕ → TokenBucket
rated b time rate =
    bucket_of (refilled b time).tokens (refilled b time).capacity rate (refilled b time).last_refill

unfoldable pub resized : TokenBucket → ℕ → TokenBucket
resized b n = bucket_of (min b.tokens n) n b.rate_bps b.last_refill

-- the bucket, and the wait for what is missing of n tokens
abbrev pub told_by : TokenBucket → ℕ → TokenBucket × ℕ
told_by b n = cond (leb n b.tokens) (b, 0) (b, wait_of (n - b.tokens) b.rate_bps)

unfoldable pub told : TokenBucket → ℕ → ℕ → TokenBucket × ℕ
told b time n = told_by (refilled b time) n
