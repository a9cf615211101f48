-- A count of accepted calls and a last time ("Domain": times at most 2^62, at most 2^40 accepted calls). Definitions only.
use Rattle.std.specs.Prelude.{ℕ, ◌^◌, List, [], ◌∷◌, ltb, leb}
use Rattle.numeric.specs.Integer.{next}
use Rattle.config.specs.Refusal.{Check, when}
use Rattle.config.specs.declared.ledger.Ledger.{Ledger}
use Rattle.config.specs.declared.refusal.Refusal.TheVariants.{RateBeyond, TimeBeyond, CallsUsedUp, TimeBack}

abbrev pub opened : ℕ → Ledger
opened time = record { calls = 0; last = time }

abbrev pub resumed : Ledger → ℕ → Ledger
resumed l calls = record { calls = calls; last = l.last }

abbrev pub counted : Ledger → Ledger
counted l = record { calls = next l.calls; last = l.last }

abbrev pub moved : Ledger → ℕ → Ledger
moved l time = record { calls = next l.calls; last = time }

-- 7: a time above 2^62
abbrev pub time_check : ℕ → Check
time_check time = when TimeBeyond (ltb (2 ^ 62) time)

-- 17: 2^40 calls were accepted
abbrev pub counted_checks : Ledger → List Check
counted_checks l = when CallsUsedUp (leb (2 ^ 40) l.calls) ∷ []

-- 7, 17, and 11: a time before the last accepted one
abbrev pub timed_checks : Ledger → ℕ → List Check
timed_checks l time = time_check time ∷ when TimeBack (ltb time l.last) ∷ counted_checks l

-- 6, 7, 17 and 11: "any rate given: at most 1,000,000,000 bytes per second"
abbrev pub rate_check : ℕ → Check
rate_check rate = when RateBeyond (ltb 1000000000 rate)

abbrev pub rate_checks : Ledger → ℕ → ℕ → List Check
rate_checks l time rate = rate_check rate ∷ timed_checks l time
