-- A pacer used alone: the reasons that may apply to each call, and what it answers and leaves
-- ("a pacer or queue alone needs its own slots"). Definitions only.
use Rattle.std.specs.Prelude.{ℕ, Bool, not, List, [], ◌∷◌, ltb, length, Result, Ok, Err}
use Rattle.config.specs.Alone.{answered, made_or}
use Rattle.config.specs.Config.{settings_checks}
use Rattle.config.specs.Ledger.{moved, time_check, timed_checks, rate_checks}
use Rattle.config.specs.Refusal.{Check, when, verdict_of}
use Rattle.config.specs.declared.alone.Alone.{Alone}
use Rattle.config.specs.declared.alone.Left.{Left}
use Rattle.config.specs.declared.config.CongestionConfig.{CongestionConfig}
use Rattle.config.specs.declared.config.Priority.{Priority}
use Rattle.config.specs.declared.ledger.Ledger.{Ledger}
use Rattle.config.specs.declared.refusal.Refusal.{Refusal}
use Rattle.config.specs.declared.refusal.Refusal.TheVariants.{RecordTooLong, RateBeyond, BufferTooShort, Disabled}
use Rattle.queue.specs.Coalescing.{keyless_of}
use Rattle.queue.specs.Pool.{Limits, is_short, limits_of, slots_of}
use Rattle.queue.specs.declared.entry.InstanceKey.{InstanceKey}
use Rattle.queue.specs.declared.fate.Fate.{Fate}
use Rattle.queue.specs.declared.fate.Kept.{Kept}
use Rattle.pacing.specs.TokenBucketAlone.{rate_out}
use Rattle.pacing.specs.WriterPacer.{Pacer, pacer_config_of, made, handed_in, hand_in_stored, sent_if, rate_set}
use Rattle.pacing.specs.declared.send_action.SendAction.{SendAction}
use Rattle.pacing.specs.declared.writer_pacer.PacerConfig.{PacerConfig}
use Rattle.pacing.specs.declared.writer_pacer_alone.ConfiguredPacer.{ConfiguredPacer}

-- the key of the topic "default", under which the Rust's `enqueue` puts a P2 record
abbrev pub default_key : InstanceKey
default_key = keyless_of (100 ∷ 101 ∷ 102 ∷ 97 ∷ 117 ∷ 108 ∷ 116 ∷ [])

-- ---- numbers

-- 1, 2, 6 and 7
abbrev pub making_checks : CongestionConfig → ℕ → ℕ → List Check
making_checks c time rate = when RateBeyond (rate_out rate) ∷ time_check time ∷ settings_checks c

-- 7, 8, 17 and 11; the pool must have so many slots
abbrev pub send_checks : Ledger → ℕ → ℕ → ℕ → List Check
send_checks l slots bytes time = when BufferTooShort (is_short bytes slots) ∷ timed_checks l time

-- 3, 7, 8, 17, 11 and 13, for a record of n bytes; 12 is found by the step
abbrev pub hand_in_checks : Ledger → Bool → ℕ → ℕ → ℕ → ℕ → List Check
hand_in_checks l enabled slots bytes time n =
    when RecordTooLong (ltb 1472 n) ∷ when Disabled (not enabled) ∷ send_checks l slots bytes time

-- ---- the public calls

abbrev pub configured : PacerConfig → Pacer → ConfiguredPacer
configured c p = record { config = c; pacer = p }

unfoldable pub made_alone : ℕ → CongestionConfig → ℕ → Result (Alone ConfiguredPacer) Refusal
made_alone time c rate =
    made_or (verdict_of (making_checks c time rate)) time (configured (pacer_config_of c) (made time (limits_of c) rate))

-- what a call at a time leaves and answers; r is what the step leaves of the pacer and gives
abbrev pub answered_by :
    {T : Type 0} → Alone ConfiguredPacer → Result Unit Refusal → ℕ → Pacer × T → Left (Alone ConfiguredPacer) T
answered_by a verdict time r = answered a verdict (moved a.ledger time) (configured a.inner.config r.0, r.1)

abbrev pub hand_in_verdict : Alone ConfiguredPacer → ℕ → ℕ → ℕ → Result Unit Refusal
hand_in_verdict a bytes time n =
    verdict_of (hand_in_checks a.ledger a.inner.config.enabled (slots_of a.inner.config.limits) bytes time n)

abbrev pub with_fate : Pacer × Kept → Pacer × Fate
with_fate x = (x.0, x.1.fate)

-- a hand-in of n bytes, with a pool of so many bytes; "12 .. counts as an accepted call, moving the last time, and uses up a sequence number"
unfoldable pub handed_alone : Alone ConfiguredPacer → ℕ → ℕ → Priority → InstanceKey → ℕ → Left (Alone ConfiguredPacer) Fate
handed_alone a bytes time c key n =
    answered_by a (hand_in_verdict a bytes time n) time (with_fate (handed_in a.inner.pacer c key n))

abbrev pub pool_handed_by :
    Result Unit Refusal → Pacer → Limits → Priority → InstanceKey → List ℕ → List ℕ → List ℕ
pool_handed_by (Err e) p m c key bytes pool = pool
pool_handed_by (Ok u) p m c key bytes pool = hand_in_stored pool m 0 c (handed_in p c key (length bytes)).1 bytes

unfoldable pub pool_handed : Alone ConfiguredPacer → List ℕ → ℕ → Priority → InstanceKey → List ℕ → List ℕ
pool_handed a pool time c key bytes =
    pool_handed_by (hand_in_verdict a (length pool) time (length bytes)) a.inner.pacer a.inner.config.limits c key bytes pool

abbrev pub send_verdict : Alone ConfiguredPacer → ℕ → ℕ → Result Unit Refusal
send_verdict a bytes time = verdict_of (send_checks a.ledger (slots_of a.inner.config.limits) bytes time)

-- a send attempt, with a pool of so many bytes
unfoldable pub sent_alone : Alone ConfiguredPacer → ℕ → ℕ → Left (Alone ConfiguredPacer) SendAction
sent_alone a bytes time =
    answered_by a (send_verdict a bytes time) time (sent_if a.inner.config.enabled a.inner.pacer time)

unfoldable pub rated_alone : Alone ConfiguredPacer → ℕ → ℕ → Left (Alone ConfiguredPacer) Unit
rated_alone a time rate =
    answered_by a (verdict_of (rate_checks a.ledger time rate)) time (rate_set a.inner.pacer a.inner.config time rate, tt)
