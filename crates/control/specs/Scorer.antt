-- The congestion score (document 01, scorer.rs): "Score is score times decay plus impulse, clamped to 0..100". Definitions only.
use Rattle.std.specs.Prelude.{ℕ, ◌+◌, ◌-◌, ◌*◌, Bool, true, false, cond, ◌&&◌, ltb, leb, Float, pos, Option, None, Some}
use Rattle.std.specs.Float.{binary32}
use Rattle.std.specs.Float.Ieee.{of_int, of_bits, add, mul, lt, le}
use Rattle.config.specs.declared.config.CongestionConfig.{CongestionConfig}
use Rattle.numeric.specs.Float.{zero32, clamp_of}
use Rattle.numeric.specs.Integer.{up_to_u64, next, next_u32}
use Rattle.control.specs.declared.scorer.CongestionAction.{CongestionAction}
use Rattle.control.specs.declared.scorer.CongestionAction.TheVariants.{None as NoAction, Increase, DecreaseSoft, DecreaseHard}
use Rattle.control.specs.declared.scorer.CongestionScorer.{CongestionScorer}
use Rattle.control.specs.declared.scorer.PendingSignals.{PendingSignals}
use Rattle.control.specs.declared.scorer.Phase.{Phase}
use Rattle.control.specs.declared.scorer.ScorerConfig.{ScorerConfig}
use Rattle.control.specs.declared.scorer.ScorerMetrics.{ScorerMetrics}
use Rattle.control.specs.declared.scorer.ScorerState.{ScorerState}
use Rattle.control.specs.declared.scorer.ScorerState.TheVariants.{Stable, Congested}
use Rattle.control.specs.declared.scorer.SignalCounts.{SignalCounts}

abbrev pub state_number : ScorerState → ℕ
state_number Stable = 0
state_number Congested = 1

abbrev pub action_number : CongestionAction → ℕ
action_number NoAction = 0
action_number Increase = 1
action_number DecreaseSoft = 2
action_number DecreaseHard = 3

-- a number as f32, the nearest
abbrev as_float : ℕ → Float
as_float n = of_int binary32 (pos n)

-- what the settings say of the score; milliseconds become nanoseconds
abbrev pub scorer_config_of : CongestionConfig → ScorerConfig
scorer_config_of c =
    record {
      tick_interval = c.score_tick_ms * 1000000;
      decay = c.score_decay;
      decrease_threshold = as_float c.decrease_threshold;
      increase_threshold = as_float c.increase_threshold;
      hysteresis = as_float c.hysteresis_band;
      cooldown = c.cooldown_ms * 1000000;
      stable_window = c.stable_window_ms * 1000000;
      eagain_impulse = as_float c.eagain_impulse;
      rtt_impulse = as_float c.rtt_impulse;
      nack_impulse = as_float c.nack_impulse;
      nack_threshold = c.nack_rate_threshold;
      eagain_is_hard = c.eagain_is_hard;
    }

-- ---- pending signals

abbrev pub pending_of : ℕ → Bool → ℕ → ℕ → PendingSignals
pending_of eagain inflated nack loss =
    record { eagain_count = eagain; rtt_inflated = inflated; nack_count = nack; loss_count = loss }

abbrev pub no_pending : PendingSignals
no_pending = pending_of 0 false 0 0

unfoldable pub added_if : Bool → Float → Float → Float
added_if counts sum term = cond counts (add binary32 sum term) sum

-- losses add 5 each, and at most 30 together
abbrev pub loss_sum : Float → Float
loss_sum x = cond (lt x (of_bits binary32 0x41f0_0000)) x (of_bits binary32 0x41f0_0000)

unfoldable pub loss_impulse : ℕ → Float
loss_impulse n = loss_sum (mul binary32 (as_float n) (of_bits binary32 0x40a0_0000))

-- EAGAIN, inflated round-trip times and NACKs each add their impulse once; "the impulse needs a count above the threshold" of NACKs
unfoldable pub impulse_of : ScorerConfig → PendingSignals → Float
impulse_of c p =
    added_if (ltb 0 p.loss_count)
    (added_if (ltb c.nack_threshold p.nack_count)
    (added_if p.rtt_inflated
    (added_if (ltb 0 p.eagain_count) zero32 c.eagain_impulse)
    c.rtt_impulse)
    c.nack_impulse)
    (loss_impulse p.loss_count)

-- ---- what is counted

abbrev pub signals_of : ℕ → ℕ → ℕ → SignalCounts
signals_of eagain rtt nack = record { eagain_signals = eagain; rtt_signals = rtt; nack_signals = nack }

abbrev pub no_signals : SignalCounts
no_signals = signals_of 0 0 0

abbrev pub metrics_of : ℕ → ℕ → ℕ → Float → ℕ → ScorerMetrics
metrics_of ticks congestions recoveries peak congested =
    record {
      ticks = ticks;
      congestion_events = congestions;
      recovery_events = recoveries;
      peak_score = peak;
      congested_duration = congested;
    }

abbrev pub no_scorer_metrics : ScorerMetrics
no_scorer_metrics = metrics_of 0 0 0 zero32 0

-- the greater of the peak and a score
abbrev pub peak_of : Float → Float → Float
peak_of peak score = cond (lt peak score) score peak

unfoldable pub tick_measured : ScorerMetrics → Float → ScorerMetrics
tick_measured m score =
    metrics_of (next m.ticks) m.congestion_events m.recovery_events (peak_of m.peak_score score)
    m.congested_duration

unfoldable pub congestion_measured : ScorerMetrics → ScorerMetrics
congestion_measured m =
    metrics_of m.ticks (next m.congestion_events) m.recovery_events m.peak_score m.congested_duration

unfoldable pub recovery_measured : ScorerMetrics → ScorerMetrics
recovery_measured m =
    metrics_of m.ticks m.congestion_events (next m.recovery_events) m.peak_score m.congested_duration

unfoldable pub congested_for : ScorerMetrics → ℕ → ScorerMetrics
congested_for m interval =
    metrics_of m.ticks m.congestion_events m.recovery_events m.peak_score
    (up_to_u64 (m.congested_duration + interval))

-- ---- the scorer

abbrev pub phase_of : ScorerState → Option ℕ → Option ℕ → Phase
phase_of state until since = record { state = state; cooldown_until = until; stable_since = since }

abbrev pub scorer_of : Float → ℕ → Phase → PendingSignals → SignalCounts → ScorerMetrics → CongestionScorer
scorer_of score tick phase pending signals metrics =
    record {
      score = score;
      last_tick = tick;
      phase = phase;
      pending = pending;
      signals = signals;
      metrics = metrics;
    }

abbrev pub new_scorer : ℕ → CongestionScorer
new_scorer time = scorer_of zero32 time (phase_of Stable None (Some time)) no_pending no_signals no_scorer_metrics

-- a signal joins what is pending, and is counted
abbrev pub signalled : CongestionScorer → PendingSignals → SignalCounts → CongestionScorer
signalled s pending signals = scorer_of s.score s.last_tick s.phase pending signals s.metrics

abbrev pub eagain_in : PendingSignals → PendingSignals
eagain_in p = pending_of (next_u32 p.eagain_count) p.rtt_inflated p.nack_count p.loss_count

abbrev pub inflated_in : PendingSignals → PendingSignals
inflated_in p = pending_of p.eagain_count true p.nack_count p.loss_count

abbrev pub nack_in : PendingSignals → PendingSignals
nack_in p = pending_of p.eagain_count p.rtt_inflated (next_u32 p.nack_count) p.loss_count

abbrev pub loss_in : PendingSignals → PendingSignals
loss_in p = pending_of p.eagain_count p.rtt_inflated p.nack_count (next_u32 p.loss_count)

unfoldable pub on_eagain : CongestionScorer → CongestionScorer
on_eagain s =
    signalled s (eagain_in s.pending)
    (signals_of (next s.signals.eagain_signals) s.signals.rtt_signals s.signals.nack_signals)

unfoldable pub on_rtt_inflated : CongestionScorer → CongestionScorer
on_rtt_inflated s =
    signalled s (inflated_in s.pending)
    (signals_of s.signals.eagain_signals (next s.signals.rtt_signals) s.signals.nack_signals)

unfoldable pub on_nack : CongestionScorer → CongestionScorer
on_nack s =
    signalled s (nack_in s.pending)
    (signals_of s.signals.eagain_signals s.signals.rtt_signals (next s.signals.nack_signals))

-- "`loss_count` moves as in the Rust": losses pend, and are counted nowhere else
unfoldable pub on_loss : CongestionScorer → CongestionScorer
on_loss s = signalled s (loss_in s.pending) s.signals

-- ---- a tick

-- before the end of the cooldown
abbrev pub before_end : Option ℕ → ℕ → Bool
before_end None time = false
before_end (Some end) time = ltb time end

unfoldable pub in_cooldown : Phase → ℕ → Bool
in_cooldown p time = before_end p.cooldown_until time

-- stable for a whole window
abbrev pub for_window : Option ℕ → ℕ → ℕ → Bool
for_window None window time = false
for_window (Some start) window time = leb window (time - start)

unfoldable pub can_increase : Phase → ℕ → ℕ → Bool
can_increase p window time = for_window p.stable_since window time

-- a scorer after a tick, and what it asks for
abbrev pub Ticked : Type 0
Ticked = CongestionScorer × CongestionAction

abbrev pub ticked_as : CongestionAction → CongestionScorer → Ticked
ticked_as action s = (s, action)

-- another phase and its metrics
abbrev pub in_phase : CongestionScorer → Phase → ScorerMetrics → CongestionScorer
in_phase s phase metrics = scorer_of s.score s.last_tick phase s.pending s.signals metrics

-- congestion begins, and with it a cooldown; the decrease is hard after an EAGAIN, where the settings say so
abbrev pub congested_phase : ScorerConfig → ℕ → Phase
congested_phase c time = phase_of Congested (Some (up_to_u64 (time + c.cooldown))) None

abbrev pub decrease_for : Bool → CongestionAction
decrease_for hard = cond hard DecreaseHard DecreaseSoft

unfoldable pub congested_at : CongestionScorer → ScorerConfig → ℕ → Bool → Ticked
congested_at s c time had-eagain =
    ticked_as (decrease_for (c.eagain_is_hard && had-eagain)) (in_phase s (congested_phase c time) (congestion_measured s.metrics))

-- a score at the threshold is congestion; else, out of cooldown and after a stable window, the rate may grow
unfoldable pub evaluated_stable : CongestionScorer → ScorerConfig → ℕ → Bool → Ticked
evaluated_stable s c time had-eagain =
    cond (le c.decrease_threshold s.score) (congested_at s c time had-eagain)
    (cond (in_cooldown s.phase time) (ticked_as NoAction s)
    (cond (can_increase s.phase c.stable_window time) (ticked_as Increase s) (ticked_as NoAction s)))

-- out of cooldown, a score no more than the increase threshold and the hysteresis band is recovery
abbrev pub recovered : CongestionScorer → ℕ → ScorerMetrics → CongestionScorer
recovered s time m = in_phase s (phase_of Stable s.phase.cooldown_until (Some time)) (recovery_measured m)

abbrev pub still_congested : CongestionScorer → ScorerMetrics → CongestionScorer
still_congested s m = in_phase s s.phase m

unfoldable pub evaluated_congested : CongestionScorer → ScorerConfig → ℕ → Ticked
evaluated_congested s c time =
    cond (in_cooldown s.phase time) (ticked_as NoAction (still_congested s (congested_for s.metrics c.tick_interval)))
    (cond (le s.score (add binary32 c.increase_threshold c.hysteresis))
    (ticked_as NoAction (recovered s time (congested_for s.metrics c.tick_interval)))
    (ticked_as NoAction (still_congested s (congested_for s.metrics c.tick_interval))))

abbrev pub by_state : ScorerState → CongestionScorer → ScorerConfig → ℕ → Bool → Ticked
by_state Stable s c time had-eagain = evaluated_stable s c time had-eagain
by_state Congested s c time had-eagain = evaluated_congested s c time

unfoldable pub evaluated : CongestionScorer → ScorerConfig → ℕ → Bool → Ticked
evaluated s c time had-eagain = by_state s.phase.state s c time had-eagain

-- "score times decay plus impulse, clamped to 0..100"
abbrev pub score_of : Float → Float → Float → Float
score_of score decay impulse =
    clamp_of (add binary32 (mul binary32 score decay) impulse) zero32 (of_bits binary32 0x42c8_0000)

abbrev pub scored : CongestionScorer → ℕ → Float → CongestionScorer
scored s time score = scorer_of score time s.phase no_pending s.signals (tick_measured s.metrics score)

unfoldable pub ticked : CongestionScorer → ScorerConfig → ℕ → Ticked
ticked s c time =
    evaluated (scored s time (score_of s.score c.decay (impulse_of c s.pending))) c time
    (ltb 0 s.pending.eagain_count)
