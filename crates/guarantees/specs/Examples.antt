-- The settled examples, as one table of inputs and results. Definitions only.
-- A row joins by a line in `table`; a new kind of input by a constructor of `Input` and its clause in `outcome`.
use Rattle.std.specs.Prelude.{ℕ, Bool, true, false, List, [], ◌∷◌, ◌++◌, ◌≡◌, Float, pos, negsuc, replicate}
use Rattle.std.specs.Float.{fin, binary32}
use Rattle.std.specs.Float.Ieee.{of_int, of_bits, to_bits}
use Rattle.std.specs.Result.{result_unwrap_or}
use Rattle.config.specs.Alone.{begun}
use Rattle.config.specs.Config.{defaults}
use Rattle.config.specs.PerClass.{per_class}
use Rattle.config.specs.Refusal.{accepted, none_number, result_number}
use Rattle.config.specs.declared.alone.Alone.{Alone}
use Rattle.config.specs.declared.alone.Left.{Left as CallLeft}
use Rattle.config.specs.declared.config.Priority.{Priority}
use Rattle.config.specs.declared.config.Priority.TheVariants.{P0, P1, P2}
use Rattle.control.specs.BudgetAllocator.{allocation_config_of}
use Rattle.control.specs.ControllerAlone.{made_of, eagain_alone, sampled_alone, ticked_alone}
use Rattle.control.specs.RateController.{params_of}
use Rattle.control.specs.Scorer.{scorer_config_of}
use Rattle.control.specs.declared.controller.ControllerConfig.{ControllerConfig}
use Rattle.control.specs.declared.controller.ControllerCore.{ControllerCore}
use Rattle.control.specs.declared.controller_alone.ConfiguredCongestion.{ConfiguredCongestion}
use Rattle.control.specs.declared.rate_controller.RateParams.{RateParams}
use Rattle.queue.specs.Coalescing.{fnv1a}
use Rattle.queue.specs.Fates.{fate_number}
use Rattle.queue.specs.Pool.{Limits, bytes_of, slots_of}
use Rattle.queue.specs.declared.entry.InstanceKey.{InstanceKey}
use Rattle.pacing.specs.TokenBucket.{made, refilled, tried, told}
use Rattle.pacing.specs.WriterPacer as pacing
use Rattle.pacing.specs.WriterPacerAlone.{configured, handed_alone, sent_alone}
use Rattle.pacing.specs.declared.token_bucket.TokenBucket.{TokenBucket}
use Rattle.pacing.specs.declared.send_action.SendAction.{SendAction}
use Rattle.pacing.specs.declared.send_action.SendAction.TheVariants.{Empty}
use Rattle.pacing.specs.declared.writer_pacer_alone.ConfiguredPacer.{ConfiguredPacer}
use Rattle.signals.specs.Ecn.{codepoint_of, new_processor, processed_tos}
use Rattle.signals.specs.RttEstimator.{new_estimator, updated, rto_of}
use Rattle.signals.specs.declared.ecn.EcnCodepoint.{EcnCodepoint}
use Rattle.signals.specs.declared.ecn.EcnCodepoint.TheVariants.{NotEct, Ect0}
use Rattle.signals.specs.declared.ecn.EcnProcessor.{EcnProcessor}
use Rattle.signals.specs.declared.rtt_estimator.RttEstimator.{RttEstimator}

-- ---- what a row gives and what it gets

-- a call on a bucket, at a time
pub data Step : Type 0 where
  take wait : ℕ → ℕ → Step
  refill : ℕ → Step

-- a call on a pacer, at time 0: a record of a class under a key (P2's) and of a length, or a send attempt
pub data Act : Type 0 where
  hand : Priority → ℕ → ℕ → Act
  send : Act

-- a call on a controller: an EAGAIN, a sample of peer 1 in milliseconds at a time, or a tick at a time
pub data Turn : Type 0 where
  eagain : Turn
  sample : ℕ → Float → Turn
  tick : ℕ → Turn

pub data Input : Type 0 where
  -- a rate, as the nearest f32
  rate : ℕ → Input
  -- samples of one peer, in milliseconds, to an estimator whose default is 100
  samples : List Float → Input
  -- TOS bytes of received packets
  packets : List ℕ → Input
  -- a TOS byte
  tos : ℕ → Input
  -- bytes to hash
  bytes : List ℕ → Input
  -- a bucket's rate and capacity, made at time 0, and steps on it
  bucket : ℕ → ℕ → List Step → Input
  -- a pacer's queue limits and rate, made at time 0, and calls on it
  pacer : ℕ → ℕ → ℕ → ℕ → List Act → Input
  -- a controller with the default settings but for those of the rate, made at time 0, and calls on it
  controller : RateParams → List Turn → Input

-- what a step on a bucket answers, and the tokens that it leaves
pub data Left : Type 0 where
  taken : Bool → ℕ → Left
  waits : ℕ → ℕ → Left
  refilled_to : ℕ → Left

-- what a call on a pacer answers: a hand-in its number, a send attempt what it comes to
pub data Answer : Type 0 where
  answered : ℕ → Answer
  -- its number, and class, sequence and length of a sent record, the nanoseconds of a wait, or nothing
  came : ℕ → List ℕ → Answer

-- what a call on a controller answers: its number; of a tick also whether the rate changed, the score's bits, how many soft and hard decreases there were, and the rate
pub data Turned : Type 0 where
  noted : ℕ → Turned
  ticked : ℕ → Bool → ℕ → ℕ → ℕ → ℕ → Turned

pub data Result : Type 0 where
  float : Float → Result
  -- average, variance and retransmission timeout
  round_trip : Float → Float → Float → Result
  -- whether the last packet signals congestion
  signals : Bool → Result
  codepoint : EcnCodepoint → Result
  hash : ℕ → Result
  steps : List Left → Result
  acts : List Answer → Result
  turns : List Turned → Result

-- ---- what the definitions give

abbrev sampled : RttEstimator → List Float → RttEstimator
sampled e [] = e
sampled e (x ∷ rest) = sampled (updated e 0 x) rest

abbrev shown : RttEstimator → Result
shown e = round_trip e.rtt_ms e.rtt_var_ms (rto_of e)

abbrev received : EcnProcessor × Bool → List ℕ → Bool
received p [] = p.1
received p (x ∷ rest) = received (processed_tos p.0 x) rest

-- the bucket after a step, and what the step leaves to see
abbrev stepped : TokenBucket → Step → TokenBucket
stepped b (take time n) = (tried b time n).0
stepped b (wait time n) = (told b time n).0
stepped b (refill time) = refilled b time

abbrev seen : TokenBucket → Step → Left
seen b (take time n) = taken (tried b time n).1 (tried b time n).0.tokens
seen b (wait time n) = waits (told b time n).1 (told b time n).0.tokens
seen b (refill time) = refilled_to (refilled b time).tokens

abbrev walked : TokenBucket → List Step → List Left
walked b [] = []
walked b (s ∷ rest) = seen b s ∷ walked (stepped b s) rest

abbrev new_pacer : Limits → ℕ → Alone ConfiguredPacer
new_pacer m r =
    begun 0 (configured (record { enabled = true; min_rate_bps = 1; max_rate_bps = 1000000000; limits = m }) (pacing.made 0 m r))

-- a pool that is just long enough
abbrev pool_bytes : Alone ConfiguredPacer → ℕ
pool_bytes a = bytes_of (slots_of a.inner.config.limits)

abbrev key_number : ℕ → InstanceKey
key_number k = record { topic_hash = k; key_hash = 0 }

abbrev acted : Alone ConfiguredPacer → Act → Alone ConfiguredPacer
acted a (hand c key n) = (handed_alone a (pool_bytes a) 0 c (key_number key) n).state
acted a send = (sent_alone a (pool_bytes a) 0).state

abbrev came_of : CallLeft (Alone ConfiguredPacer) SendAction → Answer
came_of x = came (result_number pacing.action_number x.answer) (pacing.action_values (result_unwrap_or x.answer Empty))

abbrev answers : Alone ConfiguredPacer → Act → Answer
answers a (hand c key n) = answered (result_number fate_number (handed_alone a (pool_bytes a) 0 c (key_number key) n).answer)
answers a send = came_of (sent_alone a (pool_bytes a) 0)

abbrev performed : Alone ConfiguredPacer → List Act → List Answer
performed a [] = []
performed a (x ∷ rest) = answers a x ∷ performed (acted a x) rest

abbrev config_with : RateParams → ControllerConfig
config_with p =
    record {
      enabled = true;
      ecn = false;
      scorer = scorer_config_of defaults;
      rate = p;
      allocation = allocation_config_of defaults;
    }

-- what a call leaves, and what it answers
abbrev turned : Alone ConfiguredCongestion → Turn → Alone ConfiguredCongestion
turned a eagain = (eagain_alone a).state
turned a (sample time x) = (sampled_alone a time 1 x).state
turned a (tick time) = (ticked_alone a time).state

abbrev tick_seen : CallLeft (Alone ConfiguredCongestion) Bool → ControllerCore → Turned
tick_seen x k =
    ticked (result_number (λ b. accepted) x.answer) (result_unwrap_or x.answer false) (to_bits binary32 k.scorer.score)
    k.rate_controller.metrics.decreases_soft
    k.rate_controller.metrics.decreases_hard
    k.rate_controller.current_rate

abbrev turn_seen : Alone ConfiguredCongestion → Turn → Turned
turn_seen a eagain = noted (result_number none_number (eagain_alone a).answer)
turn_seen a (sample time x) = noted (result_number none_number (sampled_alone a time 1 x).answer)
turn_seen a (tick time) = tick_seen (ticked_alone a time) (ticked_alone a time).state.inner.controller.core

abbrev steered : Alone ConfiguredCongestion → List Turn → List Turned
steered a [] = []
steered a (t ∷ rest) = turn_seen a t ∷ steered (turned a t) rest

abbrev pub outcome : Input → Result
outcome (rate n) = float (of_int binary32 (pos n))
outcome (samples xs) = shown (sampled (new_estimator (fin false 25 (pos 2))) xs)
outcome (packets xs) = signals (received (new_processor, false) xs)
outcome (tos x) = codepoint (codepoint_of x)
outcome (bytes xs) = hash (fnv1a xs)
outcome (bucket r n xs) = steps (walked (made 0 r n) xs)
outcome (pacer p0 p1 p2 r xs) = acts (performed (new_pacer (per_class p0 p1 p2) r) xs)
outcome (controller p xs) = turns (steered (made_of (config_with p) 0) xs)

-- ---- the table

pub record Example : Type 0 where
  pub input : Input
  pub result : Result

abbrev pub row : Input → Result → Example
row i r = record { input = i; result = r }

-- m * 2 ^ k, and m / 2, as floats
abbrev scaled : ℕ → ℕ → Float
scaled m k = fin false m (pos k)

abbrev halves : ℕ → Float
halves m = fin false m (negsuc 0)

-- the default rates, and a range up to n with the factor 1.0 of a hard decrease
abbrev by_default : RateParams
by_default = params_of defaults

abbrev factor_one : ℕ → RateParams
factor_one n =
    record {
      min_rate = 1;
      max_rate = n;
      ai_step = 0;
      md_hard = of_bits binary32 0x3f80_0000;
      md_soft = of_bits binary32 0x3f80_0000;
    }

abbrev pub table : List Example
table =
    -- 16,777,217 rounds to 16,777,216 = 2 ^ 24, and 16,777,219 to 16,777,220 = 4,194,305 * 4
    row (rate 16777217) (float (scaled 1 24))
    ∷ row (rate 16777219) (float (scaled 4194305 2))
    -- at factor 1.0 the latter rate stays: a tick after an EAGAIN reports no change
    ∷ row (controller (factor_one 16777219) (eagain ∷ tick 100000000 ∷ []))
    (turns (noted 0 ∷ ticked 0 false 0x4270_0000 0 0 16777219 ∷ []))
    -- EAGAIN, tick: score 60 (0x42700000), hard, 100,000,000 to 50,000,000
    ∷ row (controller by_default (eagain ∷ tick 100000000 ∷ []))
    (turns (noted 0 ∷ ticked 0 true 0x4270_0000 0 1 50000000 ∷ []))
    -- RTT inflated (100 ms over a least of 10) at four ticks 100 ms apart: soft at the fourth only, 80,000,000
    ∷ row (controller by_default
    (sample 0 (scaled 5 1) ∷ sample 0 (scaled 25 2) ∷ tick 100000000 ∷ tick 200000000 ∷ tick 300000000 ∷ tick 400000000 ∷ []))
    (turns (noted 0
    ∷ noted 0
    ∷ ticked 0 false 0x41a0_0000 0 0 100000000
    ∷ ticked 0 false 0x4218_0000 0 0 100000000
    ∷ ticked 0 false 0x4258_cccd 0 0 100000000
    ∷ ticked 0 true 0x4289_8f5c 1 0 80000000
    ∷ []))
    -- RTT 100, 200: average 112.5, variance 62.5, `rto` 362.5
    ∷ row (samples (scaled 25 2 ∷ scaled 25 3 ∷ [])) (round_trip (halves 225) (halves 125) (halves 725))
    -- 99 ECT(0) and one CE signal; 100 ECT(0) do not
    ∷ row (packets (replicate 99 0x02 ++ (0x03 ∷ []))) (signals true)
    ∷ row (packets (replicate 100 0x02)) (signals false)
    -- FNV-1a of nothing is its offset
    ∷ row (bytes []) (hash 0xcbf2_9ce4_8422_2325)
    -- TOS 02 is ECT(0), FC Not-ECT
    ∷ row (tos 0x02) (codepoint Ect0)
    ∷ row (tos 0xfc) (codepoint NotEct)
    -- bucket 10,000/s, full 1,500: take 1,472, 28 left; 1 ms later 38; 1,472 more waits 143,400,000 ns
    ∷ row (bucket 10000 1500 (take 0 1472 ∷ refill 1000000 ∷ wait 1000000 1472 ∷ []))
    (steps (taken true 28 ∷ refilled_to 38 ∷ waits 143400000 38 ∷ []))
    -- P2 keys A, B, A: sends A with sequence 2, then B with 1
    ∷ row (pacer 2 4 2 10000 (hand P2 1 10 ∷ hand P2 2 20 ∷ hand P2 1 30 ∷ send ∷ send ∷ send ∷ []))
    (acts (answered 0 ∷ answered 0 ∷ answered 0 ∷ came 0 (2 ∷ 2 ∷ 30 ∷ []) ∷ came 0 (2 ∷ 1 ∷ 20 ∷ []) ∷ came 0 [] ∷ []))
    -- P0 limit 2: the third is 12, a P1 record after it has sequence 3
    ∷ row (pacer 2 4 2 10000 (hand P0 0 10 ∷ hand P0 0 10 ∷ hand P0 0 10 ∷ hand P1 0 10 ∷ send ∷ send ∷ send ∷ []))
    (acts (answered 0 ∷ answered 0 ∷ answered 12 ∷ answered 0 ∷ came 0 (0 ∷ 0 ∷ 10 ∷ []) ∷ came 0 (0 ∷ 1 ∷ 10 ∷ []) ∷ came 0 (1 ∷ 3 ∷ 10 ∷ []) ∷ []))
    -- 1,472 bytes pass, 1,473 is 3
    ∷ row (pacer 2 4 2 10000 (hand P1 0 1472 ∷ hand P1 0 1473 ∷ send ∷ [])) (acts (answered 0 ∷ answered 3 ∷ came 0 (1 ∷ 0 ∷ 1472 ∷ []) ∷ []))
    ∷ []

-- every row's result is what the definitions give for its input
abbrev pub IsSettled : List Example → Type 0
IsSettled [] = Unit {0}
IsSettled (x ∷ rest) = (outcome x.input ≡ x.result) × IsSettled rest
