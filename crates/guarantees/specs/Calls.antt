-- Lists of calls on a station: the calls with all their arguments, what each answers, shows and leaves, and runs of lists. Definitions only.
use Rattle.std.specs.Prelude.{ℕ, Bool, cond, List, [], ◌∷◌, Float, length, Result, Ok, Err}
use Rattle.config.specs.Refusal.{accepted, none_number, result_number}
use Rattle.config.specs.declared.alone.Left.{Left}
use Rattle.config.specs.declared.config.Priority.{Priority}
use Rattle.config.specs.declared.refusal.Refusal.{Refusal}
use Rattle.control.specs.BudgetAllocator.{writers_of}
use Rattle.control.specs.declared.budget_allocator.WriterInfo.{WriterInfo}
use Rattle.queue.specs.Fates.{fate_number}
use Rattle.queue.specs.Pool.{is_short}
use Rattle.queue.specs.declared.entry.InstanceKey.{InstanceKey}
use Rattle.queue.specs.declared.fate.Fate.{Fate}
use Rattle.pacing.specs.WriterPacer.{action_number}
use Rattle.pacing.specs.declared.send_action.SendAction.{SendAction}
use Rattle.station.specs.Station.{Station, limits_in, slots_needed, registered_station, eagain_station, nacks_station, tos_station, rtt_station, ticked_station, rated_station, handed_station, pool_handed, sent_station, shown_bytes}

-- ---- calls

-- The pool that a call is lent: "The caller owes each call the pool as the last call left it", or another one in its stead: too
-- short, or long enough, as where others wrote in it.
pub data Lent : Type 0 where
  owed : Lent
  instead : List ℕ → Lent

-- A call on the controller alone, which concerns no record: one of the four signals, a tick or a rate setting.
pub data Steering : Type 0 where
  eagain : Steering
  tos : (byte : ℕ) → Steering
  nacks : (count : ℕ) → Steering
  rtt : (peer : ℕ) (sample : Float) → Steering
  tick : Steering
  set_rate : (rate : ℕ) → Steering

-- Every call on a station, with any arguments. Each has the time first.
pub data Call : Type 0 where
  register : (time id : ℕ) (class : Priority) → Call
  control : (time : ℕ) → Steering → Call
  hand_in : (time pacer : ℕ) (class : Priority) (key : InstanceKey) (bytes : List ℕ) → Lent → Call
  send : (time pacer : ℕ) → Lent → Call

-- ---- answers

-- What a call tells besides its number: a TOS byte whether congestion is signalled; a tick or a rate setting the writers' new budgets
-- (id, previous and new stand in a row), or that there are none; a send attempt what it comes to.
pub data Reply : Type 0 where
  nothing : Reply
  signal : Bool → Reply
  unchanged : Reply
  updates : List WriterInfo → Reply
  action : SendAction → Reply

-- what a call answers and leaves, but for bytes
pub record Outcome : Type 0 where
  pub answer : ℕ
  pub reply : Reply
  pub station : Station

abbrev pub outcome_of : ℕ → Reply → Station → Outcome
outcome_of answer reply s = record { answer = answer; reply = reply; station = s }

-- a call turned down tells nothing
abbrev pub reply_by : {T : Type 0} → (T → Reply) → Result T Refusal → Reply
reply_by reply (Ok t) = reply t
reply_by reply (Err e) = nothing

-- a call's outcome, from what it leaves and answers: the number of the answer, and what it tells
abbrev pub outcome_by : {T : Type 0} → (T → ℕ) → (T → Reply) → Left Station T → Outcome
outcome_by number reply x = outcome_of (result_number number x.answer) (reply_by reply x.answer) x.state

-- a call that gives nothing back
abbrev pub plain : Left Station Unit → Outcome
plain x = outcome_by none_number (λ u. nothing) x

abbrev pub signals : Left Station Bool → Outcome
signals x = outcome_by (λ b. accepted) signal x

-- the rows that the allocator shows
abbrev pub rows_of : Station → List WriterInfo
rows_of s = writers_of s.controller.allocator.table

-- a tick: the rows where the rate changed
abbrev pub allots : Left Station Bool → Outcome
allots x = outcome_by (λ b. accepted) (λ b. cond b (updates (rows_of x.state)) unchanged) x

-- a rate setting: the rows whether it changed or not
abbrev pub rates : Left Station Unit → Outcome
rates x = outcome_by none_number (λ u. updates (rows_of x.state)) x

-- a hand-in tells its number alone: 12 where the record found its queue full
abbrev pub hands : Left Station Fate → Outcome
hands x = outcome_by fate_number (λ f. nothing) x

abbrev pub attempts : Left Station SendAction → Outcome
attempts x = outcome_by action_number action x

-- ---- one call on a station and its pool

-- the bytes of the pool that a call is lent, where the last call left so many
abbrev pub lent_length : ℕ → Lent → ℕ
lent_length n owed = n
lent_length n (instead pool) = length pool

-- what a call on the controller alone answers
unfoldable pub controlled : Station → ℕ → Steering → Outcome
controlled s time eagain = plain (eagain_station s time)
controlled s time (tos byte) = signals (tos_station s time byte)
controlled s time (nacks count) = plain (nacks_station s time count)
controlled s time (rtt peer sample) = plain (rtt_station s time peer sample)
controlled s time tick = allots (ticked_station s time)
controlled s time (set_rate rate) = rates (rated_station s time rate)

-- what a call answers; of the pool and of a record it takes the length alone
unfoldable pub outcome : Station → ℕ → Call → Outcome
outcome s n (register time id class) = plain (registered_station s time id class)
outcome s n (control time steering) = controlled s time steering
outcome s n (hand_in time i class key bytes lent) = hands (handed_station s (lent_length n lent) time i class key (length bytes))
outcome s n (send time i lent) = attempts (sent_station s (lent_length n lent) time i)

-- The pool in place once a call was lent one: a pool too short is turned down, and the one before it stays.
unfoldable pub in_place : Station → Lent → List ℕ → List ℕ
in_place s owed pool = pool
in_place s (instead other) pool = cond (is_short (length other) (slots_needed (limits_in s))) pool other

abbrev pub lent_in : Call → Lent
lent_in (register time id class) = owed
lent_in (control time steering) = owed
lent_in (hand_in time i class key bytes lent) = lent
lent_in (send time i lent) = lent

-- what a call writes in a pool, where the last call left n bytes
unfoldable pub written : Station → ℕ → Call → List ℕ → List ℕ
written s n (register time id class) pool = pool
written s n (control time steering) pool = pool
written s n (hand_in time i class key bytes lent) pool = pool_handed s (lent_length n lent) time i class key bytes (length bytes) pool
written s n (send time i lent) pool = pool

-- the record that a send attempt on pacer i shows of a pool
abbrev pub shown_by : Station → ℕ → Reply → List ℕ → List ℕ
shown_by s i (action a) pool = shown_bytes s i a pool
shown_by s i nothing pool = []
shown_by s i (signal b) pool = []
shown_by s i unchanged pool = []
shown_by s i (updates rows) pool = []

-- ---- runs of lists

-- a station and its pool
pub record State : Type 0 where
  pub station : Station
  pub pool : List ℕ

abbrev pub state_of : Station → List ℕ → State
state_of s pool = record { station = s; pool = pool }

-- what a call answers and tells in a state
abbrev pub answered : State → Call → Outcome
answered s x = outcome s.station (length s.pool) x

-- the state after a call
unfoldable pub after : State → Call → State
after s x =
    state_of (answered s x).station (written s.station (length s.pool) x (in_place s.station (lent_in x) s.pool))

-- "each call gets the state that the last returned"
unfoldable pub run : State → List Call → State
run s [] = s
run s (x ∷ xs) = run (after s x) xs

-- what a caller learns from a call besides bytes
pub record Answer : Type 0 where
  pub answer : ℕ
  pub reply : Reply

abbrev pub answer_to : State → Call → Answer
answer_to s x = record { answer = (answered s x).answer; reply = (answered s x).reply }

unfoldable pub answers : State → List Call → List Answer
answers s [] = []
answers s (x ∷ xs) = answer_to s x ∷ answers (after s x) xs
