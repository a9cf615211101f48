-- Two short lists of calls on a new station, worked through: what each call answers, and the book after the first; the second is a whole
-- tape. Definitions only; `proofs/Worked.antt` has the checker compute them.
use Rattle.std.specs.Prelude.{ℕ, List, [], ◌∷◌, map, ◌≡◌, replicate, Ok}
use Rattle.config.specs.Config.{defaults, settings_with}
use Rattle.config.specs.declared.config.CongestionConfig.{CongestionConfig}
use Rattle.config.specs.declared.config.EcnMode.TheVariants.{Opportunistic}
use Rattle.config.specs.declared.config.Priority.TheVariants.{P0, P1, P2}
use Rattle.control.specs.declared.budget_allocator.WriterInfo.{WriterInfo}
use Rattle.queue.specs.Entries.{key_of_hashes, no_key}
use Rattle.queue.specs.Pool.{bytes_of, limits_of}
use Rattle.queue.specs.declared.entry.InstanceKey.{InstanceKey}
use Rattle.pacing.specs.Records.{Held}
use Rattle.pacing.specs.WriterPacer.{action_values}
use Rattle.station.specs.Station.{Station, slots_needed, station_config_of, new_station, made_station}
use Rattle.guarantees.specs.Book.{Queue, Page}
use Rattle.guarantees.specs.Calls.{owed, eagain, tick, Call, register, control, hand_in, send, Reply, nothing, signal, unchanged, updates, action, Answer, answers}
use Rattle.guarantees.specs.Theorem.{Kept, keeps, started}

-- ---- the station

-- the default settings but for the queue limits: one record in P0, one in P1, two in P2
abbrev pub settings : CongestionConfig
settings = settings_with defaults defaults.enabled 1 1 2 defaults.ecn_mode

-- a pool of zeros, just long enough: 23,552 bytes, "4 × 1,472 × the sum of the three limits"
abbrev pub pool : List ℕ
pool = replicate (bytes_of (slots_needed (limits_of settings))) 0

-- the station that these settings make at time 0
abbrev pub station : Station
station = new_station (station_config_of settings) 0

-- with an empty book
abbrev pub start : Kept
start = started station pool

-- ---- the calls: times in nanoseconds, and the pool that is owed

abbrev pub key_a : InstanceKey
key_a = key_of_hashes 1 0

-- two records of key A, each longer than the 28 bytes that the bucket will have left when P1 has to wait
abbrev pub older : List ℕ
older = replicate 64 97

abbrev pub newer : List ℕ
newer = replicate 64 98

abbrev pub calls : List Call
calls =
    -- writer 7 registers and gets pacer 0: a full bucket of 1,500 bytes, and 10,000 bytes per second
    register 0 7 P1
    -- P2 counts its own records: this one is number 0
    ∷ hand_in 0 0 P2 key_a older owed
    -- number 1 has the same key, and takes the place of number 0
    ∷ hand_in 0 0 P2 key_a newer owed
    -- P1's first is number 2: the two P2 hand-ins used up numbers 0 and 1 of the pacer's own
    ∷ hand_in 0 0 P1 no_key (replicate 1472 1) owed
    -- number 3 pushes out number 2, since P1 holds at most one record
    ∷ hand_in 0 0 P1 no_key (replicate 1472 1) owed
    -- number 3 goes, and the bucket has 28 bytes left
    ∷ send 0 0 owed
    -- number 4 has 128 bytes
    ∷ hand_in 0 0 P1 no_key (replicate 128 1) owed
    -- neither class's first is paid for, and the wait is for the 100 bytes that number 4 lacks: 10 ms
    ∷ send 0 0 owed
    -- a nanosecond after the wait is over, number 4 goes
    ∷ send 10000001 0 owed
    ∷ []

-- ---- what is told

-- a call's number and its values: of a send attempt class, sequence and length of a sent record, or the nanoseconds of a wait; of a tick
-- or rate setting each update's id, previous and new budget
pub record Seen : Type 0 where
  pub answer : ℕ
  pub values : List ℕ

abbrev pub seen : ℕ → List ℕ → Seen
seen answer values = record { answer = answer; values = values }

abbrev pub budgets_of : List WriterInfo → List ℕ
budgets_of [] = []
budgets_of (w ∷ ws) = w.id ∷ w.previous_bps ∷ w.budget_bps ∷ budgets_of ws

abbrev pub values_of : Reply → List ℕ
values_of nothing = []
values_of (signal b) = []
values_of unchanged = []
values_of (updates rows) = budgets_of rows
values_of (action a) = action_values a

abbrev pub seen_of : Answer → Seen
seen_of x = seen x.answer (values_of x.reply)

abbrev pub expected : List Seen
expected =
    seen 0 []
    ∷ seen 0 []
    ∷ seen 0 []
    ∷ seen 0 []
    ∷ seen 0 []
    -- class P1, number 3, 1,472 bytes
    ∷ seen 0 (1 ∷ 3 ∷ 1472 ∷ [])
    ∷ seen 0 []
    -- 10 ms
    ∷ seen 0 (10000000 ∷ [])
    -- class P1, number 4, 128 bytes
    ∷ seen 0 (1 ∷ 4 ∷ 128 ∷ [])
    ∷ []

-- ---- the book

-- a class's list in the book, by sequence numbers alone
pub record Lists : Type 0 where
  pub accepted : List ℕ
  pub waiting : List ℕ
  pub sent : List ℕ
  pub pushed_out : List ℕ
  pub replaced : List ℕ

abbrev pub numbers_of : List Held → List ℕ
numbers_of xs = map (λ (x : Held). x.entry.entry.sequence) xs

abbrev pub lists_of : Queue → Lists
lists_of q =
    record {
      accepted = numbers_of q.accepted;
      waiting = numbers_of q.waiting;
      sent = numbers_of q.sent;
      pushed_out = numbers_of q.pushed_out;
      replaced = numbers_of q.replaced;
    }

-- nothing was handed in to P0
abbrev pub expected_p0 : Lists
expected_p0 = record { accepted = []; waiting = []; sent = []; pushed_out = []; replaced = [] }

abbrev pub expected_p1 : Lists
expected_p1 =
    record { accepted = 2 ∷ 3 ∷ 4 ∷ []; waiting = []; sent = 3 ∷ 4 ∷ []; pushed_out = 2 ∷ []; replaced = [] }

abbrev pub expected_p2 : Lists
expected_p2 = record { accepted = 0 ∷ 1 ∷ []; waiting = 1 ∷ []; sent = []; pushed_out = []; replaced = 0 ∷ [] }

-- the page of pacer 0 after the calls
abbrev pub page : Page
page = (keeps (limits_of settings) start calls).book 0

-- ---- the claim

-- the making's answer, each call's answer, each class's lists, and the bytes of the one record that waits in P2: the newer one's
abbrev pub IsWorked : Type 0
IsWorked =
    (made_station 128 512 128 settings 0 ≡ Ok station)
    × (map seen_of (answers start.state calls) ≡ expected)
    × (lists_of (page.queues P0) ≡ expected_p0)
    × (lists_of (page.queues P1) ≡ expected_p1)
    × (lists_of (page.queues P2) ≡ expected_p2)
    × (map (λ (x : Held). x.bytes) (page.queues P2).waiting ≡ newer ∷ [])

-- ---- a whole tape, as calls

-- "Defaults hold, with queue limits 2, 4, 2 and ECN opportunistic."
abbrev pub tape_settings : CongestionConfig
tape_settings = settings_with defaults defaults.enabled 2 4 2 Opportunistic

abbrev pub tape_station : Station
tape_station = new_station (station_config_of tape_settings) 0

abbrev pub tape_start : Kept
tape_start = started tape_station (replicate (bytes_of (slots_needed (limits_of tape_settings))) 0)

-- the words 20000004 20000009 30000000 100186A0 40000000 60000000
abbrev pub tape_calls : List Call
tape_calls =
    register 0 1 P0 ∷ register 0 2 P1 ∷ control 0 eagain ∷ control 100000000 tick ∷ send 100000000 0 owed ∷ []

-- "4 0 2 1:0:10000000 2:0:28000000" and "5 0 empty"
abbrev pub tape_expected : List Seen
tape_expected =
    seen 0 [] ∷ seen 0 [] ∷ seen 0 [] ∷ seen 0 (1 ∷ 0 ∷ 10000000 ∷ 2 ∷ 0 ∷ 28000000 ∷ []) ∷ seen 0 [] ∷ []

-- the making's answer, whether the queues have the most slots or the tape's own number of them, and each call's answer
abbrev pub IsTapeWorked : Type 0
IsTapeWorked =
    (made_station 128 512 128 tape_settings 0 ≡ Ok tape_station)
    × (made_station 2 4 2 tape_settings 0 ≡ Ok tape_station)
    × (map seen_of (answers tape_start.state tape_calls) ≡ tape_expected)
