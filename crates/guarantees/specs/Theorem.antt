-- Demand 3, one claim about every list of calls on a new station, in four parts: what became of each record, the byte allowance, the
-- waits that were told, and that contents steer nothing. Definitions only; `proofs/Theorem.antt` proves the claim.
use Rattle.std.specs.Prelude.{ℕ, ◌+◌, ◌-◌, ◌*◌, ◌≤◌, ◌<◌, Bool, true, false, cond, ◌≢◌, ◌≡◌, eqb, length, get_or, replicate, take, Ok}
use mathlib.Core.List.{List, [], ◌∷◌, ◌++◌, map, Memᴰ}
use Rattle.config.specs.Config.{class_number}
use Rattle.config.specs.Refusal.{accepted, queue_full}
use Rattle.config.specs.declared.config.CongestionConfig.{CongestionConfig}
use Rattle.config.specs.declared.config.Priority.{Priority}
use Rattle.config.specs.declared.config.Priority.TheVariants.{P0, P1, P2}
use Rattle.control.specs.declared.budget_allocator.WriterInfo.{WriterInfo}
use Rattle.queue.specs.Pool.{Limits, is_short, limits_of, slot_start}
use Rattle.queue.specs.declared.entry.InstanceKey.{InstanceKey}
use Rattle.queue.specs.declared.entry.KeyedEntry.{KeyedEntry}
use Rattle.pacing.specs.Counts.{count_in}
use Rattle.pacing.specs.Records.{Held, waiting}
use Rattle.pacing.specs.TokenBucket.{wait_of}
use Rattle.pacing.specs.WriterPacer.{waiting_in, entries_in, metrics_in, rate_of}
use Rattle.pacing.specs.declared.token_bucket.TokenBucket.{TokenBucket}
use Rattle.pacing.specs.declared.send_action.SendAction.{SendAction}
use Rattle.pacing.specs.declared.send_action.SendAction.TheVariants.{Send, Empty, RateLimited}
use Rattle.pacing.specs.declared.pacer_counts.WriterPacerMetrics.{WriterPacerMetrics}
use Rattle.station.specs.Station.{Station, writer_at, pacer_in, limits_in, slots_needed, made_station, enqueued_in}
use Rattle.guarantees.specs.Book.{Queue, Page, Book, empty_page, empty_book, noted, sent_in}
use Rattle.guarantees.specs.Calls.{Lent, owed, instead, Call, register, control, hand_in, send, Reply, nothing, signal, unchanged, updates, action, Outcome, shown_by, State, state_of, in_place, lent_in, answered, after, run, answers}

-- ==== lists of calls, with the book kept

pub record Kept : Type 0 where
  pub state : State
  pub book : Book

abbrev pub kept_of : State → Book → Kept
kept_of s b = record { state = s; book = b }

-- a call, with the book kept by what it answered
unfoldable pub keep : Limits → Kept → Call → Kept
keep m k x =
    kept_of (after k.state x) (noted m k.book x (answered k.state x).answer (sent_in (answered k.state x).reply))

unfoldable pub keeps : Limits → Kept → List Call → Kept
keeps m k [] = k
keeps m k (x ∷ xs) = keeps m (keep m k x) xs

-- a claim holds at the start and after every call of a list
unfoldable pub Always : Limits → (Kept → Type 0) → Kept → List Call → Type 0
Always m P k [] = P k
Always m P k (x ∷ xs) = P k × Always m P (keep m k x) xs

-- a claim holds of every call of a list
unfoldable pub Each : Limits → (Kept → Call → Type 0) → Kept → List Call → Type 0
Each m P k [] = Unit {0}
Each m P k (x ∷ xs) = P k x × Each m P (keep m k x) xs

-- ==== 1. fates

-- the sum of w over a list
unfoldable pub weigh : (Held → ℕ) → List Held → ℕ
weigh w [] = 0
weigh w (x ∷ xs) = w x + weigh w xs

-- 1 for a record with the sequence number n, 0 for another
unfoldable pub numbered : ℕ → Held → ℕ
numbered n x = cond (eqb x.entry.entry.sequence n) 1 0

-- how often the number n stands under a fate
unfoldable pub fates : ℕ → Queue → ℕ
fates n q =
    weigh (numbered n) q.sent + weigh (numbered n) q.pushed_out + weigh (numbered n) q.replaced + weigh (numbered n) q.waiting

-- each accepted record has exactly one fate in the book
pub record HasOneFate (q : Queue) : Type 0 where
  -- its number stands once among the four
  pub exactly_one : (x : Held) → Memᴰ x q.accepted → fates x.entry.entry.sequence q ≡ 1
  -- whatever is summed over the records, length and bytes too, the four together have what was accepted
  pub whole : (w : Held → ℕ) → weigh w q.accepted ≡ weigh w q.sent + weigh w q.pushed_out + weigh w q.replaced + weigh w q.waiting
  -- accepted = sent + pushed out + replaced + waiting
  pub sum : length q.accepted ≡ length q.sent + length q.pushed_out + length q.replaced + length q.waiting

-- the pacer's own counts by class; P0 pushes out none, and P2 alone replaces
abbrev pub enqueued_of : WriterPacerMetrics → Priority → ℕ
enqueued_of x P0 = x.enqueued_p0
enqueued_of x P1 = x.enqueued_p1
enqueued_of x P2 = x.enqueued_p2

abbrev pub sent_of : WriterPacerMetrics → Priority → ℕ
sent_of x P0 = x.sent_p0
sent_of x P1 = x.sent_p1
sent_of x P2 = x.sent_p2

abbrev pub dropped_of : WriterPacerMetrics → Priority → ℕ
dropped_of x P0 = 0
dropped_of x P1 = x.dropped_p1
dropped_of x P2 = x.dropped_p2

abbrev pub coalesced_of : WriterPacerMetrics → Priority → ℕ
coalesced_of x P0 = 0
coalesced_of x P1 = 0
coalesced_of x P2 = x.coalesced_p2

abbrev pub metrics_of : Station → ℕ → WriterPacerMetrics
metrics_of s i = metrics_in (pacer_in s i)

-- how many records wait in a ring
abbrev pub ring_in : Station → ℕ → Priority → ℕ
ring_in s i c = waiting_in (pacer_in s i).queues c

-- what a ring holds, in order: sequence, length and P2's key
abbrev pub queued : Station → ℕ → Priority → List KeyedEntry
queued s i c = entries_in (pacer_in s i).queues c

-- "after every call each ring holds its list in order: sequence, length, P2's key", and the station's own counts are the book's
pub record Matched (s : Station) (i : ℕ) (c : Priority) (q : Queue) : Type 0 where
  pub in_order : queued s i c ≡ map (λ (x : Held). x.entry) q.waiting
  pub accepted_is : enqueued_of (metrics_of s i) c ≡ length q.accepted
  pub sent_is : sent_of (metrics_of s i) c ≡ length q.sent
  pub pushed_out_is : dropped_of (metrics_of s i) c ≡ length q.pushed_out
  pub replaced_is : coalesced_of (metrics_of s i) c ≡ length q.replaced
  pub waiting_is : ring_in s i c ≡ length q.waiting
  -- accepted = sent + pushed out + replaced + waiting, by the station's own counts
  pub own_sum :
      enqueued_of (metrics_of s i) c
      ≡ sent_of (metrics_of s i) c + dropped_of (metrics_of s i) c + coalesced_of (metrics_of s i) c + ring_in s i c

-- the station matches the book, and every record has its fate; a pacer that nobody registered has an empty page
pub record IsFated (k : Kept) : Type 0 where
  pub one-fate : (i : ℕ) (c : Priority) → HasOneFate ((k.book i).queues c)
  pub matched : (i : ℕ) → i < k.state.station.roster.count → (c : Priority) → Matched k.state.station i c ((k.book i).queues c)
  pub unregistered : (i : ℕ) → k.state.station.roster.count ≤ i → k.book i ≡ empty_page
  -- no count of a pacer has reached its largest value, so that each is exact; n as over `counts_of`, where 2, P2's waiting bytes, is no count
  pub exact : (i n : ℕ) → i < k.state.station.roster.count → n < 13 → n ≢ 2 → count_in (pacer_in k.state.station i) n < 18446744073709551615

-- "each `sent` shows that first's sequence, length and bytes"
pub record FirstIs (xs : List Held) (sequence n : ℕ) : Type 0 where
  pub first : Held
  pub is_first : take 1 xs ≡ first ∷ []
  pub sequence_is : first.entry.entry.sequence ≡ sequence
  pub length_is : first.entry.entry.length ≡ n

abbrev pub ActionShows : Page → SendAction → Type 0
ActionShows b (Send c slot sequence n forced) = FirstIs (b.queues c).waiting sequence n
ActionShows b Empty = Unit {0}
ActionShows b (RateLimited wait) = Unit {0}

abbrev pub ReplyShows : Page → Reply → Type 0
ReplyShows b (action a) = ActionShows b a
ReplyShows b nothing = Unit {0}
ReplyShows b (signal t) = Unit {0}
ReplyShows b unchanged = Unit {0}
ReplyShows b (updates rows) = Unit {0}

-- a send attempt on pacer i is held against the page of pacer i
abbrev pub Sends : (ℕ → Type 0) → Call → Type 0
Sends P (send time i lent) = P i
Sends P (register time id class) = Unit {0}
Sends P (control time steering) = Unit {0}
Sends P (hand_in time i class key bytes lent) = Unit {0}

unfoldable pub IsShown : Kept → Call → Type 0
IsShown k x = Sends (λ i. ReplyShows (k.book i) (answered k.state x).reply) x

-- "and, in the owed pool, the bytes"
abbrev pub HoldsBytes : Kept → Type 0
HoldsBytes k =
    (i : ℕ) → i < k.state.station.roster.count → (c : Priority)
    → waiting (limits_in k.state.station) i c (pacer_in k.state.station i) k.state.pool
    ≡ ((k.book i).queues c).waiting

abbrev pub FirstBytes : Page → List ℕ → Reply → Type 0
FirstBytes b bytes (action (Send c slot sequence n forced)) =
    (first : Held) → take 1 (b.queues c).waiting ≡ first ∷ [] → bytes ≡ first.bytes
FirstBytes b bytes (action Empty) = Unit {0}
FirstBytes b bytes (action (RateLimited wait)) = Unit {0}
FirstBytes b bytes nothing = Unit {0}
FirstBytes b bytes (signal t) = Unit {0}
FirstBytes b bytes unchanged = Unit {0}
FirstBytes b bytes (updates rows) = Unit {0}

unfoldable pub ShownBytes : Kept → Call → Type 0
ShownBytes k x =
    Sends
    (λ i.
    FirstBytes (k.book i) (shown_by k.state.station i (answered k.state x).reply (in_place k.state.station (lent_in x) k.state.pool))
    (answered k.state x).reply)
    x

-- "the pool as owed above or one too short"
abbrev pub IsOwedOrShort : Limits → Lent → Type 0
IsOwedOrShort m owed = Unit {0}
IsOwedOrShort m (instead pool) = is_short (length pool) (slots_needed m) ≡ true

abbrev pub IsOwed : Limits → List Call → Type 0
IsOwed m [] = Unit {0}
IsOwed m (x ∷ xs) = IsOwedOrShort m (lent_in x) × IsOwed m xs

pub record Fates (m : Limits) (start : Kept) (calls : List Call) : Type 0 where
  pub fated : Always m IsFated start calls
  pub shown : Each m IsShown start calls
  pub bytes_held : IsOwed m calls → Always m HoldsBytes start calls
  pub bytes_shown : IsOwed m calls → Each m ShownBytes start calls

-- ==== 2. the byte allowance

abbrev pub bucket_in : State → ℕ → TokenBucket
bucket_in s i = (pacer_in s.station i).tokens

abbrev pub is_updates : Reply → Bool
is_updates (updates rows) = true
is_updates nothing = false
is_updates (signal b) = false
is_updates unchanged = false
is_updates (action a) = false

-- whether a call registers pacer i
abbrev pub begins : ℕ → Station → Call → ℕ → Bool
begins i s (register time id class) answer = cond (eqb answer accepted) (eqb i s.roster.count) false
begins i s (control time steering) answer = false
begins i s (hand_in time j class key bytes lent) answer = false
begins i s (send time j lent) answer = false

-- whether a call sets the rate of pacer i: "A pacer starts at `min_rate_bps`, which counts as a rate setting; so does each budget update"
unfoldable pub sets_by : ℕ → Station → Call → Outcome → Bool
sets_by i s x o = cond (is_updates o.reply) true (begins i s x o.answer)

abbrev pub sets : ℕ → State → Call → Bool
sets i s x = sets_by i s.station x (answered s x)

-- the rate of pacer i after a call is the new budget in its writer's row, held to the settings' range
pub record SetTo (rows : List WriterInfo) (s t : Station) (i : ℕ) : Type 0 where
  pub row : WriterInfo
  pub listed : Memᴰ row rows
  pub own : row.id ≡ (writer_at s.roster i).id
  pub rate_is : (pacer_in t i).tokens.rate_bps ≡ rate_of s.config.pacer row.budget_bps

-- "so does each budget update, sent to its `set_rate`": the updates that a call tells reach every pacer
abbrev pub ReplyReaches : Station → Station → Reply → Type 0
ReplyReaches s t (updates rows) = (i : ℕ) → i < s.roster.count → SetTo rows s t i
ReplyReaches s t nothing = Unit {0}
ReplyReaches s t (signal b) = Unit {0}
ReplyReaches s t unchanged = Unit {0}
ReplyReaches s t (action a) = Unit {0}

-- "A pacer starts at `min_rate_bps`"
abbrev pub StartsLeast : Station → Station → Call → ℕ → Type 0
StartsLeast s t x answer = (i : ℕ) → begins i s x answer ≡ true → (pacer_in t i).tokens.rate_bps ≡ s.config.pacer.min_rate_bps

-- a call that sets a pacer's rate leaves it at that rate
pub record Reaches (k : Kept) (x : Call) : Type 0 where
  pub starts : StartsLeast k.state.station (after k.state x).station x (answered k.state x).answer
  pub budgets : ReplyReaches k.state.station (after k.state x).station (answered k.state x).reply

-- no call of a list sets it
unfoldable pub IsUnset : ℕ → State → List Call → Type 0
IsUnset i s [] = Unit {0}
IsUnset i s (x ∷ xs) = (sets i s x ≡ false) × IsUnset i (after s x) xs

-- the bytes of P1 and P2 that a reply sends
abbrev pub paid_as : SendAction → ℕ
paid_as (Send P0 slot sequence n forced) = 0
paid_as (Send P1 slot sequence n forced) = n
paid_as (Send P2 slot sequence n forced) = n
paid_as Empty = 0
paid_as (RateLimited wait) = 0

abbrev pub paid_in : Reply → ℕ
paid_in (action a) = paid_as a
paid_in nothing = 0
paid_in (signal b) = 0
paid_in unchanged = 0
paid_in (updates rows) = 0

-- the bytes that a call sends from pacer i
unfoldable pub paid_by : ℕ → Call → Reply → ℕ
paid_by i (send time j lent) reply = cond (eqb j i) (paid_in reply) 0
paid_by i (register time id class) reply = 0
paid_by i (control time steering) reply = 0
paid_by i (hand_in time j class key bytes lent) reply = 0

unfoldable pub paid : ℕ → State → List Call → ℕ
paid i s [] = 0
paid i s (x ∷ xs) = paid_by i x (answered s x).reply + paid i (after s x) xs

-- "refills (credits above 0)": a credit above 0 moves the refill time, and nothing else does where the rate is not set
unfoldable pub refills_by : ℕ → State → Call → ℕ
refills_by i s x = cond (eqb (bucket_in s i).last_refill (bucket_in (after s x) i).last_refill) 0 1

unfoldable pub refills : ℕ → State → List Call → ℕ
refills i s [] = 0
refills i s (x ∷ xs) = refills_by i s x + refills i (after s x) xs

-- the bytes that pacer i may send in the calls of a list that ends with a send attempt at a time: the tokens held, the rate times the
-- time since the refill time, and one byte for each refill; in billionths
abbrev pub IsWithinAllowance : ℕ → State → List Call → ℕ → Type 0
IsWithinAllowance i s calls time =
    paid i s calls * 1000000000
    ≤ ((bucket_in s i).tokens + refills i s calls) * 1000000000 + (bucket_in s i).rate_bps * (time - (bucket_in s i).last_refill)

-- from each setting of a pacer's rate to any accepted send attempt before the next
abbrev pub Allowance : State → List Call → Type 0
Allowance start calls =
    (i : ℕ) (before : List Call) (set : Call) (between : List Call) (time : ℕ) (lent : Lent) (rest : List Call)
    → calls ≡ before ++ (set ∷ (between ++ (send time i lent ∷ rest)))
    → sets i (run start before) set ≡ true
    → IsUnset i (after (run start before) set) between
    → (answered (run (after (run start before) set) between) (send time i lent)).answer ≡ accepted
    → IsWithinAllowance i (after (run start before) set) (between ++ (send time i lent ∷ [])) time

-- every update is a setting, and between settings no more is sent
pub record Allowed (m : Limits) (start : Kept) (calls : List Call) : Type 0 where
  pub settings : Each m Reaches start calls
  pub within : Allowance start.state calls

-- ==== 3. waits

-- every call of a list is turned down; "12 .. counts as an accepted call"
unfoldable pub AllTurnedDown : State → List Call → Type 0
AllTurnedDown s [] = Unit {0}
AllTurnedDown s (x ∷ xs) = ((answered s x).answer ≢ accepted) × (((answered s x).answer ≢ queue_full) × AllTurnedDown (after s x) xs)

-- the first record of the first class of the page that has one, for which the wait was worked out, goes with the reply
pub record HeadGoes (b : Page) (bucket : TokenBucket) (wait : ℕ) (reply : Reply) : Type 0 where
  pub class : Priority
  pub head : Held
  pub is_first : take 1 (b.queues class).waiting ≡ head ∷ []
  pub none_before : (d : Priority) → class_number d < class_number class → (b.queues d).waiting ≡ []
  pub worked_out : wait ≡ wait_of (head.entry.entry.length - bucket.tokens) bucket.rate_bps
  pub slot : ℕ
  pub goes : reply ≡ action (Send class slot head.entry.entry.sequence head.entry.entry.length false)

-- where a wait was told and the next accepted call is that pacer's send attempt a nanosecond or more after it, the head goes for which it
-- was told; calls that are turned down may lie between
abbrev pub Waits : Limits → Kept → List Call → Type 0
Waits m start calls =
    (i : ℕ) (before : List Call) (time : ℕ) (lent : Lent) (between : List Call) (later : ℕ) (lent' : Lent) (rest : List Call) (wait : ℕ)
    → calls ≡ before ++ (send time i lent ∷ (between ++ (send later i lent' ∷ rest)))
    → (answered (run start.state before) (send time i lent)).reply ≡ action (RateLimited wait)
    → AllTurnedDown (after (run start.state before) (send time i lent)) between
    → (answered (run (after (run start.state before) (send time i lent)) between) (send later i lent')).answer ≡ accepted
    → time + wait + 1 ≤ later
    → HeadGoes ((keeps m start before).book i) (bucket_in (after (run start.state before) (send time i lent)) i) wait
    (answered (run (after (run start.state before) (send time i lent)) between) (send later i lent')).reply

-- ==== 4. contents steer nothing

-- a call without what it contains: every byte of the record and of a pool lent is 0
abbrev pub blank : List ℕ → List ℕ
blank bytes = replicate (length bytes) 0

abbrev pub blank_lent : Lent → Lent
blank_lent owed = owed
blank_lent (instead pool) = instead (blank pool)

unfoldable pub blanked : Call → Call
blanked (register time id class) = register time id class
blanked (control time steering) = control time steering
blanked (hand_in time i class key bytes lent) = hand_in time i class key (blank bytes) (blank_lent lent)
blanked (send time i lent) = send time i (blank_lent lent)

-- the same byte stands in place k of two pools
abbrev pub SameAt : ℕ → List ℕ → List ℕ → Type 0
SameAt k pool pool' = get_or pool k 0 ≡ get_or pool' k 0

-- the pools that two calls put in place have the same byte in place k
abbrev pub LentSame : ℕ → Station → Lent → Lent → Type 0
LentSame k s (instead pool) (instead pool') = is_short (length pool) (slots_needed (limits_in s)) ≡ false → SameAt k pool pool'
LentSame k s (instead pool) owed = Unit {0}
LentSame k s owed (instead pool') = Unit {0}
LentSame k s owed owed = Unit {0}

-- where a hand-in of n bytes to the station puts the record's first byte
abbrev pub put_at : Station → ℕ → Priority → InstanceKey → ℕ → ℕ
put_at s i c key n = slot_start (limits_in s) i c (enqueued_in s i c key n).1.slot

-- the bytes of the record that a call hands in
abbrev pub bytes_in : Call → List ℕ
bytes_in (register time id class) = []
bytes_in (control time steering) = []
bytes_in (hand_in time i class key bytes lent) = bytes
bytes_in (send time i lent) = []

-- a record that is accepted has the byte of the other list's record where it is put in place k
abbrev pub PutSame : ℕ → State → Call → Call → Type 0
PutSame k s (register time id class) y = Unit {0}
PutSame k s (control time steering) y = Unit {0}
PutSame k s (hand_in time i c key bytes lent) y =
    (answered s (hand_in time i c key bytes lent)).answer ≡ accepted
    → (j : ℕ) → j < length bytes → k ≡ put_at s.station i c key (length bytes) + j → get_or bytes j 0 ≡ get_or (bytes_in y) j 0
PutSame k s (send time i lent) y = Unit {0}

-- no call of two lists brings bytes that differ to place k
unfoldable pub AllSame : ℕ → State → List Call → List Call → Type 0
AllSame k s [] ys = Unit {0}
AllSame k s (x ∷ xs) [] = Unit {0}
AllSame k s (x ∷ xs) (y ∷ ys) = LentSame k s.station (lent_in x) (lent_in y) × (PutSame k s x y × AllSame k (after s x) xs ys)

-- the same answers, and all left the same but for the pool's places where bytes that differ lay or were put
pub record Alike (s t : State) (xs ys : List Call) : Type 0 where
  pub same_answers : answers s xs ≡ answers t ys
  pub same_station : (run s xs).station ≡ (run t ys).station
  pub same_length : length (run s xs).pool ≡ length (run t ys).pool
  pub same_bytes : (k : ℕ) → SameAt k s.pool t.pool → AllSame k s xs ys → SameAt k (run s xs).pool (run t ys).pool

-- a second list, alike in all, record lengths too, but record bytes, the bytes of pools lent and the first pool's bytes
abbrev pub Contents : State → List Call → Type 0
Contents start calls =
    (pool' : List ℕ) (calls' : List Call) → length start.pool ≡ length pool' → map blanked calls ≡ map blanked calls'
    → Alike start (state_of start.station pool') calls calls'

-- ==== the claim

-- a station just made over a pool, and an empty book
abbrev pub started : Station → List ℕ → Kept
started s pool = kept_of (state_of s pool) empty_book

pub record Demand3 (c : CongestionConfig) (s : Station) (pool : List ℕ) (calls : List Call) : Type 0 where
  pub fates : Fates (limits_of c) (started s pool) calls
  pub allowance : Allowed (limits_of c) (started s pool) calls
  pub waits : Waits (limits_of c) (started s pool) calls
  pub contents : Contents (started s pool).state calls

-- for every number of slots of the queues, every settings that make a station, every time of its making, every pool, and every list of calls
abbrev pub Theorem : Type 0
Theorem =
    (N0 N1 N2 : ℕ) (c : CongestionConfig) (time : ℕ) (pool : List ℕ) (s : Station) → made_station N0 N1 N2 c time ≡ Ok s → (calls : List Call)
    → Demand3 c s pool calls
