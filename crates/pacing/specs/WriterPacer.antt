-- The writer pacer (document 01, "Pacer"): three queues in the order of their class, and a token bucket. Steps decide what becomes of a
-- record, and counts follow. Of a record only the length is read; where its bytes go is said apart. Definitions only.
use Rattle.std.specs.Prelude.{ℕ, ◌+◌, ◌/◌, min, max, Bool, true, false, cond, List, [], ◌∷◌, map, length, ltb, eqb, ◌&&◌, get_or, Option, Some, None}
use Rattle.config.specs.Config.{class_number}
use Rattle.config.specs.PerClass.{value_at, with_value}
use Rattle.config.specs.Refusal.{accepted}
use Rattle.config.specs.declared.config.CongestionConfig.{CongestionConfig}
use Rattle.config.specs.declared.config.Priority.{Priority}
use Rattle.config.specs.declared.config.Priority.TheVariants.{P0, P1, P2}
use Rattle.config.specs.declared.per_class.PerClass.{PerClass}
use Rattle.numeric.specs.Integer.{next, up_to_u64}
use Rattle.queue.specs.Coalescing.{Coalescing, new_queue, inserted, popped_front}
use Rattle.queue.specs.Entries.{entry_of, no_entry, no_key, no_keyed_entry, keyed_entry}
use Rattle.queue.specs.Fates.{is_full, refused}
use Rattle.queue.specs.Pool.{Limits, limits_of, slot_start, stored, piece}
use Rattle.queue.specs.Waiting.{Waiting, empty, limit_fits, limit_held, has_room, joined, kept_in, popped, slot_of}
use Rattle.queue.specs.declared.entry.Entry.{Entry}
use Rattle.queue.specs.declared.entry.InstanceKey.{InstanceKey}
use Rattle.queue.specs.declared.entry.KeyedEntry.{KeyedEntry}
use Rattle.queue.specs.declared.fate.Fate.{Fate}
use Rattle.queue.specs.declared.fate.Fate.TheVariants.{Full, Joined, PushedOut, Replaced}
use Rattle.queue.specs.declared.fate.Kept.{Kept}
use Rattle.pacing.specs.TokenBucket.{tried, forced, told, rated, resized}
use Rattle.pacing.specs.TokenBucket as bucket
use Rattle.pacing.specs.declared.pacer_counts.PacerCounts.{PacerCounts}
use Rattle.pacing.specs.declared.pacer_counts.WriterPacerMetrics.{WriterPacerMetrics}
use Rattle.pacing.specs.declared.send_action.SendAction.{SendAction}
use Rattle.pacing.specs.declared.send_action.SendAction.TheVariants.{Send, Empty, RateLimited}
use Rattle.pacing.specs.declared.token_bucket.TokenBucket.{TokenBucket}
use Rattle.pacing.specs.declared.writer_pacer.PacerConfig.{PacerConfig}

-- ---- the parts

-- settings that were turned down
abbrev pub no_pacer_config : PacerConfig
no_pacer_config =
    record { enabled = false; min_rate_bps = 0; max_rate_bps = 0; limits = record { p0 = 0; p1 = 0; p2 = 0 } }

-- what a pacer reads of the settings
abbrev pub pacer_config_of : CongestionConfig → PacerConfig
pacer_config_of c =
    record {
      enabled = c.enabled;
      min_rate_bps = c.min_rate_bps;
      max_rate_bps = c.max_rate_bps;
      limits = limits_of c;
    }

pub record Queues : Type 0 where
  pub p0 : Waiting Entry
  pub p1 : Waiting Entry
  pub p2 : Coalescing

-- a pacer: what waits in its queues, its own next number, its tokens, and its counts
pub record Pacer : Type 0 where
  pub queues : Queues
  pub next_sequence : ℕ
  pub tokens : TokenBucket
  pub counts : PacerCounts

abbrev pub queues_of : Waiting Entry → Waiting Entry → Coalescing → Queues
queues_of p0 p1 p2 = record { p0 = p0; p1 = p1; p2 = p2 }

abbrev pub pacer_of : Queues → ℕ → TokenBucket → PacerCounts → Pacer
pacer_of q sequence b n = record { queues = q; next_sequence = sequence; tokens = b; counts = n }

abbrev pub with_queues : Pacer → Queues → Pacer
with_queues p q = pacer_of q p.next_sequence p.tokens p.counts

abbrev pub with_tokens : Pacer → TokenBucket → Pacer
with_tokens p b = pacer_of p.queues p.next_sequence b p.counts

abbrev pub with_counts : Pacer → PacerCounts → Pacer
with_counts p n = pacer_of p.queues p.next_sequence p.tokens n

abbrev pub with_p0 : Pacer → Waiting Entry → Pacer
with_p0 p q = with_queues p (queues_of q p.queues.p1 p.queues.p2)

abbrev pub with_p1 : Pacer → Waiting Entry → Pacer
with_p1 p q = with_queues p (queues_of p.queues.p0 q p.queues.p2)

abbrev pub with_p2 : Pacer → Coalescing → Pacer
with_p2 p q = with_queues p (queues_of p.queues.p0 p.queues.p1 q)

-- how many records of a class wait
abbrev pub waiting_in : Queues → Priority → ℕ
waiting_in q P0 = length q.p0.items
waiting_in q P1 = length q.p1.items
waiting_in q P2 = length q.p2.waiting.items

-- an entry of P0 or P1, which has no key
abbrev pub keyless : Entry → KeyedEntry
keyless e = keyed_entry e no_key

abbrev pub keyless_entry : Option Entry → Option KeyedEntry
keyless_entry None = None
keyless_entry (Some e) = Some (keyless e)

-- the entries of a class in order
abbrev pub entries_in : Queues → Priority → List KeyedEntry
entries_in q P0 = map keyless q.p0.items
entries_in q P1 = map keyless q.p1.items
entries_in q P2 = q.p2.waiting.items

-- the slot of the record so many places behind the first of its class
abbrev pub slot_in : Queues → Priority → ℕ → ℕ
slot_in q P0 place = slot_of q.p0 place
slot_in q P1 place = slot_of q.p1 place
slot_in q P2 place = slot_of q.p2.waiting place

-- a bucket's capacity, as the Rust's `with_rate` and `set_rate` have it: 100 ms of the rate, at least 1,500
abbrev pub burst_of : ℕ → ℕ
burst_of rate = max 1500 (rate / 10)

abbrev pub no_counts : PacerCounts
no_counts =
    record {
      enqueued = record { p0 = 0; p1 = 0; p2 = 0 };
      sent = record { p0 = 0; p1 = 0; p2 = 0 };
      dropped_p1 = 0;
      bytes_sent = 0;
      rate_limited = 0;
      force_sends_p0 = 0;
    }

-- queues in which nothing waits
abbrev pub new_queues : Limits → Queues
new_queues m = queues_of (empty m.p0) (empty m.p1) (new_queue m.p2)

-- one slot of each class, for which any queues have room
abbrev pub least_limits : Limits
least_limits = record { p0 = 1; p1 = 1; p2 = 1 }

-- the number of slots of each class
abbrev pub limits_in : Queues → Limits
limits_in q = record { p0 = q.p0.limit; p1 = q.p1.limit; p2 = q.p2.waiting.limit }

-- a new pacer, its bucket full
abbrev pub made : ℕ → Limits → ℕ → Pacer
made time m rate = pacer_of (new_queues m) 0 (bucket.made time rate (burst_of rate)) no_counts

-- whether queues of N0, N1 and N2 slots have room for these limits
abbrev pub fits : ℕ → ℕ → ℕ → Limits → Bool
fits N0 N1 N2 m = limit_fits N0 m.p0 && limit_fits N1 m.p1 && limit_fits N2 m.p2

abbrev pub queues_made : ℕ → ℕ → ℕ → Limits → Option Queues
queues_made N0 N1 N2 m = cond (fits N0 N1 N2 m) (Some (new_queues m)) None

abbrev pub queues_restarted : ℕ → ℕ → ℕ → Queues → Limits → Queues
queues_restarted N0 N1 N2 q m = cond (fits N0 N1 N2 m) (new_queues m) q

abbrev pub made_in : ℕ → ℕ → ℕ → ℕ → Limits → ℕ → Option Pacer
made_in N0 N1 N2 time m rate = cond (fits N0 N1 N2 m) (Some (made time m rate)) None

-- limits that queues of 128, 512 and 128 slots have room for: each is held to 1 and the slots of its class
abbrev pub limits_held : Limits → Limits
limits_held m = record { p0 = limit_held 128 m.p0; p1 = limit_held 512 m.p1; p2 = limit_held 128 m.p2 }

-- a pacer made anew in the place of another, where there is room for its limits
abbrev pub restarted : ℕ → ℕ → ℕ → Pacer → ℕ → Limits → ℕ → Pacer
restarted N0 N1 N2 p time m rate = cond (fits N0 N1 N2 m) (made time m rate) p

-- ---- hand-in

-- a number of the pacer's own is used up
abbrev pub numbered : Pacer → Pacer
numbered p = pacer_of p.queues (next p.next_sequence) p.tokens p.counts

-- P0 never drops: 12 where it is full, and the number is used up all the same
unfoldable pub enqueue_p0 : Pacer → ℕ → ℕ → Pacer × Kept
enqueue_p0 p sequence n =
    cond (has_room p.queues.p0) (with_p0 p (joined p.queues.p0 (entry_of sequence n)), kept_in p.queues.p0 sequence)
    (p, refused sequence)

-- P1 drops its oldest where it is full
unfoldable pub enqueue_p1 : Pacer → ℕ → ℕ → Pacer × Kept
enqueue_p1 p sequence n = (with_p1 p (joined p.queues.p1 (entry_of sequence n)), kept_in p.queues.p1 sequence)

abbrev pub inserted_into : Pacer → Coalescing × Kept → Pacer × Kept
inserted_into p x = (with_p2 p x.0, x.1)

-- P2 coalesces, under its own sequence numbers
unfoldable pub enqueue_p2 : Pacer → InstanceKey → ℕ → Pacer × Kept
enqueue_p2 p key n = inserted_into p (inserted p.queues.p2 key n)

-- Every hand-in uses up a number of the pacer's own, P2's too.
unfoldable pub enqueue : Pacer → Priority → InstanceKey → ℕ → Pacer × Kept
enqueue p P0 key n = enqueue_p0 (numbered p) p.next_sequence n
enqueue p P1 key n = enqueue_p1 (numbered p) p.next_sequence n
enqueue p P2 key n = enqueue_p2 (numbered p) key n

-- so many more in the count of a class
abbrev pub counted : PerClass ℕ → Priority → PerClass ℕ
counted n c = with_value n c (next (value_at n c))

abbrev pub enqueued_noted : PacerCounts → Priority → PacerCounts
enqueued_noted n c =
    record {
      enqueued = counted n.enqueued c;
      sent = n.sent;
      dropped_p1 = n.dropped_p1;
      bytes_sent = n.bytes_sent;
      rate_limited = n.rate_limited;
      force_sends_p0 = n.force_sends_p0;
    }

abbrev pub one_dropped : PacerCounts → PacerCounts
one_dropped n =
    record {
      enqueued = n.enqueued;
      sent = n.sent;
      dropped_p1 = next n.dropped_p1;
      bytes_sent = n.bytes_sent;
      rate_limited = n.rate_limited;
      force_sends_p0 = n.force_sends_p0;
    }

-- P1's records that are pushed out; P2's are counted in its queue
abbrev pub drop_noted : PacerCounts → Priority → Fate → PacerCounts
drop_noted n P0 f = n
drop_noted n P1 Full = n
drop_noted n P1 Joined = n
drop_noted n P1 PushedOut = one_dropped n
drop_noted n P1 Replaced = n
drop_noted n P2 f = n

-- the counts after a hand-in; a full queue counts nothing
unfoldable pub hand_in_noted : PacerCounts → Priority → Fate → PacerCounts
hand_in_noted n c f = cond (is_full f) n (drop_noted (enqueued_noted n c) c f)

abbrev pub noted_hand_in : Priority → Pacer × Kept → Pacer × Kept
noted_hand_in c x = (with_counts x.0 (hand_in_noted x.0.counts c x.1.fate), x.1)

-- a hand-in of n bytes: what it leaves, and where its record is kept
unfoldable pub handed_in : Pacer → Priority → InstanceKey → ℕ → Pacer × Kept
handed_in p c key n = noted_hand_in c (enqueue p c key n)

-- its bytes go to its slot in the pool; i is the pacer's number
unfoldable pub hand_in_stored : List ℕ → Limits → ℕ → Priority → Kept → List ℕ → List ℕ
hand_in_stored p m i c kept bytes = cond (is_full kept.fate) p (stored p (slot_start m i c kept.slot) bytes)

-- ---- send attempt

-- what a send attempt comes to is an accepted call's: number 0
abbrev pub action_number : SendAction → ℕ
action_number (Send c slot sequence n forced) = accepted
action_number Empty = accepted
action_number (RateLimited wait) = accepted

-- its values: "`sent` class sequence length, `empty`, or `wait` nanoseconds"
abbrev pub action_values : SendAction → List ℕ
action_values (Send c slot sequence n forced) = class_number c ∷ sequence ∷ n ∷ []
action_values Empty = []
action_values (RateLimited wait) = wait ∷ []

-- the entry of the first waiting record of a class
abbrev pub front_of : Queues → Priority → Entry
front_of q P0 = get_or q.p0.items 0 no_entry
front_of q P1 = get_or q.p1.items 0 no_entry
front_of q P2 = (get_or q.p2.waiting.items 0 no_keyed_entry).entry

-- the first of a class leaves
abbrev pub popped_in : Queues → Priority → Queues
popped_in q P0 = queues_of (popped q.p0) q.p1 q.p2
popped_in q P1 = queues_of q.p0 (popped q.p1) q.p2
popped_in q P2 = queues_of q.p0 q.p1 (popped_front q.p2)

abbrev pub send_of : Priority → ℕ → Entry → Bool → SendAction
send_of c slot e forced = Send c slot e.sequence e.length forced

-- the first of a class goes, and leaves the bucket b
unfoldable pub gone : Pacer → Priority → TokenBucket → Bool → Pacer × SendAction
gone p c b forced =
    (with_tokens (with_queues p (popped_in p.queues c)) b, send_of c (slot_in p.queues c 0) (front_of p.queues c) forced)

abbrev pub by_p0 : Pacer → ℕ → ℕ → TokenBucket × Bool → Pacer × SendAction
by_p0 p time n x = cond x.1 (gone p P0 x.0 false) (gone p P0 (forced x.0 time n) true)

-- "P0 always goes, tokens falling to 0 if short."
unfoldable pub attempt_p0 : Pacer → ℕ → Pacer × SendAction
attempt_p0 p time = by_p0 p time (front_of p.queues P0).length (tried p.tokens time (front_of p.queues P0).length)

-- the first of P1 or P2 is paid for in tokens; an empty queue refills nothing
unfoldable pub paid : TokenBucket → Queues → Priority → ℕ → TokenBucket × Bool
paid b q c time =
    cond (eqb (waiting_in q c) 0) (b, false) (tried b time (front_of q c).length)

abbrev pub waited_by : Pacer → TokenBucket × ℕ → Pacer × SendAction
waited_by p x =
    cond (ltb 0 x.1) (with_tokens p x.0, RateLimited x.1) (with_tokens p x.0, Empty)

-- the wait for n tokens
unfoldable pub waited : Pacer → ℕ → ℕ → Pacer × SendAction
waited p time n = waited_by p (told p.tokens time n)

-- a wait is told for P1's first, or for P2's where P1 is empty
unfoldable pub limited : Pacer → ℕ → Pacer × SendAction
limited p time =
    cond (ltb 0 (waiting_in p.queues P1)) (waited p time (front_of p.queues P1).length)
    (cond (ltb 0 (waiting_in p.queues P2)) (waited p time (front_of p.queues P2).length) (p, Empty))

abbrev pub by_p2 : Pacer → ℕ → TokenBucket × Bool → Pacer × SendAction
by_p2 p time x = cond x.1 (gone p P2 x.0 false) (limited (with_tokens p x.0) time)

abbrev pub by_p1 : Pacer → ℕ → TokenBucket × Bool → Pacer × SendAction
by_p1 p time x = cond x.1 (gone p P1 x.0 false) (by_p2 p time (paid x.0 p.queues P2 time))

-- which class is tried next: P0, then P1, then P2
unfoldable pub attempt : Pacer → ℕ → Pacer × SendAction
attempt p time =
    cond (ltb 0 (waiting_in p.queues P0)) (attempt_p0 p time) (by_p1 p time (paid p.tokens p.queues P1 time))

abbrev pub sent_of : PacerCounts → Priority → ℕ → PacerCounts
sent_of n c bytes =
    record {
      enqueued = n.enqueued;
      sent = counted n.sent c;
      dropped_p1 = n.dropped_p1;
      bytes_sent = up_to_u64 (n.bytes_sent + bytes);
      rate_limited = n.rate_limited;
      force_sends_p0 = n.force_sends_p0;
    }

abbrev pub one_forced : PacerCounts → PacerCounts
one_forced n =
    record {
      enqueued = n.enqueued;
      sent = n.sent;
      dropped_p1 = n.dropped_p1;
      bytes_sent = n.bytes_sent;
      rate_limited = n.rate_limited;
      force_sends_p0 = next n.force_sends_p0;
    }

abbrev pub one_limited : PacerCounts → PacerCounts
one_limited n =
    record {
      enqueued = n.enqueued;
      sent = n.sent;
      dropped_p1 = n.dropped_p1;
      bytes_sent = n.bytes_sent;
      rate_limited = next n.rate_limited;
      force_sends_p0 = n.force_sends_p0;
    }

-- the counts after a send attempt
unfoldable pub send_noted : PacerCounts → SendAction → PacerCounts
send_noted n (Send c slot sequence bytes forced) = cond forced (one_forced (sent_of n c bytes)) (sent_of n c bytes)
send_noted n Empty = n
send_noted n (RateLimited wait) = one_limited n

abbrev pub noted_send : Pacer × SendAction → Pacer × SendAction
noted_send x = (with_counts x.0 (send_noted x.0.counts x.1), x.1)

-- a send attempt: what it leaves, and what it comes to
unfoldable pub sent_from : Pacer → ℕ → Pacer × SendAction
sent_from p time = noted_send (attempt p time)

-- with control off a send attempt gets the Rust's empty
unfoldable pub sent_if : Bool → Pacer → ℕ → Pacer × SendAction
sent_if enabled p time = cond enabled (sent_from p time) (p, Empty)

-- "A sent record is shown as the middle part of the pool where it was kept."
abbrev pub sent_bytes : Limits → ℕ → SendAction → List ℕ → List ℕ
sent_bytes m i (Send c slot sequence n forced) p = piece p (slot_start m i c slot) n
sent_bytes m i Empty p = piece p 0 0
sent_bytes m i (RateLimited wait) p = piece p 0 0

-- ---- rate setting

-- the Rust's `rate.max(min).min(max)`
abbrev pub clamped_rate : ℕ → ℕ → ℕ → ℕ
clamped_rate rate least most = min (max rate least) most

abbrev pub rate_of : PacerConfig → ℕ → ℕ
rate_of c rate = clamped_rate rate c.min_rate_bps c.max_rate_bps

unfoldable pub rate_set : Pacer → PacerConfig → ℕ → ℕ → Pacer
rate_set p c time rate = with_tokens p (resized (rated p.tokens time (rate_of c rate)) (burst_of (rate_of c rate)))

-- ---- metrics

abbrev pub metrics_in : Pacer → WriterPacerMetrics
metrics_in p =
    record {
      enqueued_p0 = p.counts.enqueued.p0;
      enqueued_p1 = p.counts.enqueued.p1;
      enqueued_p2 = p.counts.enqueued.p2;
      sent_p0 = p.counts.sent.p0;
      sent_p1 = p.counts.sent.p1;
      sent_p2 = p.counts.sent.p2;
      dropped_p1 = p.counts.dropped_p1;
      coalesced_p2 = p.queues.p2.coalesced;
      dropped_p2 = p.queues.p2.dropped;
      bytes_sent = p.counts.bytes_sent;
      rate_limited = p.counts.rate_limited;
      force_sends_p0 = p.counts.force_sends_p0;
    }
