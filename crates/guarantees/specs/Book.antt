-- The book: what became of each accepted record, from the calls' arguments, their answer numbers and the class of each `sent` alone.
-- Definitions only.
use Rattle.std.specs.Prelude.{ℕ, ◌+◌, Bool, cond, List, [], ◌∷◌, ◌++◌, ltb, eqb, length, set, take, drop}
use Rattle.config.specs.Config.{class_number}
use Rattle.config.specs.Refusal.{accepted, queue_full}
use Rattle.config.specs.declared.config.Priority.{Priority}
use Rattle.config.specs.declared.config.Priority.TheVariants.{P0, P1, P2}
use Rattle.queue.specs.declared.entry.InstanceKey.{InstanceKey}
use Rattle.queue.specs.Pool.{Limits}
use Rattle.pacing.specs.Records.{Held, record_as, place_of}
use Rattle.pacing.specs.declared.send_action.SendAction.{SendAction}
use Rattle.pacing.specs.declared.send_action.SendAction.TheVariants.{Send, Empty, RateLimited}
use Rattle.guarantees.specs.Calls.{Call, register, control, hand_in, send, Reply, nothing, signal, unchanged, updates, action}

-- ---- one list of the book

-- the records of one class of one pacer: all that were accepted, and each where it now is
pub record Queue : Type 0 where
  pub accepted : List Held
  pub waiting : List Held
  pub sent : List Held
  pub pushed_out : List Held
  pub replaced : List Held

abbrev pub queue_of : List Held → List Held → List Held → List Held → List Held → Queue
queue_of accepted waiting sent pushed_out replaced =
    record { accepted = accepted; waiting = waiting; sent = sent; pushed_out = pushed_out; replaced = replaced }

abbrev pub empty_queue : Queue
empty_queue = queue_of [] [] [] [] []

-- whether a list has room below a limit
abbrev pub room_in : ℕ → List Held → Bool
room_in limit xs = ltb (length xs) limit

-- "It joins its list's tail .. Joining a full P1 or P2 pushes out the first."
unfoldable pub joining : ℕ → Queue → Held → Queue
joining limit q x =
    queue_of (q.accepted ++ (x ∷ [])) (cond (room_in limit q.waiting) q.waiting (drop 1 q.waiting) ++ (x ∷ [])) q.sent
    (q.pushed_out ++ cond (room_in limit q.waiting) [] (take 1 q.waiting)) q.replaced

-- "or in P2 under a listed key takes the place of that record, which is replaced"
unfoldable pub replacing : ℕ → Queue → Held → Queue
replacing place q x =
    queue_of (q.accepted ++ (x ∷ [])) (set q.waiting place x) q.sent q.pushed_out
    (q.replaced ++ take 1 (drop place q.waiting))

-- the first record that is listed under the key gives way to it, if there is one
unfoldable pub keyed_in : ℕ → InstanceKey → Queue → Held → Queue
keyed_in limit key q x =
    cond (ltb (place_of key q.waiting) (length q.waiting)) (replacing (place_of key q.waiting) q x) (joining limit q x)

unfoldable pub handed_to : Limits → Priority → InstanceKey → Queue → Held → Queue
handed_to m P0 key q x = joining m.p0 q x
handed_to m P1 key q x = joining m.p1 q x
handed_to m P2 key q x = keyed_in m.p2 key q x

-- "`sent` takes its class's first; listed records wait."
unfoldable pub taken_from : Queue → Queue
taken_from q = queue_of q.accepted (drop 1 q.waiting) (q.sent ++ take 1 q.waiting) q.pushed_out q.replaced

-- ---- one pacer

-- "Per pacer it has a list per class and two counters from 0, P2's and the others'": a P2 hand-in uses up a number of the others' too
pub record Page : Type 0 where
  pub queues : Priority → Queue
  pub next : ℕ
  pub next_p2 : ℕ

abbrev pub page_of : (Priority → Queue) → ℕ → ℕ → Page
page_of queues next next_p2 = record { queues = queues; next = next; next_p2 = next_p2 }

abbrev pub empty_page : Page
empty_page = page_of (λ c. empty_queue) 0 0

-- the queues with one class's exchanged
unfoldable pub with_queue : (Priority → Queue) → Priority → Queue → Priority → Queue
with_queue queues c q d = cond (eqb (class_number d) (class_number c)) q (queues d)

abbrev pub sequence_of : Page → Priority → ℕ
sequence_of b P0 = b.next
sequence_of b P1 = b.next
sequence_of b P2 = b.next_p2

abbrev pub next_p2_after : Page → Priority → ℕ
next_p2_after b P0 = b.next_p2
next_p2_after b P1 = b.next_p2
next_p2_after b P2 = b.next_p2 + 1

-- "A hand-in answered 0 takes its counter's next number as sequence"
abbrev pub record_of : Page → Priority → InstanceKey → List ℕ → Held
record_of b c key bytes = record_as c (sequence_of b c) key bytes

abbrev pub page_handed : Limits → Page → Priority → InstanceKey → List ℕ → Page
page_handed m b c key bytes =
    page_of (with_queue b.queues c (handed_to m c key (b.queues c) (record_of b c key bytes))) (b.next + 1) (next_p2_after b c)

-- "12 uses one up; nothing else turned down counts"
abbrev pub page_used : Page → Page
page_used b = page_of b.queues (b.next + 1) b.next_p2

unfoldable pub handed_by : Limits → Page → Priority → InstanceKey → List ℕ → ℕ → Page
handed_by m b c key bytes answer =
    cond (eqb answer accepted) (page_handed m b c key bytes) (cond (eqb answer queue_full) (page_used b) b)

abbrev pub page_sent : Page → Priority → Page
page_sent b c = page_of (with_queue b.queues c (taken_from (b.queues c))) b.next b.next_p2

-- ---- the book: a page for each pacer

abbrev pub Book : Type 0
Book = ℕ → Page

abbrev pub empty_book : Book
empty_book i = empty_page

unfoldable pub with_page : Book → ℕ → Page → Book
with_page b i p j = cond (eqb j i) p (b j)

-- the class of a `sent`, if a reply is one
pub data Sent : Type 0 where
  none : Sent
  one : Priority → Sent

abbrev pub sent_as : SendAction → Sent
sent_as (Send c slot sequence n forced) = one c
sent_as Empty = none
sent_as (RateLimited wait) = none

abbrev pub sent_in : Reply → Sent
sent_in nothing = none
sent_in (signal b) = none
sent_in unchanged = none
sent_in (updates rows) = none
sent_in (action a) = sent_as a

unfoldable pub page_after_send : Page → Sent → Page
page_after_send b none = b
page_after_send b (one c) = page_sent b c

-- The book after a call: it reads the call's arguments, the answer number, and the class of a `sent`.
unfoldable pub noted : Limits → Book → Call → ℕ → Sent → Book
noted m b (register time id class) answer s = b
noted m b (control time steering) answer s = b
noted m b (hand_in time i c key bytes lent) answer s = with_page b i (handed_by m (b i) c key bytes answer)
noted m b (send time i lent) answer s = with_page b i (page_after_send (b i) s)
