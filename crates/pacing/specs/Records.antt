-- What the queues of a pacer hold, with the records' bytes, and the book that it is held against, for one pacer: the laws in
-- `proofs/Records.antt` speak of these. Definitions only.
use Rattle.std.specs.Prelude.{ℕ, ◌<◌, Bool, cond, List, [], ◌∷◌, ◌++◌, ◌≡◌, ltb, eqb, length, map, set, drop, get_or}
use Rattle.std.specs.List.{range_with_len, position_or_len}
use Rattle.config.specs.Config.{class_number}
use Rattle.config.specs.declared.config.Priority.{Priority}
use Rattle.config.specs.declared.config.Priority.TheVariants.{P0, P1, P2}
use Rattle.numeric.specs.Integer.{next}
use Rattle.queue.specs.Entries.{entry_of, no_key, no_entry, keyed_entry, no_keyed_entry, has_key}
use Rattle.queue.specs.Pool.{Limits, piece, slot_start}
use Rattle.queue.specs.declared.entry.InstanceKey.{InstanceKey}
use Rattle.queue.specs.declared.entry.KeyedEntry.{KeyedEntry}
use Rattle.pacing.specs.WriterPacer.{Queues, Pacer, waiting_in, slot_in, handed_in, hand_in_stored, sent_from, sent_bytes, rate_set}
use Rattle.pacing.specs.declared.writer_pacer.PacerConfig.{PacerConfig}
use Rattle.pacing.specs.declared.send_action.SendAction.{SendAction}
use Rattle.pacing.specs.declared.send_action.SendAction.TheVariants.{Send, Empty, RateLimited}

-- ---- what waits

-- a waiting record: its entry and its bytes
pub record Held : Type 0 where
  pub entry : KeyedEntry
  pub bytes : List ℕ

abbrev pub held_of : KeyedEntry → List ℕ → Held
held_of e bytes = record { entry = e; bytes = bytes }

-- what stands where no record waits
abbrev pub nobody : Held
nobody = held_of no_keyed_entry []

-- what a class keeps of an entry: P0 and P1 have no key
unfoldable pub shaped : Priority → KeyedEntry → KeyedEntry
shaped P0 e = keyed_entry e.entry no_key
shaped P1 e = keyed_entry e.entry no_key
shaped P2 e = e

-- the entry so many places behind the first of its class
abbrev pub entry_at : Queues → Priority → ℕ → KeyedEntry
entry_at q P0 place = keyed_entry (get_or q.p0.items place no_entry) no_key
entry_at q P1 place = keyed_entry (get_or q.p1.items place no_entry) no_key
entry_at q P2 place = get_or q.p2.waiting.items place no_keyed_entry

-- the record at that place in a queue of pacer i, with the bytes that the pool has in its slot
unfoldable pub held : Limits → ℕ → Priority → Pacer → List ℕ → ℕ → Held
held m i c p pool place =
    held_of (entry_at p.queues c place)
    (piece pool (slot_start m i c (slot_in p.queues c place)) (entry_at p.queues c place).entry.length)

-- what waits in a class of pacer i, in order
unfoldable pub waiting : Limits → ℕ → Priority → Pacer → List ℕ → List Held
waiting m i c p pool = map (held m i c p pool) (range_with_len 0 (waiting_in p.queues c))

-- ---- the book of one pacer

-- "Per pacer it has a list per class and two counters from 0, P2's and the others'": a P2 hand-in uses up a number of the others' too
pub record Book : Type 0 where
  pub lists : Priority → List Held
  pub next : ℕ
  pub next_p2 : ℕ

abbrev pub book_of : (Priority → List Held) → ℕ → ℕ → Book
book_of lists next next_p2 = record { lists = lists; next = next; next_p2 = next_p2 }

abbrev pub empty_book : Book
empty_book = book_of (λ c. []) 0 0

abbrev pub sequence_in : Book → Priority → ℕ
sequence_in b P0 = b.next
sequence_in b P1 = b.next
sequence_in b P2 = b.next_p2

abbrev pub next_p2_after : Book → Priority → ℕ
next_p2_after b P0 = b.next_p2
next_p2_after b P1 = b.next_p2
next_p2_after b P2 = next b.next_p2

-- a record under a number, as its class lists it
abbrev pub record_as : Priority → ℕ → InstanceKey → List ℕ → Held
record_as c sequence key bytes = held_of (shaped c (keyed_entry (entry_of sequence (length bytes)) key)) bytes

-- a record as it is handed in
abbrev pub record_in : Book → Priority → InstanceKey → List ℕ → Held
record_in b c key bytes = record_as c (sequence_in b c) key bytes

abbrev pub keyed : InstanceKey → Held → Bool
keyed key x = has_key key x.entry

-- the place of the first record that is listed under a key, or the list's length
abbrev pub place_of : InstanceKey → List Held → ℕ
place_of key xs = position_or_len (keyed key) xs

-- "Joining a full P1 or P2 pushes out the first."
unfoldable pub join_list : ℕ → List Held → Held → List Held
join_list limit xs x = cond (ltb (length xs) limit) xs (drop 1 xs) ++ (x ∷ [])

-- "It joins its list's tail, or in P2 under a listed key takes the place of that record .. Joining a full P1 or P2 pushes out the first."
unfoldable pub list_after : Limits → Priority → InstanceKey → List Held → Held → List Held
list_after m P0 key xs x = cond (ltb (length xs) m.p0) (xs ++ (x ∷ [])) xs
list_after m P1 key xs x = join_list m.p1 xs x
list_after m P2 key xs x =
    cond (ltb (place_of key xs) (length xs)) (set xs (place_of key xs) x) (join_list m.p2 xs x)

-- the lists with one class's exchanged
unfoldable pub with_list : (Priority → List Held) → Priority → List Held → Priority → List Held
with_list lists c xs d = cond (eqb (class_number d) (class_number c)) xs (lists d)

-- a hand-in; a full P0 keeps its list (12), and the number is used up
abbrev pub book_handed : Limits → Book → Priority → InstanceKey → List ℕ → Book
book_handed m b c key bytes =
    book_of (with_list b.lists c (list_after m c key (b.lists c) (record_in b c key bytes))) (next b.next) (next_p2_after b c)

-- "`sent` takes its class's first; listed records wait."
abbrev pub book_sent : Book → SendAction → Book
book_sent b (Send c slot sequence n forced) = book_of (with_list b.lists c (drop 1 (b.lists c))) b.next b.next_p2
book_sent b Empty = b
book_sent b (RateLimited wait) = b

-- a list's first record is the one that is shown, byte for byte
pub record IsShown (xs : List Held) (sequence n : ℕ) (bytes : List ℕ) : Type 0 where
  pub waits : 0 < length xs
  pub sequence_is : (get_or xs 0 nobody).entry.entry.sequence ≡ sequence
  pub length_is : (get_or xs 0 nobody).entry.entry.length ≡ n
  pub bytes_are : (get_or xs 0 nobody).bytes ≡ bytes

-- what a send attempt shows of the book
abbrev pub Shows : Limits → ℕ → List ℕ → Book → SendAction → Type 0
Shows m i pool b (Send c slot sequence n forced) = IsShown (b.lists c) sequence n (sent_bytes m i (Send c slot sequence n forced) pool)
Shows m i pool b Empty = Unit {0}
Shows m i pool b (RateLimited wait) = Unit {0}

-- ---- lists of calls on pacer i, as far as its queues go

pub record Parts : Type 0 where
  pub pacer : Pacer
  pub pool : List ℕ

abbrev pub parts_of : Pacer → List ℕ → Parts
parts_of p pool = record { pacer = p; pool = pool }

-- a call that no number but 12 meets: a record of at most 1,472 bytes, a send attempt at a time, a rate setting
pub data Call : Type 0 where
  hand_in : (c : Priority) (key : InstanceKey) (bytes : List ℕ) → length bytes < 1473 → Call
  try_send : ℕ → Call
  set_rate : PacerConfig → ℕ → ℕ → Call

-- what a hand-in leaves
abbrev pub parts_handed : Limits → ℕ → Parts → Priority → InstanceKey → List ℕ → Parts
parts_handed m i s c key bytes =
    parts_of (handed_in s.pacer c key (length bytes)).0
    (hand_in_stored s.pool m i c (handed_in s.pacer c key (length bytes)).1 bytes)

-- what a call leaves
unfoldable pub parts_after : Limits → ℕ → Parts → Call → Parts
parts_after m i s (hand_in c key bytes short) = parts_handed m i s c key bytes
parts_after m i s (try_send time) = parts_of (sent_from s.pacer time).0 s.pool
parts_after m i s (set_rate config time rate) = parts_of (rate_set s.pacer config time rate) s.pool

-- what the book has after it
unfoldable pub book_after : Limits → Parts → Book → Call → Book
book_after m s b (hand_in c key bytes short) = book_handed m b c key bytes
book_after m s b (try_send time) = book_sent b (sent_from s.pacer time).1
book_after m s b (set_rate config time rate) = b

-- what it shows
unfoldable pub CallShows : Limits → ℕ → Parts → Book → Call → Type 0
CallShows m i s b (hand_in c key bytes short) = Unit {0}
CallShows m i s b (try_send time) = Shows m i s.pool b (sent_from s.pacer time).1
CallShows m i s b (set_rate config time rate) = Unit {0}

-- after every call of a list: each queue holds its list, and each sent record is the one that was handed in
unfoldable pub AllShown : Limits → ℕ → Parts → Book → List Call → Type 0
AllShown m i s b [] = (c : Priority) → waiting m i c s.pacer s.pool ≡ b.lists c
AllShown m i s b (call ∷ calls) =
    ((c : Priority) → waiting m i c s.pacer s.pool ≡ b.lists c)
    × CallShows m i s b call
    × AllShown m i (parts_after m i s call) (book_after m s b call) calls
