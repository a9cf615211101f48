-- FNV-1a, 64 bits (the FNV reference by Fowler, Noll and Vo), the keys made with it, and the coalescing queue. Definitions only.
use Rattle.std.specs.Prelude.{ℕ, ◌+◌, ◌*◌, ◌-◌, ◌^◌, ◌%◌, cond, List, fold, length, ltb, get_or, Option, Some, None}
use Rattle.std.specs.Int.Bits.{bit_xor}
use Rattle.std.specs.List.{position_from}
use Rattle.numeric.specs.Integer.{next, up_to_u64}
use Rattle.queue.specs.Entries.{entry_of, keyed_entry, no_keyed_entry, has_key}
use Rattle.queue.specs.Fates.{kept_as}
use Rattle.queue.specs.Waiting.{Waiting, empty, slot_of, popped, joined, joins, kept_in, limit_fits}
use Rattle.queue.specs.Waiting as waiting
use Rattle.queue.specs.declared.coalescing.CoalescingStats.{CoalescingStats}
use Rattle.queue.specs.declared.entry.InstanceKey.{InstanceKey}
use Rattle.queue.specs.declared.entry.KeyedEntry.{KeyedEntry}
use Rattle.queue.specs.declared.fate.Fate.{Fate}
use Rattle.queue.specs.declared.fate.Fate.TheVariants.{Full, Joined, PushedOut, Replaced}
use Rattle.queue.specs.declared.fate.Kept.{Kept}

abbrev pub offset_basis : ℕ
offset_basis = 0xcbf2_9ce4_8422_2325

abbrev pub prime : ℕ
prime = 0x0100_0000_01b3

-- one byte more: the xor first, then the product, modulo 2^64
unfoldable pub joined_hash : ℕ → ℕ → ℕ
joined_hash hash byte = bit_xor hash byte * prime % 2 ^ 64

-- from a hash on, byte after byte
unfoldable pub joined_all : ℕ → List ℕ → ℕ
joined_all hash bytes = fold joined_hash hash bytes

abbrev pub fnv1a : List ℕ → ℕ
fnv1a bytes = joined_all offset_basis bytes

-- "Two hashes are the key"
abbrev pub key_of : List ℕ → List ℕ → InstanceKey
key_of topic key = record { topic_hash = fnv1a topic; key_hash = fnv1a key }

-- a topic with a single instance has key hash 0
abbrev pub keyless_of : List ℕ → InstanceKey
keyless_of topic = record { topic_hash = fnv1a topic; key_hash = 0 }

-- ---- the queue

-- what waits, the queue's own next number, the samples replaced and pushed out, and the bytes that wait
pub record Coalescing : Type 0 where
  pub waiting : Waiting KeyedEntry
  pub next_sequence : ℕ
  pub coalesced : ℕ
  pub dropped : ℕ
  pub total_bytes : ℕ

-- "P2 numbers its own samples from 0."
abbrev pub new_queue : ℕ → Coalescing
new_queue limit = record { waiting = empty limit; next_sequence = 0; coalesced = 0; dropped = 0; total_bytes = 0 }

abbrev pub made : ℕ → ℕ → Option Coalescing
made N limit = cond (limit_fits N limit) (Some (new_queue limit)) None

abbrev pub restarted : ℕ → ℕ → Coalescing → Coalescing
restarted N limit q = cond (limit_fits N limit) (new_queue limit) q

-- "A search from the ring's head stops at the first equal key."
abbrev pub found : Coalescing → InstanceKey → Option ℕ
found q key = position_from (has_key key) 0 q.waiting.items

abbrev pub length_at : Coalescing → ℕ → ℕ
length_at q place = (get_or q.waiting.items place no_keyed_entry).entry.length

-- the bytes of a sample, if there is one
abbrev pub length_of : Option KeyedEntry → ℕ
length_of None = 0
length_of (Some x) = x.entry.length

-- bytes, when some leave and some come
abbrev pub bytes_then : ℕ → ℕ → ℕ → ℕ
bytes_then total leave come = up_to_u64 (total - leave + come)

-- the bytes that wait, likewise
abbrev pub bytes_after : Coalescing → ℕ → ℕ → ℕ
bytes_after q leave come = bytes_then q.total_bytes leave come

-- "A replacement keeps its place", and its slot; the record in it gives way
abbrev pub replaced_at : Coalescing → ℕ → InstanceKey → ℕ → Coalescing × Kept
replaced_at q place key n = (
  record {
    waiting = waiting.exchanged q.waiting place (keyed_entry (entry_of q.next_sequence n) key);
    next_sequence = next q.next_sequence;
    coalesced = next q.coalesced;
    dropped = q.dropped;
    total_bytes = bytes_after q (length_at q place) n;
  },
  kept_as Replaced (slot_of q.waiting place) q.next_sequence,
)

-- what a record that joins the tail pushes out
abbrev pub drops_by : Coalescing → Fate → ℕ
drops_by q Full = q.dropped
drops_by q Joined = q.dropped
drops_by q PushedOut = next q.dropped
drops_by q Replaced = q.dropped

abbrev pub leaving : Coalescing → Fate → ℕ
leaving q Full = 0
leaving q Joined = 0
leaving q PushedOut = length_at q 0
leaving q Replaced = 0

abbrev pub joined_tail : Coalescing → InstanceKey → ℕ → Coalescing × Kept
joined_tail q key n = (
  record {
    waiting = joined q.waiting (keyed_entry (entry_of q.next_sequence n) key);
    next_sequence = next q.next_sequence;
    coalesced = q.coalesced;
    dropped = drops_by q (joins q.waiting);
    total_bytes = bytes_after q (leaving q (joins q.waiting)) n;
  },
  kept_in q.waiting q.next_sequence,
)

abbrev pub inserted_at : Coalescing → InstanceKey → ℕ → Option ℕ → Coalescing × Kept
inserted_at q key n (Some place) = replaced_at q place key n
inserted_at q key n None = joined_tail q key n

-- a record of n bytes under a key
unfoldable pub inserted : Coalescing → InstanceKey → ℕ → Coalescing × Kept
inserted q key n = inserted_at q key n (found q key)

-- the oldest leaves; an empty queue stays as it is, so that the next new key takes the slot that is its turn
unfoldable pub popped_front : Coalescing → Coalescing
popped_front q =
    cond (ltb 0 (length q.waiting.items))
    (record {
      waiting = popped q.waiting;
      next_sequence = q.next_sequence;
      coalesced = q.coalesced;
      dropped = q.dropped;
      total_bytes = bytes_after q (length_at q 0) 0;
    })
    q

-- the Rust's statistics, without the fill ratio
abbrev pub stats_in : Coalescing → CoalescingStats
stats_in q =
    record {
      instances = length q.waiting.items;
      bytes = q.total_bytes;
      coalesced = q.coalesced;
      dropped = q.dropped;
    }
