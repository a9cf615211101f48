-- A coalescing queue used alone: the reasons that may apply to each call, and what it answers and leaves
-- (P2 limits 1 to 128, records 0 to 1,472 bytes; "a pacer or queue alone needs its own slots"). Definitions only.
use Rattle.std.specs.Prelude.{ℕ, ◌||◌, List, [], ◌∷◌, ltb, length, Option, Some, None, Result, Ok, Err}
use Rattle.config.specs.Alone.{answered, made_or}
use Rattle.config.specs.Ledger.{counted, counted_checks}
use Rattle.config.specs.Refusal.{Check, when, verdict_of}
use Rattle.config.specs.declared.alone.Alone.{Alone}
use Rattle.config.specs.declared.alone.Left.{Left}
use Rattle.config.specs.declared.ledger.Ledger.{Ledger}
use Rattle.config.specs.declared.refusal.Refusal.{Refusal}
use Rattle.config.specs.declared.refusal.Refusal.TheVariants.{SettingsBeyond, RecordTooLong, BufferTooShort}
use Rattle.queue.specs.Coalescing.{Coalescing, new_queue, inserted, popped_front}
use Rattle.queue.specs.Pool.{bytes_of, is_short, limit_of, piece, stored}
use Rattle.queue.specs.Waiting.{slot_of}
use Rattle.queue.specs.declared.coalescing_alone.Sample.{Sample}
use Rattle.queue.specs.declared.entry.InstanceKey.{InstanceKey}
use Rattle.queue.specs.declared.entry.KeyedEntry.{KeyedEntry}
use Rattle.queue.specs.declared.fate.Kept.{Kept}

-- an entry and its slot, as the oldest sample
abbrev pub sample_of : ℕ → KeyedEntry → Sample
sample_of slot e = record { slot = slot; sequence = e.entry.sequence; length = e.entry.length; key = e.key }

-- the oldest of what waits, from this slot on
abbrev pub front_of : ℕ → List KeyedEntry → Option Sample
front_of slot [] = None
front_of slot (e ∷ rest) = Some (sample_of slot e)

-- the oldest sample, if one waits
abbrev pub front_in : Coalescing → Option Sample
front_in q = front_of (slot_of q.waiting 0) q.waiting.items

-- ---- numbers

-- 2: a limit outside 1 to 128
abbrev pub making_checks : ℕ → List Check
making_checks limit = when SettingsBeyond (ltb limit 1 || ltb 128 limit) ∷ []

-- 8 and 17
abbrev pub pop_checks : Ledger → ℕ → ℕ → List Check
pop_checks l limit bytes = when BufferTooShort (is_short bytes limit) ∷ counted_checks l

-- 3, 8 and 17
abbrev pub insert_checks : Ledger → ℕ → ℕ → ℕ → List Check
insert_checks l limit bytes n = when RecordTooLong (ltb 1472 n) ∷ pop_checks l limit bytes

-- ---- the public calls

unfoldable pub made_alone : ℕ → Result (Alone Coalescing) Refusal
made_alone limit = made_or (verdict_of (making_checks limit)) 0 (new_queue (limit_of limit))

abbrev pub insert_verdict : Alone Coalescing → ℕ → ℕ → Result Unit Refusal
insert_verdict a bytes n = verdict_of (insert_checks a.ledger a.inner.waiting.limit bytes n)

abbrev pub pop_verdict : Alone Coalescing → ℕ → Result Unit Refusal
pop_verdict a bytes = verdict_of (pop_checks a.ledger a.inner.waiting.limit bytes)

-- an insert of n bytes, with a pool of so many bytes
unfoldable pub inserted_alone : Alone Coalescing → ℕ → InstanceKey → ℕ → Left (Alone Coalescing) Unit
inserted_alone a bytes key n =
    answered a (insert_verdict a bytes n) (counted a.ledger) ((inserted a.inner key n).0, tt)

abbrev pub insert_stored : List ℕ → Kept → List ℕ → List ℕ
insert_stored p kept bytes = stored p (bytes_of kept.slot) bytes

abbrev pub pool_inserted_by : Result Unit Refusal → Coalescing → InstanceKey → List ℕ → List ℕ → List ℕ
pool_inserted_by (Err e) q key bytes p = p
pool_inserted_by (Ok u) q key bytes p = insert_stored p (inserted q key (length bytes)).1 bytes

unfoldable pub pool_inserted : Alone Coalescing → List ℕ → InstanceKey → List ℕ → List ℕ
pool_inserted a p key bytes = pool_inserted_by (insert_verdict a (length p) (length bytes)) a.inner key bytes p

unfoldable pub popped_alone : Alone Coalescing → ℕ → Left (Alone Coalescing) (Option Sample)
popped_alone a bytes = answered a (pop_verdict a bytes) (counted a.ledger) (popped_front a.inner, front_in a.inner)

abbrev pub peeked_alone : Alone Coalescing → Option Sample
peeked_alone a = front_in a.inner

-- "A sent record is shown as the middle part of the pool where it was kept."
abbrev pub shown_bytes : Option Sample → List ℕ → List ℕ
shown_bytes None p = piece p 0 0
shown_bytes (Some x) p = piece p (bytes_of x.slot) x.length
