-- The lent pool: slots of 1,472 bytes, which slot is whose, and bytes written and shown. Definitions only.
use Rattle.std.specs.Prelude.{ℕ, ◌+◌, ◌*◌, min, Bool, cond, List, ◌++◌, leb, ltb, length, take, drop}
use Rattle.config.specs.declared.config.CongestionConfig.{CongestionConfig}
use Rattle.config.specs.declared.config.Priority.{Priority}
use Rattle.config.specs.declared.config.Priority.TheVariants.{P0, P1, P2}
use Rattle.config.specs.declared.per_class.PerClass.{PerClass}

-- how many slots each queue of a pacer has
abbrev pub Limits : Type 0
Limits = PerClass ℕ

-- a limit of the settings in 16 bits; within the domain it is at most 512
abbrev pub limit_of : ℕ → ℕ
limit_of limit = min limit 65535

abbrev pub limits_of : CongestionConfig → Limits
limits_of c =
    record { p0 = limit_of c.max_queue_p0; p1 = limit_of c.max_queue_p1; p2 = limit_of c.max_queue_p2 }

-- a queue's slots
abbrev pub limit_in : Limits → Priority → ℕ
limit_in m P0 = m.p0
limit_in m P1 = m.p1
limit_in m P2 = m.p2

-- the slots of a pacer
abbrev pub slots_of : Limits → ℕ
slots_of m = m.p0 + m.p1 + m.p2

-- "Slots go P0, P1, P2, writer after writer."
abbrev pub slots_before : Limits → Priority → ℕ
slots_before m P0 = 0
slots_before m P1 = m.p0
slots_before m P2 = m.p0 + m.p1

-- the bytes of so many slots
abbrev pub bytes_of : ℕ → ℕ
bytes_of slots = slots * 1472

-- 8: a pool is too short below 1,472 bytes for each slot that is needed
unfoldable pub is_short : ℕ → ℕ → Bool
is_short bytes slots = ltb bytes (bytes_of slots)

-- where a slot of a queue of pacer i begins
unfoldable pub slot_start : Limits → ℕ → Priority → ℕ → ℕ
slot_start m i c slot = bytes_of (i * slots_of m + slots_before m c + slot)

-- the n bytes from a place on
unfoldable pub piece : List ℕ → ℕ → ℕ → List ℕ
piece p start n = take n (drop start p)

-- bytes written at a place
unfoldable pub put : List ℕ → ℕ → List ℕ → List ℕ
put p start bytes = take start p ++ (bytes ++ drop (start + length bytes) p)

-- "bytes past the record keep their old values": what the copier leaves of the slot that it is lent
unfoldable pub copied : List ℕ → List ℕ → List ℕ
copied slot bytes = cond (leb (length bytes) (length slot)) (bytes ++ drop (length bytes) slot) slot

-- a record in the slot that begins at a place; nothing is written where the slot is not in the pool or the record is too long
unfoldable pub stored : List ℕ → ℕ → List ℕ → List ℕ
stored p start bytes = cond (leb (start + 1472) (length p)) (cond (leb (length bytes) 1472) (put p start bytes) p) p
