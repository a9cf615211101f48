-- A queue as the list of what waits, oldest first, with the slot of the oldest and the number of slots. Definitions only.
use Rattle.std.specs.Prelude.{ℕ, ◌+◌, ◌%◌, min, max, Bool, cond, List, [], ◌∷◌, ◌++◌, length, drop, ltb, leb, ◌&&◌, set, Option, Some, None}
use Rattle.queue.specs.Fates.{kept_as}
use Rattle.queue.specs.declared.fate.Fate.{Fate}
use Rattle.queue.specs.declared.fate.Fate.TheVariants.{Joined, PushedOut}
use Rattle.queue.specs.declared.fate.Kept.{Kept}

pub record Waiting (E : Type 0) : Type 0 where
  pub items : List E
  pub head : ℕ
  pub limit : ℕ

abbrev pub waiting_of : {E : Type 0} → List E → ℕ → ℕ → Waiting E
waiting_of items head limit = record { items = items; head = head; limit = limit }

abbrev pub empty : {E : Type 0} → ℕ → Waiting E
empty limit = waiting_of [] 0 limit

-- whether a queue with room for N records can have this limit: 1 to N, and N at most 512
abbrev pub limit_fits : ℕ → ℕ → Bool
limit_fits N limit = leb 1 limit && leb limit N && leb N 512

-- a limit that a queue with room for N records has room for: another is held to 1 and N
abbrev pub limit_held : ℕ → ℕ → ℕ
limit_held N limit = min (max limit 1) N

abbrev pub made : {E : Type 0} → ℕ → ℕ → Option (Waiting E)
made N limit = cond (limit_fits N limit) (Some (empty limit)) None

-- empty again, with another limit, where there is room for it
abbrev pub restarted : {E : Type 0} → ℕ → ℕ → Waiting E → Waiting E
restarted N limit q = cond (limit_fits N limit) (empty limit) q

abbrev pub first : {E : Type 0} → List E → Option E
first [] = None
first (x ∷ xs) = Some x

-- the slot of the record so many places behind the oldest; a queue has at least one slot
abbrev pub slot_of : {E : Type 0} → Waiting E → ℕ → ℕ
slot_of q place = (q.head + place) % max 1 q.limit

abbrev pub has_room : {E : Type 0} → Waiting E → Bool
has_room q = ltb (length q.items) q.limit

-- the oldest leaves
abbrev pub popped : {E : Type 0} → Waiting E → Waiting E
popped q = waiting_of (drop 1 q.items) (slot_of q 1) q.limit

-- the oldest leaves, where one waits
abbrev pub popped_front : {E : Type 0} → Waiting E → Waiting E
popped_front q = cond (ltb 0 (length q.items)) (popped q) q

-- "A full ring pushes out its oldest": a full push is a pop and then an add
unfoldable pub roomy : {E : Type 0} → Waiting E → Waiting E
roomy q = cond (has_room q) q (popped q)

abbrev pub added : {E : Type 0} → Waiting E → E → Waiting E
added q x = waiting_of (q.items ++ (x ∷ [])) q.head q.limit

-- a record joins the tail
unfoldable pub joined : {E : Type 0} → Waiting E → E → Waiting E
joined q x = added (roomy q) x

-- the slot that the next record takes
unfoldable pub next_slot : {E : Type 0} → Waiting E → ℕ
next_slot q = slot_of (roomy q) (length (roomy q).items)

-- what becomes of a record that joins the tail
unfoldable pub joins : {E : Type 0} → Waiting E → Fate
joins q = cond (has_room q) Joined PushedOut

-- the record that it pushes out
abbrev pub pushed_out : {E : Type 0} → Waiting E → Option E
pushed_out q = cond (has_room q) None (first q.items)

-- where a record that joins the tail under this number is kept
abbrev pub kept_in : {E : Type 0} → Waiting E → ℕ → Kept
kept_in q sequence = kept_as (joins q) (next_slot q) sequence

-- another record in a place
abbrev pub exchanged : {E : Type 0} → Waiting E → ℕ → E → Waiting E
exchanged q place x = waiting_of (set q.items place x) q.head q.limit
