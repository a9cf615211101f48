-- The coalescing queue: the bytes of samples that give way or leave, the place that a search finds, and what stays within the limits. Assumes nothing.
-- Stays: what the clauses of `CoalescingQueue::with_limit_held`, `replace` and `join` cite; these are its own definitions.
use Rattle.std.proofs.Common.{◌≡◌, ℕ, zero, suc, List, [], ◌∷◌, length, get_or, slice_get, Bool, true, false, cond, ltb, None, Some, refl, arith}
use Rattle.queue.specs.Coalescing.{Coalescing, new_queue, made, length_of, leaving}
use Rattle.queue.specs.Entries.{no_keyed_entry}
use Rattle.queue.specs.Waiting.{limit_held, first, joins, pushed_out}
use Rattle.queue.proofs.Queues.{held_fits}
use Rattle.queue.specs.declared.entry.KeyedEntry.{KeyedEntry}
use Rattle.queue.specs.declared.fate.Fate.TheVariants.{Joined, PushedOut}

-- a limit that is held finds room
pub made_held : (limit : ℕ) → made 128 (limit_held 128 limit) ≡ Some (new_queue (limit_held 128 limit))
made_held limit = rw (held_fits 128 limit (omega arith) (omega arith)) refl

pub length_got : (xs : List KeyedEntry) (place : ℕ) → length_of (slice_get xs place) ≡ (get_or xs place no_keyed_entry).entry.length
length_got [] place = refl
length_got (x ∷ xs) zero = refl
length_got (x ∷ xs) (suc place) = length_got xs place

pub length_first : (xs : List KeyedEntry) → length_of (first xs) ≡ (get_or xs 0 no_keyed_entry).entry.length
length_first [] = refl
length_first (x ∷ xs) = refl

-- what a record that joins the tail pushes out
pub length_left : (q : Coalescing) → length_of (pushed_out q.waiting) ≡ leaving q (joins q.waiting)
unfolding joins
length_left q = go (ltb (length q.waiting.items) q.waiting.limit)
  where
    go : (t : Bool) → length_of (cond t None (first q.waiting.items)) ≡ leaving q (cond t Joined PushedOut)
    go true = refl
    go false = length_first q.waiting.items
