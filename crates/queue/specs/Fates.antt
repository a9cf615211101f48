-- What becomes of a record that is handed in. Definitions only.
use Rattle.std.specs.Prelude.{ℕ, Bool, true, false}
use Rattle.config.specs.Refusal.{accepted, queue_full}
use Rattle.queue.specs.declared.fate.Fate.{Fate}
use Rattle.queue.specs.declared.fate.Fate.TheVariants.{Full, Joined, PushedOut, Replaced}
use Rattle.queue.specs.declared.fate.Kept.{Kept}

abbrev pub is_full : Fate → Bool
is_full Full = true
is_full Joined = false
is_full PushedOut = false
is_full Replaced = false

-- the answer number of a hand-in, by what became of its record: 12 where the queue was full
abbrev pub fate_number : Fate → ℕ
fate_number Full = queue_full
fate_number Joined = accepted
fate_number PushedOut = accepted
fate_number Replaced = accepted

abbrev pub kept_as : Fate → ℕ → ℕ → Kept
kept_as fate slot sequence = record { fate = fate; slot = slot; sequence = sequence }

-- a record that is refused uses up its number and takes no slot
abbrev pub refused : ℕ → Kept
refused sequence = kept_as Full 0 sequence
