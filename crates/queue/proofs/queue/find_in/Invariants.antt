use Rattle.std.proofs.Common.{◌≡◌, ◌-◌, ◌+◌, ◌≤◌, length, drop}
use Rattle.std.specs.List.{position_from}
use Rattle.queue.specs.Entries.{has_key}
use Rattle.queue.proofs.queue.find_in.Given as goal

-- what is still to be searched gives the answer
-- Stays: a `loop` has to be given its invariant.
abbrev pub invariant-loop-at : goal.invariant-loop-at
invariant-loop-at l =
    (l.at ≤ length l.entries) × (position_from (has_key l.key) (l.from + l.at) (drop l.at l.entries) ≡ position_from (has_key l.key) l.from l.entries)

-- Stays: a `loop` has to be given its measure.
abbrev pub decreases-loop-at : goal.decreases-loop-at
decreases-loop-at l = length l.entries - l.at
