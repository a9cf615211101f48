use Prim.Native.Nat.{◌-◌, ◌≤◌}
use mathlib.Core.List.{◌++◌}
use mathlib.Core.Path.{◌≡◌}
use lib.ListN.{length, take, drop}
use Rattle.queue.proofs.pool.copy_record.Given as goal

abbrev pub invariant-loop-i : goal.invariant-loop-i
invariant-loop-i l = (l.i ≤ length l.sample) × ((l.slot ≡ take l.i l.sample ++ drop l.i l.initial.slot) × (length l.slot ≡ length l.initial.slot))

abbrev pub decreases-loop-i : goal.decreases-loop-i
decreases-loop-i l = length l.sample - l.i
