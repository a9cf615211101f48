use Rattle.std.proofs.Common.{◌≡◌, ◌-◌, ◌≤◌}
use Rattle.numeric.specs.Search.{first}
use Rattle.signals.specs.RttEstimator.{is_at}
use Rattle.signals.proofs.rtt_estimator.PeerRttTracker.place_of.Given as goal

-- as in `passed_over`
-- Stays: the check asks for the loop's invariant and finds none.
abbrev pub invariant-loop-place : goal.invariant-loop-place
invariant-loop-place l = record {
  inside : l.place ≤ l.n;
  none : first (is_at l.self l.peer_id) l.place ≡ l.place;
}

abbrev pub decreases-loop-place : goal.decreases-loop-place
decreases-loop-place l = l.n - l.place
