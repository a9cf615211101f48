use Rattle.std.proofs.Common.{◌≡◌, ◌<◌, true, sym, arith}
use Rattle.std.proofs.lemmas.Grind.{common_steps}
use Rattle.signals.specs.RttEstimator.{is_at, place_of, known_of}
use Rattle.signals.proofs.Searches.{first_is}
use Rattle.signals.proofs.rtt_estimator.PeerRttTracker.place_of.Goals as goal

-- Stays: the check doesn't find which test `first_is` is of.
pub returns-else-self-place : goal.returns-else-self-place
unfolding place_of
returns-else-self-place c =
    let t = c.args.self.now in
    let k = c.loop-place.place in
    let hit : is_at t c.args.peer_id k ≡ true = grind (arith, common_steps) in
    let below : k < known_of t.count = grind (arith, common_steps) in
    sym (first_is (is_at t c.args.peer_id) (known_of t.count) k c.loop-place.invariant.none hit below)
