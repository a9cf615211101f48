use Rattle.std.proofs.Common.{◌≡◌, Bool, arith, rules, tests}
use Rattle.std.proofs.lemmas.Iterator.{YieldsList-from_slice}
use Rattle.std.proofs.lemmas.Iterator.Search.{any_from_yields_List}
use Rattle.std.specs.List.{list_any}
use Rattle.signals.specs.RttEstimator.{any_inflated, inflated, known_of, peers_of, no_peer}
use Rattle.signals.specs.declared.rtt_estimator.Peer.{Peer}
use Rattle.signals.proofs.Searches.{any_first}
use Rattle.signals.proofs.rtt_estimator.PeerRttTracker.any_inflated.Goals as goal

-- Stays: the check doesn't join the run of `any` over the slice with `first`, which goes by index (`any_first`).
pub returns : goal.returns
unfolding any_inflated
returns c =
    let t = c.args.self.now in
    let high : Peer → Bool = λ (p : Peer). inflated p.estimator in
    let found : c.any.result ≡ list_any high (peers_of t) =
    any_from_yields_List high _ _ _ c.any.ensures.ran (YieldsList-from_slice _ cc) (λ x b q k. search (rules, tests)) in
    rw found (any_first high no_peer t.peers (known_of t.count) (omega arith))
