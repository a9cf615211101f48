-- A sample of a peer for whom there is no room leaves the controller as it was. Assumes nothing.
-- Stays: what `take_sample` of a controller used alone cites, which learns from the sample itself whether there was room.
use Rattle.std.proofs.Common.{◌≡◌, ℕ, true, Float, arith}
use Rattle.signals.proofs.Peers.{full-kept}
use Rattle.control.specs.Controller.{full_for_peer, sampled}
use Rattle.control.specs.declared.controller.CongestionController.{CongestionController}
use Rattle.control.specs.declared.controller.ControllerConfig.{ControllerConfig}

pub sample_kept : (x : CongestionController) (c : ControllerConfig) (time id : ℕ) (rtt : Float) → full_for_peer x c id ≡ true →
    sampled x c time id rtt ≡ x
unfolding full_for_peer sampled
sample_kept x c time id rtt full = grind (arith, full-kept x.tracker time id rtt)
