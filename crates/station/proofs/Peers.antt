-- What the calls leave of the peers: a sample that finds the table full, and every call but a sample, leave them as they were. Assumes nothing.
-- Stays: what `Station::on_rtt_sample` and the run of a tape cite; std has nothing of stations.
use Rattle.std.proofs.Common.{◌≡◌, refl, ℕ, Bool, true, Float, Result, Ok, Err, arith}
use Rattle.std.proofs.lemmas.Grind.{common_steps}
use Rattle.config.specs.declared.alone.Left.{Left}
use Rattle.config.specs.declared.config.Priority.{Priority}
use Rattle.config.specs.declared.refusal.Refusal.{Refusal}
use Rattle.queue.specs.declared.entry.InstanceKey.{InstanceKey}
use Rattle.signals.proofs.Peers.{full-kept}
use Rattle.control.specs.Controller.{registered_in, sampled, CoreTicked, ticked_with, core_ticked, controller_set, full_for_peer}
use Rattle.control.specs.declared.controller.CongestionController.{CongestionController}
use Rattle.control.specs.declared.controller.ControllerConfig.{ControllerConfig}
use Rattle.station.specs.Station.{Station, left_by, register_leaves, registered_station, eagain_station, nacks_station, tos_station, tick_leaves, ticked_by, rated_station, handed_station, sent_station}

-- a controller whose table is full for a peer takes no sample of it
pub sampled_full :
    (x : CongestionController) (c : ControllerConfig) (time id : ℕ) (rtt : Float) → full_for_peer x c id ≡ true → sampled x c time id rtt ≡ x
unfolding full_for_peer sampled
sampled_full x c time id rtt e = grind (arith, common_steps, full-kept x.tracker time id rtt)

pub ruleset sample_steps = (common_steps, sampled_full)

-- ---- calls that leave the peers

left_kept :
    {T : Type 0} (v : Result Unit Refusal) (s : Station) (x : Left Station T) → x.state.controller.tracker ≡ s.controller.tracker
    → (left_by v s x).state.controller.tracker ≡ s.controller.tracker
unfolding left_by
left_kept (Ok u) s x e = e
left_kept (Err r) s x e = refl

module _ (s : Station) (time : ℕ) where
  pub register_kept : (id : ℕ) (class : Priority) → (registered_station s time id class).state.controller.tracker ≡ s.controller.tracker
  unfolding registered_station register_leaves registered_in
  register_kept id class = left_kept _ s _ refl

  pub eagain_kept : (eagain_station s time).state.controller.tracker ≡ s.controller.tracker
  unfolding eagain_station
  eagain_kept = left_kept _ s _ refl

  pub nacks_kept : (count : ℕ) → (nacks_station s time count).state.controller.tracker ≡ s.controller.tracker
  unfolding nacks_station
  nacks_kept count = left_kept _ s _ refl

  pub tos_kept : (tos : ℕ) → (tos_station s time tos).state.controller.tracker ≡ s.controller.tracker
  unfolding tos_station
  tos_kept tos = left_kept _ s _ refl

  -- whether a tick changed the rate or not
  leaves_kept : (k : CoreTicked) → (tick_leaves s time (ticked_with s.controller s.config.controller k)).state.controller.tracker ≡ s.controller.tracker
  leaves_kept k = grind (arith, common_steps)

  pub tick_kept : (inflated : Bool) → (ticked_by s time inflated).state.controller.tracker ≡ s.controller.tracker
  unfolding ticked_by
  tick_kept inflated = left_kept _ s _ (leaves_kept (core_ticked s.controller.core s.config.controller time inflated))

  pub rate_kept : (rate : ℕ) → (rated_station s time rate).state.controller.tracker ≡ s.controller.tracker
  unfolding rated_station controller_set
  rate_kept rate = left_kept _ s _ refl

  pub hand_in_kept :
      (bytes i : ℕ) (c : Priority) (key : InstanceKey) (n : ℕ)
      → (handed_station s bytes time i c key n).state.controller.tracker ≡ s.controller.tracker
  unfolding handed_station
  hand_in_kept bytes i c key n = left_kept _ s _ refl

  pub send_kept : (bytes i : ℕ) → (sent_station s bytes time i).state.controller.tracker ≡ s.controller.tracker
  unfolding sent_station
  send_kept bytes i = left_kept _ s _ refl

pub ruleset peers_kept = (register_kept, eagain_kept, nacks_kept, tos_kept, tick_kept, rate_kept, hand_in_kept, send_kept)
