-- A tracker of up to 64 peers used alone: the numbers that may apply to each call, and what it answers and leaves. Definitions only.
use Rattle.std.specs.Prelude.{ℕ, List, ◌∷◌, Float, Result}
use Rattle.config.specs.Alone.{answered, made_or}
use Rattle.config.specs.Ledger.{moved}
use Rattle.config.specs.Refusal.{Check, when, verdict_of}
use Rattle.config.specs.declared.alone.Alone.{Alone}
use Rattle.config.specs.declared.alone.Left.{Left}
use Rattle.config.specs.declared.refusal.Refusal.{Refusal}
use Rattle.config.specs.declared.refusal.Refusal.TheVariants.{TableFull}
use Rattle.signals.specs.RttEstimator.{new_tracker, tracker_updated, full_for}
use Rattle.signals.specs.RttEstimatorAlone.{default_checks, sample_checks}
use Rattle.signals.specs.declared.rtt_estimator.PeerRttTracker.{PeerRttTracker}

unfoldable pub new_tracker_alone : Float → Result (Alone PeerRttTracker) Refusal
new_tracker_alone x = made_or (verdict_of (default_checks x)) 0 (new_tracker x)

-- 4, 7, 17, 11, and 14: the peer is new and the table full
abbrev pub peer_checks : Alone PeerRttTracker → ℕ → ℕ → Float → List Check
peer_checks a time id x = when TableFull (full_for a.inner id) ∷ sample_checks a.ledger time x

unfoldable pub tracker_updated_alone : Alone PeerRttTracker → ℕ → ℕ → Float → Left (Alone PeerRttTracker) Unit
tracker_updated_alone a time id x =
    answered a (verdict_of (peer_checks a time id x)) (moved a.ledger time) (tracker_updated a.inner time id x, tt)
