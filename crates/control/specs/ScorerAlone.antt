-- A scorer used alone: the reasons that may apply to each call, and what it leaves and answers. Definitions only.
use Rattle.std.specs.Prelude.{ℕ, Result}
use Rattle.config.specs.Alone.{answered, made_or}
use Rattle.config.specs.Config.{making_checks}
use Rattle.config.specs.Ledger.{counted, moved, counted_checks, timed_checks}
use Rattle.config.specs.Refusal.{verdict_of}
use Rattle.config.specs.declared.alone.Alone.{Alone}
use Rattle.config.specs.declared.alone.Left.{Left}
use Rattle.config.specs.declared.config.CongestionConfig.{CongestionConfig}
use Rattle.config.specs.declared.refusal.Refusal.{Refusal}
use Rattle.control.specs.Scorer.{scorer_config_of, new_scorer, on_eagain, on_rtt_inflated, on_nack, on_loss, Ticked, ticked}
use Rattle.control.specs.declared.scorer.CongestionAction.{CongestionAction}
use Rattle.control.specs.declared.scorer.CongestionScorer.{CongestionScorer}
use Rattle.control.specs.declared.scorer.ScorerConfig.{ScorerConfig}
use Rattle.control.specs.declared.scorer_alone.ConfiguredScorer.{ConfiguredScorer}

abbrev pub configured : ScorerConfig → CongestionScorer → ConfiguredScorer
configured c s = record { config = c; scorer = s }

-- 1, 2 and 7
unfoldable pub made_alone : CongestionConfig → ℕ → Result (Alone ConfiguredScorer) Refusal
made_alone c time = made_or (verdict_of (making_checks c time)) time (configured (scorer_config_of c) (new_scorer time))

-- a signal takes no time: of the reasons only 17 may apply
unfoldable pub noted_by : Alone ConfiguredScorer → CongestionScorer → Left (Alone ConfiguredScorer) Unit
noted_by a s =
    answered a (verdict_of (counted_checks a.ledger)) (counted a.ledger) (configured a.inner.config s, tt)

abbrev pub eagain_alone : Alone ConfiguredScorer → Left (Alone ConfiguredScorer) Unit
eagain_alone a = noted_by a (on_eagain a.inner.scorer)

abbrev pub inflated_alone : Alone ConfiguredScorer → Left (Alone ConfiguredScorer) Unit
inflated_alone a = noted_by a (on_rtt_inflated a.inner.scorer)

abbrev pub nack_alone : Alone ConfiguredScorer → Left (Alone ConfiguredScorer) Unit
nack_alone a = noted_by a (on_nack a.inner.scorer)

abbrev pub loss_alone : Alone ConfiguredScorer → Left (Alone ConfiguredScorer) Unit
loss_alone a = noted_by a (on_loss a.inner.scorer)

-- what the scorer after a tick is, beside its settings, and what it asks for
abbrev pub ticked_in : ScorerConfig → Ticked → ConfiguredScorer × CongestionAction
ticked_in c t = (configured c t.0, t.1)

-- 7, 17 and 11
unfoldable pub ticked_alone : Alone ConfiguredScorer → ℕ → Left (Alone ConfiguredScorer) CongestionAction
ticked_alone a time =
    answered a (verdict_of (timed_checks a.ledger time)) (moved a.ledger time)
    (ticked_in a.inner.config (ticked a.inner.scorer a.inner.config time))
