-- A processor used alone: it takes no times, so of the numbers only 17 may apply. Definitions only.
use Rattle.std.specs.Prelude.{ℕ, Bool}
use Rattle.config.specs.Alone.{answered}
use Rattle.config.specs.Ledger.{counted, counted_checks}
use Rattle.config.specs.Refusal.{verdict_of}
use Rattle.config.specs.declared.alone.Alone.{Alone}
use Rattle.config.specs.declared.alone.Left.{Left}
use Rattle.signals.specs.Ecn.{processed_tos, processed_ce}
use Rattle.signals.specs.declared.ecn.EcnProcessor.{EcnProcessor}

-- what a call answers and leaves, where q is what its step gives
abbrev pub answered_by : Alone EcnProcessor → EcnProcessor × Bool → Left (Alone EcnProcessor) Bool
answered_by a q = answered a (verdict_of (counted_checks a.ledger)) (counted a.ledger) q

unfoldable pub tos_alone : Alone EcnProcessor → ℕ → Left (Alone EcnProcessor) Bool
tos_alone a tos = answered_by a (processed_tos a.inner tos)

unfoldable pub ce_alone : Alone EcnProcessor → Left (Alone EcnProcessor) Bool
ce_alone a = answered_by a (processed_ce a.inner)
