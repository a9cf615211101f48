-- The metrics that the controller's calls write (document 01, metrics.rs: "The fields that ported calls write"). Definitions only.
use Rattle.std.specs.Prelude.{ℕ, Bool, cond}
use Rattle.numeric.specs.Integer.{next}
use Rattle.control.specs.declared.metrics.CongestionMetrics.{CongestionMetrics}

abbrev pub metrics_of : ℕ → ℕ → ℕ → CongestionMetrics
metrics_of rate eagain ce = record { current_rate_bps = rate; eagain_total = eagain; ecn_ce_received = ce }

abbrev pub no_metrics : CongestionMetrics
no_metrics = metrics_of 0 0 0

abbrev pub rate_recorded : CongestionMetrics → ℕ → CongestionMetrics
rate_recorded m rate = metrics_of rate m.eagain_total m.ecn_ce_received

-- a rate is recorded where it changed
unfoldable pub change_recorded : CongestionMetrics → Bool → ℕ → CongestionMetrics
change_recorded m changed rate = cond changed (rate_recorded m rate) m

abbrev pub eagain_recorded : CongestionMetrics → CongestionMetrics
eagain_recorded m = metrics_of m.current_rate_bps (next m.eagain_total) m.ecn_ce_received

abbrev pub ce_recorded : CongestionMetrics → CongestionMetrics
ce_recorded m = metrics_of m.current_rate_bps m.eagain_total (next m.ecn_ce_received)
