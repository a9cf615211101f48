-- Explicit congestion notification (RFC 3168). Definitions only.
use Rattle.std.specs.Prelude.{ℕ, ◌%◌, Bool, true, false, cond, leb, eqb, pos}
use Rattle.std.specs.Float.{binary64}
use Rattle.std.specs.Float.Ieee.{of_int, of_bits, div, le}
use Rattle.numeric.specs.Integer.{next, next_u32 as next_in_window}
use Rattle.signals.specs.declared.ecn.EcnCodepoint.{EcnCodepoint}
use Rattle.signals.specs.declared.ecn.EcnCodepoint.TheVariants.{NotEct, Ect1, Ect0, Ce}
use Rattle.signals.specs.declared.ecn.EcnProcessor.{EcnProcessor}
use Rattle.signals.specs.declared.ecn.EcnStats.{EcnStats}

-- RFC 3168, section 5, figure 1: the two low bits are 00 Not-ECT, 01 ECT(1), 10 ECT(0), 11 CE
abbrev pub codepoint_of : ℕ → EcnCodepoint
codepoint_of tos =
    cond (eqb (tos % 4) 0) NotEct (cond (eqb (tos % 4) 1) Ect1 (cond (eqb (tos % 4) 2) Ect0 Ce))

abbrev pub tos_of : EcnCodepoint → ℕ
tos_of NotEct = 0
tos_of Ect1 = 1
tos_of Ect0 = 2
tos_of Ce = 3

-- ECN-capable transport: ECT(0) or ECT(1)
abbrev pub is_ect : EcnCodepoint → Bool
is_ect NotEct = false
is_ect Ect1 = true
is_ect Ect0 = true
is_ect Ce = false

-- congestion experienced
abbrev pub is_ce : EcnCodepoint → Bool
is_ce NotEct = false
is_ce Ect1 = false
is_ce Ect0 = false
is_ce Ce = true

abbrev pub stats_of : ℕ → ℕ → ℕ → ℕ → ℕ → ℕ → EcnStats
stats_of packets ect0 ect1 ce not-ect answered =
    record {
      packets_received = packets;
      ect0_received = ect0;
      ect1_received = ect1;
      ce_received = ce;
      not_ect_received = not-ect;
      ce_responded = answered;
    }

abbrev pub no_stats : EcnStats
no_stats = stats_of 0 0 0 0 0 0

-- a packet counts once in all, and once under its codepoint
unfoldable pub recorded : EcnStats → EcnCodepoint → EcnStats
recorded s NotEct = stats_of (next s.packets_received) s.ect0_received s.ect1_received s.ce_received (next s.not_ect_received) s.ce_responded
recorded s Ect1 = stats_of (next s.packets_received) s.ect0_received (next s.ect1_received) s.ce_received s.not_ect_received s.ce_responded
recorded s Ect0 = stats_of (next s.packets_received) (next s.ect0_received) s.ect1_received s.ce_received s.not_ect_received s.ce_responded
recorded s Ce = stats_of (next s.packets_received) s.ect0_received s.ect1_received (next s.ce_received) s.not_ect_received s.ce_responded

unfoldable pub responded : EcnStats → EcnStats
responded s = stats_of s.packets_received s.ect0_received s.ect1_received s.ce_received s.not_ect_received (next s.ce_responded)

abbrev pub processor_of : EcnStats → ℕ → ℕ → EcnProcessor
processor_of stats ce packets = record { stats = stats; ce_in_window = ce; packets_in_window = packets }

abbrev pub new_processor : EcnProcessor
new_processor = processor_of no_stats 0 0

-- "Not-ECT counts in no window"; a mark counts among the packets of the window too
unfoldable pub counted : EcnProcessor → EcnCodepoint → EcnProcessor
counted p c =
    cond (is_ce c)
    (processor_of (recorded p.stats c) (next_in_window p.ce_in_window) (next_in_window p.packets_in_window))
    (cond (is_ect c)
    (processor_of (recorded p.stats c) p.ce_in_window (next_in_window p.packets_in_window))
    (processor_of (recorded p.stats c) p.ce_in_window p.packets_in_window))

-- "A window of 100 signals when CE/packets, in f64, is at least 0.01" (0x3f847ae147ae147b)
unfoldable pub window_signals : EcnProcessor → Bool
window_signals p =
    le (of_bits binary64 0x3f84_7ae1_47ae_147b)
    (div binary64 (of_int binary64 (pos p.ce_in_window)) (of_int binary64 (pos p.packets_in_window)))

-- what a step leaves, and whether congestion is to be signalled
unfoldable pub closed : EcnProcessor → EcnProcessor × Bool
closed p =
    cond (window_signals p) (processor_of (responded p.stats) 0 0, true) (processor_of p.stats 0 0, false)

-- a window of 100 packets is full
abbrev pub judged : EcnProcessor → EcnProcessor × Bool
judged p = cond (leb 100 p.packets_in_window) (closed p) (p, false)

unfoldable pub processed_tos : EcnProcessor → ℕ → EcnProcessor × Bool
processed_tos p tos = judged (counted p (codepoint_of tos))

unfoldable pub processed_ce : EcnProcessor → EcnProcessor × Bool
processed_ce p = (processor_of (responded (recorded p.stats Ce)) p.ce_in_window p.packets_in_window, true)
