-- Seconds and nanoseconds as Rust's Duration converts them. Definitions only.
use Rattle.std.specs.Prelude.{ℕ, ◌*◌, ◌/◌, ◌%◌, ◌^◌, true, false, cond, pos, from_bits, nat_lt, Float}
use Rattle.std.specs.Float.{nan, inf, fin, binary64}
use Rattle.std.specs.Float.Ieee.{up, down, of_int, add, div}
use Rattle.std.specs.Float.Ieee.Nearest.{closest}

-- `Duration::as_secs_f64` of n nanoseconds: the whole seconds as an f64, plus the rest as an f64 over 10^9 (0x41cdcd6500000000)
abbrev pub seconds_of : ℕ → Float
seconds_of n =
    add binary64 (of_int binary64 (pos (n / 1000000000)))
    (div binary64 (of_int binary64 (pos (n % 1000000000))) (from_bits binary64 0x41cd_cd65_0000_0000))

-- `Duration::from_secs_f64` ("nearest nanosecond, ties to even"): the whole number closest to the exact product with 10^9.
-- Outside Rust's range: 0 below zero and for a NaN. From 2^32 seconds on, the largest u64.
abbrev pub nanos_of : Float → ℕ
nanos_of nan = 0
nanos_of (inf s) = cond s 0 18446744073709551615
nanos_of (fin true m e) = 0
nanos_of (fin false m e) =
    cond (nat_lt (m * up e) (2 ^ 32 * down e)) (closest (m * up e * 1000000000) (down e)) 18446744073709551615
