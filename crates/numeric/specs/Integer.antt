-- Numbers that stop at the largest value of their type. Definitions only.
use Rattle.std.specs.Prelude.{ℕ, ◌+◌, min}

-- at most the largest u64 or u32
abbrev pub up_to_u64 : ℕ → ℕ
up_to_u64 n = min n 18446744073709551615

abbrev pub up_to_u32 : ℕ → ℕ
up_to_u32 n = min n 4294967295

-- one more: a counter
abbrev pub next : ℕ → ℕ
next n = up_to_u64 (n + 1)

abbrev pub next_u32 : ℕ → ℕ
next_u32 n = up_to_u32 (n + 1)
