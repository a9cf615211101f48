-- A search from the first place on. Definitions only.
use Rattle.std.specs.Prelude.{ℕ, zero, suc, Bool, cond}

-- the least k below n with p k, or n where there is none
unfoldable pub first : (ℕ → Bool) → ℕ → ℕ
first p zero = zero
first p (suc n) = cond (p 0) 0 (suc (first (λ (k : ℕ). p (suc k)) n))
