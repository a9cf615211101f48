-- The first place at which a test holds. Assumes nothing.
-- Stays: what the searches of signals cite (Searches, Peers); std has no `first` of a test on numbers.
use Rattle.std.proofs.Common.{◌≡◌, ℕ, zero, suc, ◌<◌, ◌≤◌, Bool, true, false, arith}
use Rattle.numeric.specs.Search.{first}
use Rattle.numeric.proofs.Choice.{by_test}

-- a search ends below n or at n
pub first-most : (p : ℕ → Bool) (n : ℕ) → first p n ≤ n
unfolding first
first-most p zero = omega arith
first-most p (suc n) = by_test (λ (k : ℕ). k ≤ suc n) (p 0) (λ e. omega arith) (λ e. omega (arith, first-most (λ (k : ℕ). p (suc k)) n))

-- .. at a place that passes, where it ends below n
-- Stays: a law of signals cites it and the one after it (Peers).
pub first_found : (p : ℕ → Bool) (n : ℕ) → first p n < n → p (first p n) ≡ true
unfolding first
first_found p zero h = absurd (omega (arith, h))
first_found p (suc n) h =
    by_test (λ (k : ℕ). k < suc n → p k ≡ true) (p 0) (λ e l. e) (λ e l. first_found (λ (k : ℕ). p (suc k)) n (omega (arith, l))) h

-- .. and no place before it passes
-- Stays: as the one before it.
pub first-before : (p : ℕ → Bool) (n j : ℕ) → j < first p n → p j ≡ false
unfolding first
first-before p zero j h = absurd (omega (arith, h))
first-before p (suc n) zero h = by_test (λ (k : ℕ). 0 < k → p 0 ≡ false) (p 0) (λ e l. absurd (omega (arith, l))) (λ e l. e) h
first-before p (suc n) (suc j) h =
    by_test (λ (k : ℕ). suc j < k → p (suc j) ≡ false) (p 0) (λ e l. absurd (omega (arith, l)))
    (λ e l. first-before (λ (k : ℕ). p (suc k)) n j (omega (arith, l))) h
