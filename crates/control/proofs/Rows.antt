-- Laws of rows: one is carried on or back past row k, and left out. Assumes nothing.
-- Stays: what `put_row` and `drop_row` cite, and Writers beside this.
use Rattle.std.proofs.Common.{◌≡◌, ℕ, zero, suc, ◌+◌, ◌<◌, ◌≤◌, min, List, [], ◌∷◌, ◌++◌, get_or, set, take, drop, length, refl, ap, arith}
use Rattle.control.specs.BudgetAllocator.{lacking}

-- a list less its k-th element is what lies before it and what lies after it
pub lacking_is : {A : Type 0} (l : List A) (k : ℕ) → lacking l k ≡ take k l ++ drop (suc k) l
unfolding lacking
lacking_is [] zero = refl
lacking_is [] (suc k) = refl
lacking_is (x ∷ xs) zero = refl
lacking_is (x ∷ xs) (suc k) = ap (λ (r : List _). x ∷ r) (lacking_is xs k)

-- a carried element that is exchanged for row k now lies before row k + 1
pub carry_on : {A : Type 0} (l : List A) (k : ℕ) (c d : A) → k < length l →
    take (suc k) (set l k c) ++ (get_or l k d ∷ drop (suc k) (set l k c)) ≡ take k l ++ (c ∷ drop k l)
carry_on [] k c d lt = absurd (omega arith)
carry_on (x ∷ xs) zero c d lt = refl
carry_on (x ∷ xs) (suc k) c d lt = ap (λ (r : List _). x ∷ r) (carry_on xs k c d (omega arith))

-- one that lies before row k + 1 and is exchanged for row k lies before row k
pub carry_back : {A : Type 0} (l : List A) (k : ℕ) (c d : A) → k < length l →
    take k (set l k c) ++ (get_or l k d ∷ drop k (set l k c)) ≡ take (suc k) l ++ (c ∷ drop (suc k) l)
carry_back [] k c d lt = absurd (omega arith)
carry_back (x ∷ xs) zero c d lt = refl
carry_back (x ∷ xs) (suc k) c d lt = ap (λ (r : List _). x ∷ r) (carry_back xs k c d (omega arith))

-- without the carried element the rows are left, also where it lies after them all
pub lacking_carried : {A : Type 0} (l : List A) (k : ℕ) (c : A) (m : ℕ) → m ≡ min k (length l) → lacking (take k l ++ (c ∷ drop k l)) m ≡ l
unfolding lacking
lacking_carried l zero c zero e = refl
lacking_carried l zero c (suc m) e = absurd (omega (arith, e))
lacking_carried [] (suc k) c zero e = refl
lacking_carried [] (suc k) c (suc m) e = absurd (omega (arith, e))
lacking_carried (x ∷ xs) (suc k) c zero e = absurd (omega (arith, e))
lacking_carried (x ∷ xs) (suc k) c (suc m) e = ap (λ (r : List _). x ∷ r) (lacking_carried xs k c m (omega (arith, e)))

-- the first m rows with another before them, less the last of these, and the rows after them: all with the other first, less row m
carried-first : {A : Type 0} (l : List A) (m : ℕ) (c : A) → lacking (c ∷ take m l) m ++ drop m l ≡ lacking (c ∷ l) m
unfolding lacking
carried-first l zero c = refl
carried-first [] (suc m) c = refl
carried-first (x ∷ xs) (suc m) c = ap (λ (r : List _). c ∷ r) (carried-first xs m x)

-- the same of the m rows from row k on
pub rows_carried : {A : Type 0} (l : List A) (k m n : ℕ) (c : A) → k + m ≡ n → k ≤ length l →
    take k l ++ (lacking (c ∷ take m (drop k l)) m ++ drop m (drop k l)) ≡ lacking (take k l ++ (c ∷ drop k l)) n
unfolding lacking
rows_carried l zero m n c e le = let same : m ≡ n = omega (arith, e) in rw same (carried-first l n c)
rows_carried [] (suc k) m n c e le = absurd (omega (arith, le))
rows_carried (x ∷ xs) (suc k) m zero c e le = absurd (omega (arith, e))
rows_carried (x ∷ xs) (suc k) m (suc n) c e le =
    ap (λ (r : List _). x ∷ r) (rows_carried xs k m n c (omega (arith, e)) (omega (arith, le)))

-- one that is carried behind all rows stands last
pub carried_last : {A : Type 0} (l : List A) (n : ℕ) (c : A) → length l ≡ n → take n l ++ (c ∷ drop n l) ≡ l ++ (c ∷ [])
carried_last [] zero c e = refl
carried_last [] (suc n) c e = absurd (omega (arith, e))
carried_last (x ∷ xs) zero c e = absurd (omega (arith, e))
carried_last (x ∷ xs) (suc n) c e = ap (λ (r : List _). x ∷ r) (carried_last xs n c (omega (arith, e)))
