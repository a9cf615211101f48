-- The first place at which a test holds, as an iterator over the first n elements and a search by places find it. Assumes nothing.
-- Stays: what the answers of every search of a table cite, here and in `control`; std's `position` and `any` go by lists, and none of it by `first`.
use Rattle.std.proofs.Common.{◌≡◌, ℕ, zero, suc, ◌+◌, ◌<◌, ◌≤◌, Bool, true, false, List, [], ◌∷◌, ◌||◌, cond, get_or, take, length, refl, arith, nat_lt, length-take-le}
use Rattle.std.proofs.lemmas.Grind.{common_steps}
use Rattle.std.specs.List.{position, position_or_len, list_any}
use Rattle.std.specs.Option.{unwrap_or}
use Rattle.numeric.specs.Search.{first}
use Rattle.numeric.proofs.Search.{first-most, first_found, first-before}

-- the place of the first, or n where none is among them
place-first :
    {X : Type 0} (p : X → Bool) (d : X) (xs : List X) (n : ℕ) → n ≤ length xs → position_or_len p (take n xs) ≡ first (λ (k : ℕ). p (get_or xs k d)) n
unfolding first
place-first p d xs zero h = refl
place-first p d [] (suc n) h = absurd (omega (arith, h))
place-first p d (x ∷ xs) (suc n) h = grind (arith, place-first p d xs n)

pub position-first :
    {X : Type 0} (p : X → Bool) (d : X) (xs : List X) (n : ℕ) → n ≤ length xs
    → unwrap_or (position p (take n xs)) n ≡ first (λ (k : ℕ). p (get_or xs k d)) n
position-first p d xs n h =
    grind (arith, length-take-le n xs h, place-first p d xs n h, first-most (λ (k : ℕ). p (get_or xs k d)) n)

-- whether one is among them
pub any_first :
    {X : Type 0} (p : X → Bool) (d : X) (xs : List X) (n : ℕ) → n ≤ length xs → list_any p (take n xs) ≡ nat_lt (first (λ (k : ℕ). p (get_or xs k d)) n) n
unfolding first
any_first p d xs zero h = refl
any_first p d [] (suc n) h = absurd (omega (arith, h))
any_first p d (x ∷ xs) (suc n) h = go (p x) _ (any_first p d xs n (omega (arith, h)))
  where
    go : (b : Bool) {r : Bool} (k : ℕ) → r ≡ nat_lt k n → (b || r) ≡ nat_lt (cond b 0 (suc k)) (suc n)
    go true k e = grind arith
    go false k e = grind arith

-- ---- a search by places: none below a place passes

pub first_of_none : (p : ℕ → Bool) → first p 0 ≡ 0
unfolding first
first_of_none p = refl

pub none_more : (p : ℕ → Bool) (k : ℕ) → first p k ≡ k → p k ≡ false → first p (k + 1) ≡ k + 1
none_more p k none miss = grind (arith, first-most p (k + 1), first_found p (k + 1), first-before p k (first p (k + 1)))

pub none_of_four :
    (p : ℕ → Bool) (k : ℕ) → first p k ≡ k → (p k || (p (k + 1) || (p (k + 2) || p (k + 3)))) ≡ false → first p (k + 4) ≡ k + 4
none_of_four p k none miss =
    grind (arith, first-most p (k + 4), first_found p (k + 4), first-before p k (first p (k + 4)))

pub first_is : (p : ℕ → Bool) (n k : ℕ) → first p k ≡ k → p k ≡ true → k < n → first p n ≡ k
first_is p n k none hit below = grind (arith, first-most p n, first_found p n, first-before p k (first p n), first-before p n k)

pub ruleset place_steps = (common_steps, first_of_none, none_more, none_of_four, first_is)
