-- A step on each place of a list, one after the other. Assumes nothing.
-- Stays: what the loop of `Roster::budget_all` cites; std's `map_over_more` says it of `set`, here of the equations that a loop has.
use Rattle.std.proofs.Common.{◌≡◌, ℕ, ◌+◌, ◌<◌, List, ◌++◌, length, take, drop, map, get_or, set}
use Rattle.std.proofs.lemmas.List.Edits.{map_over_more}

pub written_over :
    {X : Type 0} (f : X → X) (xs ys : List X) (k : ℕ) (x y : X) → k < length xs → ys ≡ map f (take k xs) ++ drop k xs → x ≡ get_or ys k x
    → y ≡ f (get_or ys k x) → set ys k y ≡ map f (take (k + 1) xs) ++ drop (k + 1) xs
written_over f xs ys k x y inside so_far here stepped = rw (stepped, ← here) (map_over_more f xs ys k x inside so_far here)
