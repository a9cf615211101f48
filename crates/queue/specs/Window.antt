-- What a ring of slots holds, in the order of its queue, and the slots in which a list lies. Definitions only.
use Rattle.std.specs.Prelude.{ℕ, zero, suc, ◌≡◌, ◌+◌, ◌-◌, ◌%◌, cond, ltb, List, [], ◌∷◌, ◌++◌, length, take, drop, get_or}

-- n slots from slot h on, around a ring of the first L slots
abbrev pub window : {E : Type 0} → List E → ℕ → ℕ → ℕ → List E
window slots L h n = take n (drop h (take L slots) ++ take h slots)

-- what slot s holds, where these entries wait from slot h on, around a ring of the first L slots: a blank, if it is free
abbrev pub held_at : {E : Type 0} → E → ℕ → ℕ → List E → ℕ → E
held_at blank L h items s = cond (ltb s L) (get_or items ((s + (L - h)) % L) blank) blank

-- n slots from slot s on, by what each holds
unfoldable pub filled : {E : Type 0} → (ℕ → E) → ℕ → ℕ → List E
filled holds s zero = []
filled holds s (suc n) = holds s ∷ filled holds (s + 1) n

-- the N slots in which these entries wait
unfoldable pub laid : {E : Type 0} → E → ℕ → ℕ → ℕ → List E → List E
laid blank N L h items = filled (held_at blank L h items) 0 N

-- N slots are those in which the n entries from slot h on wait: each free slot holds a blank
pub record IsLaid {E : Type 0} (blank : E) (N L h n : ℕ) (slots : List E) : Type 0 where
  pub counted : length (window slots L h n) ≡ n
  pub again : laid blank N L h (window slots L h n) ≡ slots
