-- The laws of a ring's window: what a place holds, and what pops, joins and exchanges do to the list. Assumes nothing.
-- Stays: what Queues and Rings cite; std has none of rings.
use Rattle.std.proofs.Common.{◌≡◌, ◌≢◌, ◌⊎◌, ℕ, ◌+◌, ◌-◌, ◌/◌, ◌%◌, ◌<◌, ◌≤◌, min, List, [], ◌∷◌, ◌++◌, length, get_or, set, take, drop, refl, sym, ap, ◌∙◌, inl, inr, arith, mod-lt, mod-eq_of_lt, div-add-mod', mul-le-mul_right}
use native.Mathlib.Nat.{mod-add-mod, mod-eq-sub-mod}
use Rattle.std.proofs.lemmas.Bool.{cases_eq, cases_lt}
use Rattle.std.proofs.lemmas.List.{same_lists, length-take-le, length-drop, length-set, length-append, get_or-take, get_or-drop, get_or_append_left, get_or-append_right, get_or-set_same, get_or-set_other}
use Rattle.queue.specs.Window.{window}

-- two places less than L apart have different slots
pub places_apart : (L a b : ℕ) → a < b → b < a + L → a % L ≡ b % L → ⊥
places_apart L a b lo hi e = go (cases_lt (a / L) (b / L))
  where
    go : (a / L < b / L) ⊎ (b / L ≤ a / L) → ⊥
    go (inl q) = omega (arith, div-add-mod' a L, div-add-mod' b L, mul-le-mul_right L q)
    go (inr q) = omega (arith, div-add-mod' a L, div-add-mod' b L, mul-le-mul_right L q)

module _ {E : Type 0} where
  length_ring : (slots : List E) (L h : ℕ) → h < L → L ≤ length slots → length (drop h (take L slots) ++ take h slots) ≡ L
  length_ring slots L h head fits =
      length-append (drop h (take L slots)) (take h slots)
      ∙ omega (arith, length-drop h (take L slots), length-take-le L slots fits, length-take-le h slots (omega arith))

  pub length_window : (slots : List E) (L h n : ℕ) → h < L → n ≤ L → L ≤ length slots → length (window slots L h n) ≡ n
  length_window slots L h n head room fits = length-take-le n (drop h (take L slots) ++ take h slots) (omega (arith, length_ring slots L h head fits))

  -- what waits in a place
  pub window_at :
      (slots : List E) (L h n k : ℕ) (d : E) → h < L → k < n → n ≤ L → L ≤ length slots
      → get_or (window slots L h n) k d ≡ get_or slots ((h + k) % L) d
  window_at slots L h n k d head inside room fits =
      get_or-take n (drop h (take L slots) ++ take h slots) k d inside ∙ go (cases_lt (h + k) L)
    where
      long : length (drop h (take L slots)) ≡ L - h
      long = length-drop h (take L slots) ∙ ap (λ (x : ℕ). x - h) (length-take-le L slots fits)

      go : (h + k < L) ⊎ (L ≤ h + k) → get_or (drop h (take L slots) ++ take h slots) k d ≡ get_or slots ((h + k) % L) d
      go (inl low) =
          get_or_append_left (drop h (take L slots)) (take h slots) d k (omega (arith, long))
          ∙ get_or-drop h (take L slots) k d
          ∙ get_or-take L slots (h + k) d low
          ∙ ap (λ (s : ℕ). get_or slots s d) (sym (mod-eq_of_lt low))
      go (inr high) =
          let around : h + k - L < L = omega arith in
          let same : h + k - L ≡ k - (L - h) = omega arith in
          get_or-append_right (drop h (take L slots)) (take h slots) (L - h) k d long (omega arith)
          ∙ get_or-take h slots (k - (L - h)) d (omega arith)
          ∙ ap (λ (s : ℕ). get_or slots s d) (sym (mod-eq-sub-mod high ∙ mod-eq_of_lt around ∙ same))

  -- the oldest leaves
  pub window_popped :
      (slots : List E) (L h n : ℕ) → h < L → n ≤ L → L ≤ length slots → window slots L ((h + 1) % L) (n - 1) ≡ drop 1 (window slots L h n)
  window_popped slots L h n head room fits =
      let some : 0 < L = omega arith in
      let next : (h + 1) % L < L = mod-lt (h + 1) some in
      let shorter : length (window slots L ((h + 1) % L) (n - 1)) ≡ n - 1 = length_window slots L ((h + 1) % L) (n - 1) next (omega arith) fits in
      same_lists (window slots L ((h + 1) % L) (n - 1)) (drop 1 (window slots L h n))
      (omega (arith, shorter, length-drop 1 (window slots L h n), length_window slots L h n head room fits))
      (λ k d inside. place next k d (omega (arith, shorter)))
    where
      place :
          (h + 1) % L < L → (k : ℕ) (d : E) → k < n - 1
          → get_or (window slots L ((h + 1) % L) (n - 1)) k d ≡ get_or (drop 1 (window slots L h n)) k d
      place next k d inside =
          let same : h + 1 + k ≡ h + (1 + k) = omega arith in
          window_at slots L ((h + 1) % L) (n - 1) k d next inside (omega arith) fits
          ∙ ap (λ (s : ℕ). get_or slots s d) (mod-add-mod (h + 1) L k ∙ ap (λ (x : ℕ). x % L) same)
          ∙ sym (get_or-drop 1 (window slots L h n) k d ∙ window_at slots L h n (1 + k) d head (omega arith) room fits)

  -- one joins in the slot after the last
  pub window_joined :
      (slots : List E) (L h n : ℕ) (x : E) → h < L → n < L → L ≤ length slots
      → window (set slots ((h + n) % L) x) L h (n + 1) ≡ window slots L h n ++ (x ∷ [])
  window_joined slots L h n x head room fits =
      let longer : length (window (set slots ((h + n) % L) x) L h (n + 1)) ≡ n + 1 = length_window (set slots ((h + n) % L) x) L h (n + 1) head (omega arith) fits_set in
      same_lists (window (set slots ((h + n) % L) x) L h (n + 1)) (window slots L h n ++ (x ∷ []))
      (omega (arith, longer, length-append (window slots L h n) (x ∷ []), before))
      (λ k d inside. place k d (omega (arith, longer)))
    where
      fits_set : L ≤ length (set slots ((h + n) % L) x)
      fits_set = omega (arith, length-set slots ((h + n) % L) x)

      before : length (window slots L h n) ≡ n
      before = length_window slots L h n head (omega arith) fits

      go : (k : ℕ) (d : E) → (k < n) ⊎ (n ≤ k) → k < n + 1 → get_or (set slots ((h + n) % L) x) ((h + k) % L) d ≡ get_or (window slots L h n ++ (x ∷ [])) k d
      go k d (inl low) inside =
          get_or-set_other slots ((h + n) % L) ((h + k) % L) x d (places_apart L (h + k) (h + n) (omega arith) (omega arith))
          ∙ sym (get_or_append_left (window slots L h n) (x ∷ []) d k (omega (arith, before)) ∙ window_at slots L h n k d head low (omega arith) fits)
      go k d (inr high) inside =
          let last : k ≡ n = omega arith in
          let some : 0 < L = omega arith in
          let slot : (h + n) % L < L = mod-lt (h + n) some in
          let zero : k - n ≡ 0 = omega arith in
          ap (λ (j : ℕ). get_or (set slots ((h + n) % L) x) ((h + j) % L) d) last
          ∙ get_or-set_same slots ((h + n) % L) x d (omega arith)
          ∙ sym (get_or-append_right (window slots L h n) (x ∷ []) n k d before high ∙ ap (λ (j : ℕ). get_or (x ∷ []) j d) zero)

      place : (k : ℕ) (d : E) → k < n + 1 → get_or (window (set slots ((h + n) % L) x) L h (n + 1)) k d ≡ get_or (window slots L h n ++ (x ∷ [])) k d
      place k d inside =
          window_at (set slots ((h + n) % L) x) L h (n + 1) k d head inside (omega arith) fits_set ∙ go k d (cases_lt k n) inside

  -- one joins a full ring in the slot of the oldest, which leaves
  pub window_pushed_out :
      (slots : List E) (L h : ℕ) (x : E) → h < L → L ≤ length slots
      → window (set slots h x) L ((h + 1) % L) L ≡ drop 1 (window slots L h L) ++ (x ∷ [])
  window_pushed_out slots L h x head fits =
      let some : 0 < L = omega arith in
      let next : (h + 1) % L < L = mod-lt (h + 1) some in
      let same : h + 1 + (L - 1) ≡ h + L = omega arith in
      let around : ((h + 1) % L + (L - 1)) % L ≡ h = mod-add-mod (h + 1) L (L - 1) ∙ ap (λ (a : ℕ). a % L) same ∙ turned in
      let all : L - 1 + 1 ≡ L = omega arith in
      let less : L - 1 < L = omega arith in
      ap (λ (s : ℕ). window (set slots s x) L ((h + 1) % L) L) (sym around)
      ∙ ap (λ (n : ℕ). window (set slots (((h + 1) % L + (L - 1)) % L) x) L ((h + 1) % L) n) (sym all)
      ∙ window_joined slots L ((h + 1) % L) (L - 1) x next less fits
      ∙ ap (λ (xs : List E). xs ++ (x ∷ [])) (window_popped slots L h L head (omega arith) fits)
    where
      turned : (h + L) % L ≡ h
      turned = let back : h + L - L ≡ h = omega arith in let high : L ≤ h + L = omega arith in mod-eq-sub-mod high ∙ ap (λ (a : ℕ). a % L) back ∙ mod-eq_of_lt head

  -- another in a place
  pub window_exchanged :
      (slots : List E) (L h n i : ℕ) (x : E) → h < L → i < n → n ≤ L → L ≤ length slots
      → window (set slots ((h + i) % L) x) L h n ≡ set (window slots L h n) i x
  window_exchanged slots L h n i x head within room fits =
      same_lists (window (set slots ((h + i) % L) x) L h n) (set (window slots L h n) i x)
      (after ∙ sym (length-set (window slots L h n) i x ∙ before))
      (λ k d inside. place k d (omega (arith, after)))
    where
      fits_set : L ≤ length (set slots ((h + i) % L) x)
      fits_set = omega (arith, length-set slots ((h + i) % L) x)

      before : length (window slots L h n) ≡ n
      before = length_window slots L h n head room fits

      after : length (window (set slots ((h + i) % L) x) L h n) ≡ n
      after = length_window (set slots ((h + i) % L) x) L h n head room fits_set

      apart : (k : ℕ) → k < n → k ≢ i → (h + k) % L ≢ (h + i) % L
      apart k inside away same = beside (cases_lt k i)
        where
          beside : (k < i) ⊎ (i ≤ k) → ⊥
          beside (inl low) = places_apart L (h + k) (h + i) (omega arith) (omega arith) same
          beside (inr high) = let above : i < k = omega arith in places_apart L (h + i) (h + k) (omega arith) (omega arith) (sym same)

      go : (k : ℕ) (d : E) → k < n → (k ≡ i) ⊎ (k ≢ i) → get_or (set slots ((h + i) % L) x) ((h + k) % L) d ≡ get_or (set (window slots L h n) i x) k d
      go k d inside (inl here) =
          let some : 0 < L = omega arith in
          let slot : (h + i) % L < L = mod-lt (h + i) some in
          ap (λ (j : ℕ). get_or (set slots ((h + i) % L) x) ((h + j) % L) d) here
          ∙ get_or-set_same slots ((h + i) % L) x d (omega arith)
          ∙ sym (ap (λ (j : ℕ). get_or (set (window slots L h n) i x) j d) here ∙ get_or-set_same (window slots L h n) i x d (omega (arith, before)))
      go k d inside (inr away) =
          get_or-set_other slots ((h + i) % L) ((h + k) % L) x d (apart k inside away)
          ∙ sym (get_or-set_other (window slots L h n) i k x d away ∙ window_at slots L h n k d head inside room fits)

      place : (k : ℕ) (d : E) → k < n → get_or (window (set slots ((h + i) % L) x) L h n) k d ≡ get_or (set (window slots L h n) i x) k d
      place k d inside = window_at (set slots ((h + i) % L) x) L h n k d head inside room fits_set ∙ go k d inside (cases_eq k i)

  -- the oldest leaves, and its slot is written
  pub window_left :
      (slots : List E) (L h n : ℕ) (x : E) → h < L → 0 < n → n ≤ L → L ≤ length slots
      → window (set slots h x) L ((h + 1) % L) (n - 1) ≡ drop 1 (window slots L h n)
  window_left slots L h n x head some room fits =
      window_popped (set slots h x) L h n head room fits_set
      ∙ ap (λ (s : ℕ). drop 1 (window (set slots s x) L h n)) (sym here)
      ∙ ap (λ (xs : List E). drop 1 xs) (window_exchanged slots L h n 0 x head some room fits)
      ∙ behind_first (window slots L h n)
    where
      fits_set : L ≤ length (set slots h x)
      fits_set = omega (arith, length-set slots h x)

      here : (h + 0) % L ≡ h
      here = let same : h + 0 ≡ h = omega arith in ap (λ (a : ℕ). a % L) same ∙ mod-eq_of_lt head

      behind_first : (xs : List E) → drop 1 (set xs 0 x) ≡ drop 1 xs
      behind_first [] = refl
      behind_first (y ∷ ys) = refl

  -- the slots up to the ring's end, then those from its start on
  pub window_parts :
      (slots : List E) (L h n : ℕ) → h < L → n ≤ L → L ≤ length slots
      → window slots L h n ≡ take (min n (L - h)) (drop h slots) ++ take (n - min n (L - h)) slots
  window_parts slots L h n head room fits =
      same_lists (window slots L h n) (take m (drop h slots) ++ take (n - m) slots)
      (length_window slots L h n head room fits ∙ sym all)
      (λ k d inside. window_at slots L h n k d head (within k inside) room fits ∙ go k d (within k inside) (cases_lt k m))
    where
      m : ℕ
      m = min n (L - h)

      first : length (take m (drop h slots)) ≡ m
      first = length-take-le m (drop h slots) (omega (arith, length-drop h slots))

      rest : length (take (n - m) slots) ≡ n - m
      rest = length-take-le (n - m) slots (omega arith)

      all : length (take m (drop h slots) ++ take (n - m) slots) ≡ n
      all = length-append (take m (drop h slots)) (take (n - m) slots) ∙ omega (arith, first, rest)

      within : (k : ℕ) → k < length (window slots L h n) → k < n
      within k inside = omega (arith, length_window slots L h n head room fits)

      go :
          (k : ℕ) (d : E) → k < n → (k < m) ⊎ (m ≤ k)
          → get_or slots ((h + k) % L) d ≡ get_or (take m (drop h slots) ++ take (n - m) slots) k d
      go k d inside (inl low) =
          let straight : h + k < L = omega arith in
          ap (λ (s : ℕ). get_or slots s d) (mod-eq_of_lt straight)
          ∙ sym
          (get_or_append_left (take m (drop h slots)) (take (n - m) slots) d k (omega (arith, first))
          ∙ get_or-take m (drop h slots) k d low
          ∙ get_or-drop h slots k d)
      go k d inside (inr high) =
          let turned : L ≤ h + k = omega arith in
          let around : h + k - L < L = omega arith in
          let same : h + k - L ≡ k - m = omega arith in
          ap (λ (s : ℕ). get_or slots s d) (mod-eq-sub-mod turned ∙ mod-eq_of_lt around ∙ same)
          ∙ sym
          (get_or-append_right (take m (drop h slots)) (take (n - m) slots) m k d first high
          ∙ get_or-take (n - m) slots (k - m) d (omega arith))
