-- A queue's free slots are blank, and stay so; so what waits says what all slots hold. Assumes nothing.
-- Stays: what the clauses of `Queue` cite; std has none of rings.
use Rattle.std.proofs.Common.{◌≡◌, ◌≢◌, ◌⊎◌, ℕ, zero, suc, ◌+◌, ◌-◌, ◌%◌, ◌<◌, ◌≤◌, max, List, [], ◌∷◌, length, get_or, set, replicate, refl, sym, ap, ap₂, subst, ◌∙◌, inl, inr, arith, mod-lt, mod-eq_of_lt, lt-ltb, le-ltb}
use native.Mathlib.Nat.{mod-add-mod, mod-eq-sub-mod}
use Rattle.std.proofs.lemmas.Bool.{cases_eq, cases_lt}
use Rattle.std.proofs.lemmas.List.{length-replicate, length-set, get_or_past, get_or-replicate, get_or-set_same, get_or-set_other}
use Rattle.queue.specs.Waiting.{Waiting, waiting_of, slot_of}
use Rattle.queue.specs.Window.{window, held_at, filled, laid, IsLaid}
use Rattle.queue.proofs.Windows.{places_apart, length_window, window_at}

-- once around the ring
around : (L a : ℕ) → a < L → (a + L) % L ≡ a
around L a inside =
    let high : L ≤ a + L = omega arith in
    let back : a + L - L ≡ a = omega arith in
    mod-eq-sub-mod high ∙ ap (λ (x : ℕ). x % L) back ∙ mod-eq_of_lt inside

-- the slot of a slot's place, and the place of a place's slot
slot_again : (L h s : ℕ) → h < L → s < L → (h + (s + (L - h)) % L) % L ≡ s
slot_again L h s head inside =
    let turned : h + (s + (L - h)) % L ≡ (s + (L - h)) % L + h = omega arith in
    let whole : s + (L - h) + h ≡ s + L = omega arith in
    ap (λ (a : ℕ). a % L) turned ∙ mod-add-mod (s + (L - h)) L h ∙ ap (λ (a : ℕ). a % L) whole ∙ around L s inside

place_again : (L h k : ℕ) → h < L → k < L → ((h + k) % L + (L - h)) % L ≡ k
place_again L h k head inside =
    let whole : h + k + (L - h) ≡ k + L = omega arith in
    mod-add-mod (h + k) L (L - h) ∙ ap (λ (a : ℕ). a % L) whole ∙ around L k inside

module _ {E : Type 0} where
  -- ---- slots filled one by one

  length_filled : (holds : ℕ → E) (s n : ℕ) → length (filled holds s n) ≡ n
  unfolding filled
  length_filled holds s zero = refl
  length_filled holds s (suc n) = ap suc (length_filled holds (s + 1) n)

  filled_at : (holds : ℕ → E) (b : E) (n s k : ℕ) → k < n → get_or (filled holds s n) k b ≡ holds (s + k)
  unfolding filled
  filled_at holds b zero s k inside = absurd (omega arith)
  filled_at holds b (suc n) s zero inside = let here : s ≡ s + 0 = omega arith in ap holds here
  filled_at holds b (suc n) s (suc k) inside =
      let same : s + 1 + k ≡ s + suc k = omega arith in filled_at holds b n (s + 1) k (omega arith) ∙ ap holds same

  filled_is :
      (holds : ℕ → E) (b : E) (xs : List E) (s : ℕ) → ((k : ℕ) → k < length xs → holds (s + k) ≡ get_or xs k b)
      → filled holds s (length xs) ≡ xs
  unfolding filled
  filled_is holds b [] s each = refl
  filled_is holds b (x ∷ xs) s each =
      let here : s ≡ s + 0 = omega arith in
      ap₂ (λ (y : E) (ys : List E). y ∷ ys) (ap holds here ∙ each 0 (omega arith)) (filled_is holds b xs (s + 1) next)
    where
      next : (k : ℕ) → k < length xs → holds (s + 1 + k) ≡ get_or xs k b
      next k inside = let same : s + 1 + k ≡ s + suc k = omega arith in ap holds same ∙ each (suc k) (omega arith)

  -- ---- blank slots

  blank_among : (n s : ℕ) (b : E) → get_or (replicate n b) s b ≡ b
  blank_among n s b = go (cases_lt s n)
    where
      go : (s < n) ⊎ (n ≤ s) → get_or (replicate n b) s b ≡ b
      go (inl inside) = get_or-replicate n s b b inside
      go (inr past) = get_or_past (replicate n b) s b (omega (arith, length-replicate n b))

  -- a slot that is blank, or that a blank is written to
  blank_set : (xs : List E) (i s : ℕ) (b : E) → (s ≢ i → get_or xs s b ≡ b) → get_or (set xs i b) s b ≡ b
  blank_set xs i s b before = go (cases_eq s i)
    where
      at : (i < length xs) ⊎ (length xs ≤ i) → get_or (set xs i b) i b ≡ b
      at (inl inside) = get_or-set_same xs i b b inside
      at (inr past) = get_or_past (set xs i b) i b (omega (arith, length-set xs i b))

      go : (s ≡ i) ⊎ (s ≢ i) → get_or (set xs i b) s b ≡ b
      go (inl here) = ap (λ (j : ℕ). get_or (set xs i b) j b) here ∙ at (cases_lt i (length xs))
      go (inr away) = get_or-set_other xs i s b b away ∙ before away

  -- of N slots those in which nothing waits are blank: in the ring of the first L those from place n on, and all behind the ring
  record FreeAreBlank (b : E) (N L h n : ℕ) (slots : List E) : Type 0 where
    all : length slots ≡ N
    in_ring : (k : ℕ) → n ≤ k → k < L → get_or slots ((h + k) % L) b ≡ b
    behind : (s : ℕ) → L ≤ s → get_or slots s b ≡ b

  -- with each free slot blank, what waits says what all slots hold
  laid_of_free : (b : E) (slots : List E) (N L h n : ℕ) → h < L → n ≤ L → L ≤ N → FreeAreBlank b N L h n slots → IsLaid b N L h n slots
  unfolding laid
  laid_of_free b slots N L h n head room wide free =
      record {
        counted = counted;
        again =
            ap (λ (m : ℕ). filled (held_at b L h (window slots L h n)) 0 m) (sym free.all)
            ∙ filled_is (held_at b L h (window slots L h n)) b slots 0 (λ s inside. from_0 s ∙ held s (cases_lt s L));
      }
    where
      from_0 : (s : ℕ) → held_at b L h (window slots L h n) (0 + s) ≡ held_at b L h (window slots L h n) s
      from_0 s = let same : 0 + s ≡ s = omega arith in ap (held_at b L h (window slots L h n)) same

      fits : L ≤ length slots
      fits = omega (arith, free.all)

      counted : length (window slots L h n) ≡ n
      counted = length_window slots L h n head room fits

      in_turn : (s k : ℕ) → k < L → (h + k) % L ≡ s → (k < n) ⊎ (n ≤ k) → get_or (window slots L h n) k b ≡ get_or slots s b
      in_turn s k inside e (inl waits) = window_at slots L h n k b head waits room fits ∙ ap (λ (t : ℕ). get_or slots t b) e
      in_turn s k inside e (inr past) =
          get_or_past (window slots L h n) k b (omega (arith, counted)) ∙ sym (free.in_ring k past inside) ∙ ap (λ (t : ℕ). get_or slots t b) e

      held : (s : ℕ) → (s < L) ⊎ (L ≤ s) → held_at b L h (window slots L h n) s ≡ get_or slots s b
      held s (inl inside) =
          let some : 0 < L = omega arith in
          rw (lt-ltb s L inside)
          (in_turn s ((s + (L - h)) % L) (mod-lt (s + (L - h)) some) (slot_again L h s head inside) (cases_lt ((s + (L - h)) % L) n))
      held s (inr past) = rw (le-ltb s L past) (sym (free.behind s past))

  -- all slots blank, and none waits
  pub all_blank : (N L : ℕ) (b x : E) → 0 < L → L ≤ N → x ≡ b → IsLaid b N L 0 0 (replicate N x)
  all_blank N L b x some wide e =
      subst (λ (y : E). IsLaid b N L 0 0 (replicate N y)) (sym e)
      (laid_of_free b (replicate N b) N L 0 0 some (omega arith) wide
      (record { all = length-replicate N b; in_ring = λ k more less. blank_among N ((0 + k) % L) b; behind = λ s past. blank_among N s b }))

module _ {E : Type 0} (b : E) (slots : List E) (N L h n : ℕ) (q : Waiting E)
    (ok : (h < L) × (n ≤ L) × (L ≤ N) × (N ≤ 512) × IsLaid b N L h n slots) (seen : waiting_of (window slots L h n) h L ≡ q) where
  some : 0 < L
  some = omega (arith, ok.0)

  again : laid b N L h (window slots L h n) ≡ slots
  again = ok.4.again

  -- each free slot is blank
  free : FreeAreBlank b N L h n slots
  unfolding laid
  free = record { all = all; in_ring = in_ring; behind = λ s past. beyond s past (cases_lt s N) }
    where
      all : length slots ≡ N
      all = ap length (sym again) ∙ length_filled (held_at b L h (window slots L h n)) 0 N

      at : (s : ℕ) → s < N → get_or slots s b ≡ held_at b L h (window slots L h n) s
      at s inside =
          let same : 0 + s ≡ s = omega arith in
          ap (λ (xs : List E). get_or xs s b) (sym again)
          ∙ filled_at (held_at b L h (window slots L h n)) b N 0 s inside
          ∙ ap (held_at b L h (window slots L h n)) same

      in_ring : (k : ℕ) → n ≤ k → k < L → get_or slots ((h + k) % L) b ≡ b
      in_ring k more less =
          let inside : (h + k) % L < L = mod-lt (h + k) some in
          at ((h + k) % L) (omega (arith, inside, ok.2))
          ∙ rw (lt-ltb ((h + k) % L) L inside)
          (ap (λ (p : ℕ). get_or (window slots L h n) p b) (place_again L h k ok.0 less)
          ∙ get_or_past (window slots L h n) k b (omega (arith, ok.4.counted)))

      beyond : (s : ℕ) → L ≤ s → (s < N) ⊎ (N ≤ s) → get_or slots s b ≡ b
      beyond s past (inl inside) = at s inside ∙ rw (le-ltb s L past) refl
      beyond s past (inr out) = get_or_past slots s b (omega (arith, all))

  slot_is : (place : ℕ) → slot_of q place ≡ (h + place) % L
  slot_is place =
      let most : max 1 L ≡ L = omega (arith, ok.0) in
      ap (λ (w : Waiting E). slot_of w place) (sym seen) ∙ ap (λ (m : ℕ). (h + place) % m) most

  -- where none waits, all slots are blank, whatever the ring
  pub blank_empty : (l : ℕ) → n ≡ 0 → 0 < l → l ≤ N → IsLaid b N l 0 0 slots
  blank_empty l none less wide =
      laid_of_free b slots N l 0 0 less (omega arith) wide
      (record { all = free.all; in_ring = λ k more inside. blank ((0 + k) % l) (cases_lt ((0 + k) % l) L); behind = λ s past. blank s (cases_lt s L) })
    where
      blank : (s : ℕ) → (s < L) ⊎ (L ≤ s) → get_or slots s b ≡ b
      blank s (inl inside) =
          ap (λ (t : ℕ). get_or slots t b) (sym (slot_again L h s ok.0 inside))
          ∙ free.in_ring ((s + (L - h)) % L) (omega (arith, none)) (mod-lt (s + (L - h)) some)
      blank s (inr past) = free.behind s past

  -- the oldest leaves, and its slot is made blank
  pub popped_laid : (s : ℕ) (x : E) → x ≡ b → s ≡ slot_of q 1 → IsLaid b N L s (n - 1) (set slots h x)
  popped_laid s x none e =
      let at : s ≡ (h + 1) % L = e ∙ slot_is 1 in
      let next : (h + 1) % L < L = mod-lt (h + 1) some in
      subst (λ (y : E). IsLaid b N L s (n - 1) (set slots h y)) (sym none)
      (subst (λ (t : ℕ). IsLaid b N L t (n - 1) (set slots h b)) (sym at)
      (laid_of_free b (set slots h b) N L ((h + 1) % L) (n - 1) next (omega (arith, ok.1)) ok.2
      (record { all = length-set slots h b ∙ free.all; in_ring = ring; behind = λ t past. blank_set slots h t b (λ away. free.behind t past) })))
    where
      rest : (k : ℕ) → n - 1 ≤ k → k < L → (k + 1 < L) ⊎ (L ≤ k + 1) → (h + (k + 1)) % L ≢ h → get_or slots ((h + (k + 1)) % L) b ≡ b
      rest k more less (inl low) away = free.in_ring (k + 1) (omega arith) low
      rest k more less (inr high) away =
          let last : h + (k + 1) ≡ h + L = omega arith in absurd (away (ap (λ (a : ℕ). a % L) last ∙ around L h ok.0))

      ring : (k : ℕ) → n - 1 ≤ k → k < L → get_or (set slots h b) (((h + 1) % L + k) % L) b ≡ b
      ring k more less =
          let same : h + 1 + k ≡ h + (k + 1) = omega arith in
          ap (λ (t : ℕ). get_or (set slots h b) t b) (mod-add-mod (h + 1) L k ∙ ap (λ (a : ℕ). a % L) same)
          ∙ blank_set slots h ((h + (k + 1)) % L) b (rest k more less (cases_lt (k + 1) L))

  -- an entry in a place; what waits behind it stays
  put_laid : (i m : ℕ) (x : E) → i < m → n ≤ m → m ≤ L → IsLaid b N L h m (set slots ((h + i) % L) x)
  put_laid i m x inside more room =
      laid_of_free b (set slots ((h + i) % L) x) N L h m ok.0 room ok.2
      (record { all = length-set slots ((h + i) % L) x ∙ free.all; in_ring = ring; behind = beyond })
    where
      ring : (k : ℕ) → m ≤ k → k < L → get_or (set slots ((h + i) % L) x) ((h + k) % L) b ≡ b
      ring k past less =
          get_or-set_other slots ((h + i) % L) ((h + k) % L) x b (λ same. places_apart L (h + i) (h + k) (omega arith) (omega arith) (sym same))
          ∙ free.in_ring k (omega arith) less

      beyond : (s : ℕ) → L ≤ s → get_or (set slots ((h + i) % L) x) s b ≡ b
      beyond s past =
          get_or-set_other slots ((h + i) % L) s x b (λ same. omega (arith, same, mod-lt (h + i) some)) ∙ free.behind s past

  -- one joins where there is room
  pub joined_laid : (s : ℕ) (x : E) → n < L → s ≡ slot_of q n → IsLaid b N L h (n + 1) (set slots s x)
  joined_laid s x room e =
      subst (λ (t : ℕ). IsLaid b N L h (n + 1) (set slots t x)) (sym (e ∙ slot_is n)) (put_laid n (n + 1) x (omega arith) (omega arith) (omega arith))

  -- one joins a full queue, in the slot of the oldest
  pub pushed_out_laid : (s : ℕ) (x : E) → L ≤ n → s ≡ slot_of q 1 → IsLaid b N L s n (set slots h x)
  pushed_out_laid s x full e =
      let at : s ≡ (h + 1) % L = e ∙ slot_is 1 in
      let next : s < L = omega (arith, at, mod-lt (h + 1) some) in
      laid_of_free b (set slots h x) N L s n next ok.1 ok.2
      (record {
        all = length-set slots h x ∙ free.all;
        in_ring = λ k more less. absurd (omega arith);
        behind = λ t past. get_or-set_other slots h t x b (λ same. omega (arith, same, ok.0)) ∙ free.behind t past;
      })

  -- another in a place
  pub exchanged_laid : (i s : ℕ) (x : E) → i < n → s ≡ slot_of q i → IsLaid b N L h n (set slots s x)
  exchanged_laid i s x inside e =
      subst (λ (t : ℕ). IsLaid b N L h n (set slots t x)) (sym (e ∙ slot_is i)) (put_laid i n x inside (omega arith) ok.1)
