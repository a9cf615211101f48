-- What the slots of a queue say of the list that contracts see, and what its calls do to both. Assumes nothing.
-- Stays: what the clauses of `Queue` and of its search cite, and Rings; std has none of rings.
use Rattle.std.proofs.Common.{◌≡◌, ℕ, ◌+◌, ◌-◌, ◌%◌, ◌<◌, ◌≤◌, min, max, Bool, true, false, cond, List, [], ◌∷◌, ◌++◌, length, get_or, set, take, drop, slice_get, None, Some, refl, sym, ap, ap₂, ◌∙◌, Option, arith, mod-eq_of_lt, lt-ltb, le-ltb}
use Rattle.std.proofs.lemmas.Bool.{le-leb}
use native.Mathlib.Nat.{mod-add-mod, mod-eq-sub-mod}
use Rattle.std.proofs.lemmas.Option.{none-some, slice_get-get_or}
use Rattle.std.proofs.lemmas.List.{length-drop, length-take-le}
use Rattle.std.specs.List.{position_from}
use Rattle.queue.specs.Waiting.{Waiting, waiting_of, limit_fits, limit_held, first, slot_of, popped, popped_front, roomy, added, joined, next_slot, pushed_out, exchanged}
use Rattle.queue.specs.Window.{window, IsLaid}
use Rattle.queue.proofs.Blanks.{all_blank, blank_empty}
use Rattle.queue.proofs.Windows.{length_window, window_at, window_popped, window_left, window_joined, window_pushed_out, window_exchanged, window_parts}

-- a limit that is held finds room
pub held_fits : (N limit : ℕ) → 1 ≤ N → N ≤ 512 → limit_fits N (limit_held N limit) ≡ true
held_fits N limit some h =
    rw (le-leb 1 (min (max limit 1) N) (omega (arith, some)), le-leb (min (max limit 1) N) N (omega arith), le-leb N 512 h) refl

-- a queue that has a slot, as its type's invariant says, has room for one
pub one_fits : (N h L : ℕ) → h < L → L ≤ N → N ≤ 512 → limit_fits N 1 ≡ true
one_fits N h L head wide h512 = rw (le-leb 1 N (omega (arith, head, wide)), le-leb N 512 h512) refl

module _ {E : Type 0} where
  -- ---- the list alone

  pub popped_some : (q : Waiting E) → 0 < length q.items → popped_front q ≡ popped q
  popped_some q some = rw (lt-ltb 0 (length q.items) some)

  pub joined_room : (q : Waiting E) (x : E) → length q.items < q.limit → joined q x ≡ added q x
  unfolding joined roomy
  joined_room q x room = rw (lt-ltb (length q.items) q.limit room)

  pub joined_full : (q : Waiting E) (x : E) → q.limit ≤ length q.items → joined q x ≡ added (popped q) x
  unfolding joined roomy
  joined_full q x full = rw (le-ltb (length q.items) q.limit full)

  next_slot_full : (q : Waiting E) → q.limit ≤ length q.items → next_slot q ≡ slot_of (popped q) (length (popped q).items)
  unfolding next_slot roomy
  next_slot_full q full = rw (le-ltb (length q.items) q.limit full)

  pushed_out_full : (q : Waiting E) → q.limit ≤ length q.items → pushed_out q ≡ first q.items
  pushed_out_full q full = rw (le-ltb (length q.items) q.limit full)

  first_is : (xs : List E) (d : E) → 0 < length xs → first xs ≡ Some (get_or xs 0 d)
  first_is [] d some = absurd (omega arith)
  first_is (x ∷ xs) d some = refl

  -- a list in two parts: the search goes on in the second where the first has none
  pub search_first : (p : E → Bool) (i k : ℕ) (xs ys : List E) → Some k ≡ position_from p i xs → Some k ≡ position_from p i (xs ++ ys)
  search_first p i k [] ys e = elim (none-some k (sym e)) [ ]
  search_first p i k (x ∷ xs) ys e = go (p x) e (search_first p (i + 1) k xs ys)
    where
      go :
          (t : Bool) → Some k ≡ cond t (Some i) (position_from p (i + 1) xs)
          → (Some k ≡ position_from p (i + 1) xs → Some k ≡ position_from p (i + 1) (xs ++ ys))
          → Some k ≡ cond t (Some i) (position_from p (i + 1) (xs ++ ys))
      go true e later = e
      go false e later = later e

  pub search_rest :
      (p : E → Bool) (i j : ℕ) (xs ys : List E) → None ≡ position_from p i xs → j ≡ i + length xs
      → position_from p j ys ≡ position_from p i (xs ++ ys)
  search_rest p i j [] ys e same = let here : j ≡ i = omega arith in ap (λ (a : ℕ). position_from p a ys) here
  search_rest p i j (x ∷ xs) ys e same = go (p x) e (search_rest p (i + 1) j xs ys)
    where
      go :
          (t : Bool) → None ≡ cond t (Some i) (position_from p (i + 1) xs)
          → (None ≡ position_from p (i + 1) xs → j ≡ i + 1 + length xs → position_from p j ys ≡ position_from p (i + 1) (xs ++ ys))
          → position_from p j ys ≡ cond t (Some i) (position_from p (i + 1) (xs ++ ys))
      go true e later = elim (none-some i e) [ ]
      go false e later = later e (omega arith)

-- ---- the list and the slots: n entries from slot h on, around a ring of the first L of N slots, whatever the free slots hold

module _ {E : Type 0} (slots : List E) (N L h n : ℕ) (q : Waiting E) (wide : length slots ≡ N)
    (ok : (h < L) × ((n ≤ L) × ((L ≤ N) × (N ≤ 512)))) (seen : waiting_of (window slots L h n) h L ≡ q) where
  fits : L ≤ length slots
  fits = omega (arith, ok.1.1.0)

  count_is : length q.items ≡ n
  count_is = ap (λ (w : Waiting E). length w.items) (sym seen) ∙ length_window slots L h n ok.0 ok.1.0 fits

  limit_is : q.limit ≡ L
  limit_is = ap (λ (w : Waiting E). w.limit) (sym seen)

  slot_is : (place : ℕ) → slot_of q place ≡ (h + place) % L
  slot_is place =
      let most : max 1 L ≡ L = omega (arith, ok.0) in
      ap (λ (w : Waiting E). slot_of w place) (sym seen) ∙ ap (λ (m : ℕ). (h + place) % m) most

  entry_is : (k s : ℕ) (d : E) → k < n → s ≡ slot_of q k → get_or slots s d ≡ get_or q.items k d
  entry_is k s d inside e =
      ap (λ (t : ℕ). get_or slots t d) (e ∙ slot_is k)
      ∙ sym (window_at slots L h n k d ok.0 inside ok.1.0 fits)
      ∙ ap (λ (w : Waiting E). get_or w.items k d) seen

  -- what waits in a place
  pub entry_got : (k s : ℕ) (d : E) → k < n → s ≡ slot_of q k → Some (get_or slots s d) ≡ slice_get q.items k
  entry_got k s d inside e =
      ap (λ (x : E). Some x) (entry_is k s d inside e) ∙ sym (slice_get-get_or q.items k d (omega (arith, count_is)))

  -- the oldest
  pub first_got : (d : E) → 0 < n → Some (get_or slots h d) ≡ first q.items
  first_got d some =
      let same : h + 0 ≡ h = omega arith in
      let here : h ≡ slot_of q 0 = sym (slot_is 0 ∙ ap (λ (a : ℕ). a % L) same ∙ mod-eq_of_lt ok.0) in
      ap (λ (x : E). Some x) (entry_is 0 h d some here) ∙ sym (first_is q.items d (omega (arith, count_is)))

  -- the oldest leaves
  pub popped_held : (s : ℕ) → 0 < n → s ≡ slot_of q 1 → waiting_of (window slots L s (n - 1)) s L ≡ popped_front q
  popped_held s some e =
      let at : s ≡ (h + 1) % L = e ∙ slot_is 1 in
      let items : window slots L s (n - 1) ≡ drop 1 q.items =
      ap (λ (t : ℕ). window slots L t (n - 1)) at ∙ window_popped slots L h n ok.0 ok.1.0 fits ∙ ap (λ (w : Waiting E). drop 1 w.items) seen in
      ap₂ (λ (xs : List E) (t : ℕ). waiting_of xs t L) items e
      ∙ ap (λ (l : ℕ). waiting_of (drop 1 q.items) (slot_of q 1) l) (sym limit_is)
      ∙ sym (popped_some q (omega (arith, count_is)))

  -- the same where its slot is written
  left_held : (s : ℕ) (x : E) → 0 < n → s ≡ slot_of q 1 → waiting_of (window (set slots h x) L s (n - 1)) s L ≡ popped_front q
  left_held s x some e =
      let at : s ≡ (h + 1) % L = e ∙ slot_is 1 in
      let same : window (set slots h x) L s (n - 1) ≡ window slots L s (n - 1) =
      ap (λ (t : ℕ). window (set slots h x) L t (n - 1)) at
      ∙ window_left slots L h n x ok.0 some ok.1.0 fits
      ∙ sym (window_popped slots L h n ok.0 ok.1.0 fits)
      ∙ ap (λ (t : ℕ). window slots L t (n - 1)) (sym at) in
      ap (λ (xs : List E). waiting_of xs s L) same ∙ popped_held s some e

  -- one joins where there is room
  pub joined_held :
      (s : ℕ) (x : E) → n < L → s ≡ slot_of q n → waiting_of (window (set slots s x) L h (n + 1)) h L ≡ joined q x
  joined_held s x room e =
      let at : s ≡ (h + n) % L = e ∙ slot_is n in
      ap (λ (xs : List E). waiting_of xs h L)
      (ap (λ (t : ℕ). window (set slots t x) L h (n + 1)) at ∙ window_joined slots L h n x ok.0 room fits)
      ∙ ap (λ (w : Waiting E). added w x) seen
      ∙ sym (joined_room q x (omega (arith, count_is, limit_is)))

  -- one joins a full queue
  pub pushed_out_held :
      (s : ℕ) (x : E) → L ≤ n → s ≡ slot_of q 1 → waiting_of (window (set slots h x) L s n) s L ≡ joined q x
  pushed_out_held s x full e =
      let at : s ≡ (h + 1) % L = e ∙ slot_is 1 in
      let all : n ≡ L = omega (arith, ok.1.0) in
      let items : window (set slots h x) L s n ≡ drop 1 q.items ++ (x ∷ []) =
      ap₂ (λ (t m : ℕ). window (set slots h x) L t m) at all
      ∙ window_pushed_out slots L h x ok.0 fits
      ∙ ap (λ (m : ℕ). drop 1 (window slots L h m) ++ (x ∷ [])) (sym all)
      ∙ ap (λ (w : Waiting E). drop 1 w.items ++ (x ∷ [])) seen in
      ap₂ (λ (xs : List E) (t : ℕ). waiting_of xs t L) items e
      ∙ ap (λ (l : ℕ). waiting_of (drop 1 q.items ++ (x ∷ [])) (slot_of q 1) l) (sym limit_is)
      ∙ sym (joined_full q x (omega (arith, count_is, limit_is)))

  -- it takes the slot of the oldest
  pub next_slot_held : L ≤ n → h ≡ next_slot q
  next_slot_held full =
      let most : max 1 q.limit ≡ L = omega (arith, limit_is, ok.0) in
      let left : length (drop 1 q.items) ≡ L - 1 = length-drop 1 q.items ∙ omega (arith, count_is, ok.1.0) in
      let same : h + 1 + (L - 1) ≡ h + L = omega (arith, ok.0) in
      let high : L ≤ h + L = omega arith in
      let back : h + L - L ≡ h = omega arith in
      sym
      (next_slot_full q (omega (arith, count_is, limit_is))
      ∙ ap₂ (λ (a m : ℕ). (a + length (drop 1 q.items)) % m) (slot_is 1) most
      ∙ ap (λ (k : ℕ). ((h + 1) % L + k) % L) left
      ∙ mod-add-mod (h + 1) L (L - 1)
      ∙ ap (λ (a : ℕ). a % L) same
      ∙ mod-eq-sub-mod high
      ∙ ap (λ (a : ℕ). a % L) back
      ∙ mod-eq_of_lt ok.0)

  pub out_held : (d : E) → L ≤ n → Some (get_or slots h d) ≡ pushed_out q
  out_held d full = first_got d (omega (arith, ok.0)) ∙ sym (pushed_out_full q (omega (arith, count_is, limit_is)))

  -- another in a place
  pub exchanged_held :
      (i s : ℕ) (x : E) → i < n → s ≡ slot_of q i → waiting_of (window (set slots s x) L h n) h L ≡ exchanged q i x
  exchanged_held i s x inside e =
      let at : s ≡ (h + i) % L = e ∙ slot_is i in
      ap (λ (xs : List E). waiting_of xs h L)
      (ap (λ (t : ℕ). window (set slots t x) L h n) at ∙ window_exchanged slots L h n i x ok.0 inside ok.1.0 fits)
      ∙ ap (λ (w : Waiting E). exchanged w i x) seen

  -- ---- the search: first the slots up to the ring's end, then those from its start on

  parts : (m : ℕ) → m ≡ min n (L - h) → take (h + m - h) (drop h slots) ++ take (n - m) slots ≡ q.items
  parts m e =
      let wide : h + m - h ≡ m = omega arith in
      ap (λ (k : ℕ). take k (drop h slots) ++ take (n - m) slots) wide
      ∙ ap (λ (k : ℕ). take k (drop h slots) ++ take (n - k) slots) e
      ∙ sym (window_parts slots L h n ok.0 ok.1.0 fits)
      ∙ ap (λ (w : Waiting E). w.items) seen

  pub found_before_turn :
      (p : E → Bool) (m k : ℕ) → m ≡ min n (L - h) → Some k ≡ position_from p 0 (take (h + m - h) (drop h slots))
      → Some k ≡ position_from p 0 q.items
  found_before_turn p m k e found =
      search_first p 0 k (take (h + m - h) (drop h slots)) (take (n - m) slots) found
      ∙ ap (λ (xs : List E). position_from p 0 xs) (parts m e)

  pub found_behind_turn :
      (p : E → Bool) (m : ℕ) (r : Option ℕ) → m ≡ min n (L - h) → None ≡ position_from p 0 (take (h + m - h) (drop h slots))
      → r ≡ position_from p m (take (n - m) slots) → r ≡ position_from p 0 q.items
  found_behind_turn p m r e none found =
      let long : length (take m (drop h slots)) ≡ m = length-take-le m (drop h slots) (omega (arith, fits, ok.0, length-drop h slots)) in
      let whole : m ≡ 0 + length (take (h + m - h) (drop h slots)) =
      (let wide : h + m - h ≡ m = omega arith in rw wide (omega (arith, long))) in
      found
      ∙ search_rest p 0 m (take (h + m - h) (drop h slots)) (take (n - m) slots) none whole
      ∙ ap (λ (xs : List E). position_from p 0 xs) (parts m e)

-- ---- the same as the type's invariant has it, which says that each free slot holds a blank: what the functions of `Queue` cite

module _ {E : Type 0} (b : E) (slots : List E) (N L h n : ℕ) (q : Waiting E) (wide : length slots ≡ N)
    (ok : (h < L) × (n ≤ L) × (L ≤ N) × (N ≤ 512) × IsLaid b N L h n slots) (seen : waiting_of (window slots L h n) h L ≡ q) where
  ring : (h < L) × ((n ≤ L) × ((L ≤ N) × (N ≤ 512)))
  ring = (ok.0, (ok.1, (ok.2, ok.3)))

  pub laid_entry_got : (k s : ℕ) (d : E) → k < n → s ≡ slot_of q k → Some (get_or slots s d) ≡ slice_get q.items k
  laid_entry_got = entry_got slots N L h n q wide ring seen

  pub laid_first_got : (d : E) → 0 < n → Some (get_or slots h d) ≡ first q.items
  laid_first_got = first_got slots N L h n q wide ring seen

  pub laid_popped_held :
      (s : ℕ) (x : E) → 0 < n → s ≡ slot_of q 1 → waiting_of (window (set slots h x) L s (n - 1)) s L ≡ popped_front q
  laid_popped_held = left_held slots N L h n q wide ring seen

  pub laid_joined_held :
      (s : ℕ) (x : E) → n < L → s ≡ slot_of q n → waiting_of (window (set slots s x) L h (n + 1)) h L ≡ joined q x
  laid_joined_held = joined_held slots N L h n q wide ring seen

  pub laid_pushed_out_held :
      (s : ℕ) (x : E) → L ≤ n → s ≡ slot_of q 1 → waiting_of (window (set slots h x) L s n) s L ≡ joined q x
  laid_pushed_out_held = pushed_out_held slots N L h n q wide ring seen

  pub laid_next_slot_held : L ≤ n → h ≡ next_slot q
  laid_next_slot_held = next_slot_held slots N L h n q wide ring seen

  pub laid_out_held : (d : E) → L ≤ n → Some (get_or slots h d) ≡ pushed_out q
  laid_out_held = out_held slots N L h n q wide ring seen

  pub laid_exchanged_held :
      (i s : ℕ) (x : E) → i < n → s ≡ slot_of q i → waiting_of (window (set slots s x) L h n) h L ≡ exchanged q i x
  laid_exchanged_held = exchanged_held slots N L h n q wide ring seen

  pub laid_found_before_turn :
      (p : E → Bool) (m k : ℕ) → m ≡ min n (L - h) → Some k ≡ position_from p 0 (take (h + m - h) (drop h slots))
      → Some k ≡ position_from p 0 q.items
  laid_found_before_turn = found_before_turn slots N L h n q wide ring seen

  pub laid_found_behind_turn :
      (p : E → Bool) (m : ℕ) (r : Option ℕ) → m ≡ min n (L - h) → None ≡ position_from p 0 (take (h + m - h) (drop h slots))
      → r ≡ position_from p m (take (n - m) slots) → r ≡ position_from p 0 q.items
  laid_found_behind_turn = found_behind_turn slots N L h n q wide ring seen

-- what a join, a pop and a search cite: of any ring, and of the type's
pub ruleset join_steps = (joined_held, pushed_out_held, next_slot_held, out_held, laid_joined_held, laid_pushed_out_held, laid_next_slot_held, laid_out_held)

pub ruleset pop_steps = (first_got, popped_held, laid_first_got, laid_popped_held)

-- what a restart cites, and the making of a queue
pub ruleset restart_steps = (all_blank, blank_empty)

pub ruleset find_steps = (found_before_turn, found_behind_turn, laid_found_before_turn, laid_found_behind_turn)
