-- Queues in use: what stays within the limits, which slot is whose, and the placement rule, that the k-th record admitted takes slot k modulo the limit.
-- Assumes nothing.
-- Stays: what pacing/proofs/RecordsInSlots cites, and the theorems `placement` and `slots_apart`; std has none of rings.
use Rattle.std.proofs.Common.{◌≡◌, ◌≢◌, ◌⊎◌, ℕ, suc, ◌+◌, ◌-◌, ◌%◌, ◌<◌, ◌≤◌, max, Bool, true, false, cond, ltb, List, [], ◌∷◌, length, refl, sym, ap, ap₂, subst, ◌∙◌, inl, inr, arith, mod-lt, lt-ltb, le-ltb}
use native.Mathlib.Nat.{mod-add-mod, suc-mod}
use Rattle.std.proofs.lemmas.Bool.{cases_lt}
use Rattle.std.proofs.lemmas.List.{length-drop, length-set, length-append}
use Rattle.queue.specs.Waiting.{Waiting, empty, slot_of, has_room, popped, popped_front, roomy, added, joined, next_slot, exchanged}
use Rattle.queue.proofs.Queues.{popped_some}
use Rattle.queue.proofs.Windows.{places_apart}

module _ {E : Type 0} where
  -- at least one slot, and no more waits than there are
  pub record IsSound (q : Waiting E) : Type 0 where
    pub head : q.head < q.limit
    pub fits : length q.items ≤ q.limit

  pub sound_empty : (limit : ℕ) → 1 ≤ limit → IsSound (empty limit)
  sound_empty limit some = record { head = omega arith; fits = omega arith }

  -- ---- slots

  pub slot_below : (q : Waiting E) (place : ℕ) → IsSound q → slot_of q place < q.limit
  slot_below q place ok =
      let most : max 1 q.limit ≡ q.limit = omega (arith, ok.head) in
      let some : 0 < q.limit = omega (arith, ok.head) in
      subst (λ (m : ℕ). (q.head + place) % m < q.limit) (sym most) (mod-lt (q.head + place) some)

  pub slot_popped : (q : Waiting E) (place : ℕ) → slot_of (popped q) place ≡ slot_of q (place + 1)
  slot_popped q place =
      let same : q.head + 1 + place ≡ q.head + (place + 1) = omega arith in
      mod-add-mod (q.head + 1) (max 1 q.limit) place ∙ ap (λ (a : ℕ). a % max 1 q.limit) same

  -- two places of one queue never share a slot
  pub slots_apart : (q : Waiting E) (a b : ℕ) → IsSound q → a < q.limit → b < q.limit → a ≢ b → slot_of q a ≢ slot_of q b
  slots_apart q a b ok la lb away same = go (cases_lt a b)
    where
      most : q.limit ≡ max 1 q.limit
      most = omega (arith, ok.head)

      go : (a < b) ⊎ (b ≤ a) → ⊥
      go (inl low) = places_apart (max 1 q.limit) (q.head + a) (q.head + b) (omega arith) (omega (arith, most)) same
      go (inr high) =
          let above : b < a = omega arith in
          places_apart (max 1 q.limit) (q.head + b) (q.head + a) (omega arith) (omega (arith, most)) (sym same)

  -- ---- a pop

  pub length_popped : (q : Waiting E) → length (popped q).items ≡ length q.items - 1
  length_popped q = length-drop 1 q.items

  pub sound_popped : (q : Waiting E) → IsSound q → IsSound (popped q)
  sound_popped q ok = record { head = slot_below q 1 ok; fits = omega (arith, length_popped q, ok.fits) }

  pub popped_front_none : (q : Waiting E) → length q.items ≡ 0 → popped_front q ≡ q
  popped_front_none q none = rw (le-ltb 0 (length q.items) (omega (arith, none)))

  pub sound_popped_front : (q : Waiting E) → IsSound q → IsSound (popped_front q)
  sound_popped_front q ok = go (cases_lt 0 (length q.items))
    where
      go : (0 < length q.items) ⊎ (length q.items ≤ 0) → IsSound (popped_front q)
      go (inl some) = subst IsSound (sym (popped_some q some)) (sound_popped q ok)
      go (inr none) = subst IsSound (sym (popped_front_none q (omega arith))) ok

  pub limit_popped_front : (q : Waiting E) → (popped_front q).limit ≡ q.limit
  limit_popped_front q = go (ltb 0 (length q.items))
    where
      go : (t : Bool) → (cond t (popped q) q).limit ≡ q.limit
      go true = refl
      go false = refl

  -- ---- a join

  pub limit_roomy : (q : Waiting E) → (roomy q).limit ≡ q.limit
  unfolding roomy
  limit_roomy q = go (has_room q)
    where
      go : (t : Bool) → (cond t q (popped q)).limit ≡ q.limit
      go true = refl
      go false = refl

  pub roomy_room : (q : Waiting E) → length q.items < q.limit → roomy q ≡ q
  unfolding roomy
  roomy_room q room = rw (lt-ltb (length q.items) q.limit room)

  pub roomy_full : (q : Waiting E) → q.limit ≤ length q.items → roomy q ≡ popped q
  unfolding roomy
  roomy_full q full = rw (le-ltb (length q.items) q.limit full)

  -- by cases on whether there is room
  by_room : (P : Waiting E → Type 0) (q : Waiting E) → (length q.items < q.limit → P q) → (q.limit ≤ length q.items → P (popped q)) → P (roomy q)
  by_room P q room full = go (cases_lt (length q.items) q.limit)
    where
      go : (length q.items < q.limit) ⊎ (q.limit ≤ length q.items) → P (roomy q)
      go (inl low) = subst P (sym (roomy_room q low)) (room low)
      go (inr high) = subst P (sym (roomy_full q high)) (full high)

  pub sound_roomy : (q : Waiting E) → IsSound q → IsSound (roomy q)
  sound_roomy q ok = by_room IsSound q (λ low. ok) (λ high. sound_popped q ok)

  -- there is room in what `roomy` leaves
  pub room_in_roomy : (q : Waiting E) → IsSound q → length (roomy q).items < q.limit
  room_in_roomy q ok =
      by_room (λ (r : Waiting E). length r.items < q.limit) q (λ low. low) (λ high. omega (arith, length_popped q, ok.head, ok.fits))

  pub limit_joined : (q : Waiting E) (x : E) → (joined q x).limit ≡ q.limit
  unfolding joined
  limit_joined q x = limit_roomy q

  length_added : (q : Waiting E) (x : E) → length (added q x).items ≡ length q.items + 1
  length_added q x = length-append q.items (x ∷ [])

  pub sound_joined : (q : Waiting E) (x : E) → IsSound q → IsSound (joined q x)
  unfolding joined
  sound_joined q x ok =
      let r = sound_roomy q ok in
      record { head = r.head; fits = omega (arith, length_added (roomy q) x, room_in_roomy q ok, limit_roomy q) }

  pub next_slot_below : (q : Waiting E) → IsSound q → next_slot q < q.limit
  unfolding next_slot
  next_slot_below q ok =
      subst (λ (l : ℕ). slot_of (roomy q) (length (roomy q).items) < l) (limit_roomy q) (slot_below (roomy q) (length (roomy q).items) (sound_roomy q ok))

  -- ---- an exchange

  pub length_exchanged : (q : Waiting E) (place : ℕ) (x : E) → length (exchanged q place x).items ≡ length q.items
  length_exchanged q place x = length-set q.items place x

  pub sound_exchanged : (q : Waiting E) (place : ℕ) (x : E) → IsSound q → IsSound (exchanged q place x)
  sound_exchanged q place x ok = record { head = ok.head; fits = omega (arith, length_exchanged q place x, ok.fits) }

-- ---- the placement rule

-- a queue in use: records admitted, and the oldest leaving, where one waits
pub data Use (E : Type 0) : Type 0 where
  admit : E → Use E
  leave : Use E

module _ {E : Type 0} where
  abbrev pub used : Waiting E → Use E → Waiting E
  used q (admit x) = joined q x
  used q leave = popped_front q

  -- the slots that admitted records take, in turn
  abbrev pub slots_taken : Waiting E → List (Use E) → List ℕ
  slots_taken q [] = []
  slots_taken q (admit x ∷ uses) = next_slot q ∷ slots_taken (used q (admit x)) uses
  slots_taken q (leave ∷ uses) = slots_taken (used q leave) uses

  -- slot k modulo the limit for the k-th admitted, from k on
  abbrev pub by_rule : ℕ → ℕ → List (Use E) → List ℕ
  by_rule limit k [] = []
  by_rule limit k (admit x ∷ uses) = k % max 1 limit ∷ by_rule limit (suc k) uses
  by_rule limit k (leave ∷ uses) = by_rule limit k uses

  -- the place behind the last, taken round the ring
  abbrev tail : Waiting E → ℕ
  tail q = slot_of q (length q.items)

  tail_popped : (q : Waiting E) → 0 < length q.items → tail (popped q) ≡ tail q
  tail_popped q some =
      let same : length (popped q).items + 1 ≡ length q.items = omega (arith, length_popped q) in
      slot_popped q (length (popped q).items) ∙ ap (λ (k : ℕ). slot_of q k) same

  tail_popped_front : (q : Waiting E) → tail (popped_front q) ≡ tail q
  tail_popped_front q = go (cases_lt 0 (length q.items))
    where
      go : (0 < length q.items) ⊎ (length q.items ≤ 0) → tail (popped_front q) ≡ tail q
      go (inl some) = ap tail (popped_some q some) ∙ tail_popped q some
      go (inr none) = ap tail (popped_front_none q (omega arith))

  tail_roomy : (q : Waiting E) → IsSound q → tail (roomy q) ≡ tail q
  tail_roomy q ok = by_room (λ (r : Waiting E). tail r ≡ tail q) q (λ low. refl) (λ high. tail_popped q (omega (arith, ok.head)))

  pub next_slot_tail : (q : Waiting E) → IsSound q → next_slot q ≡ slot_of q (length q.items)
  unfolding next_slot
  next_slot_tail q ok = tail_roomy q ok

  tail_joined : (q : Waiting E) (x : E) → IsSound q → tail (joined q x) ≡ suc (tail q) % max 1 q.limit
  unfolding joined
  tail_joined q x ok =
      let n : ℕ = length (roomy q).items in
      let more : (roomy q).head + length (added (roomy q) x).items ≡ suc ((roomy q).head + n) = omega (arith, length_added (roomy q) x) in
      let same : max 1 (roomy q).limit ≡ max 1 q.limit = ap (λ (l : ℕ). max 1 l) (limit_roomy q) in
      ap₂ (λ (a m : ℕ). a % m) more same
      ∙ suc-mod ((roomy q).head + n) (max 1 q.limit)
      ∙ ap (λ (m : ℕ). suc (((roomy q).head + n) % m) % max 1 q.limit) (sym same)
      ∙ ap (λ (t : ℕ). suc t % max 1 q.limit) (tail_roomy q ok)

  placed_from :
      (L : ℕ) (q : Waiting E) (uses : List (Use E)) (k : ℕ) → q.limit ≡ L → IsSound q → tail q ≡ k % max 1 L → slots_taken q uses ≡ by_rule L k uses
  placed_from L q [] k l ok e = refl
  placed_from L q (admit x ∷ uses) k l ok e =
      ap₂ (λ (s : ℕ) (ss : List ℕ). s ∷ ss) (next_slot_tail q ok ∙ e)
      (placed_from L (joined q x) uses (suc k) (limit_joined q x ∙ l) (sound_joined q x ok)
      (tail_joined q x ok ∙ ap₂ (λ (t m : ℕ). suc t % max 1 m) e l ∙ sym (suc-mod k (max 1 L))))
  placed_from L q (leave ∷ uses) k l ok e =
      placed_from L (popped_front q) uses k (limit_popped_front q ∙ l) (sound_popped_front q ok) (tail_popped_front q ∙ e)

  -- on a new queue the k-th record admitted takes slot k modulo the limit, whatever leaves in between
  pub placement : (limit : ℕ) → 1 ≤ limit → (uses : List (Use E)) → slots_taken (empty limit) uses ≡ by_rule limit 0 uses
  placement limit some uses = placed_from limit (empty limit) uses 0 refl (sound_empty limit some) refl
