-- What one queue of a pacer holds, with the bytes that the pool has in its slots: a record that is stored changes one place, and no other
-- record of any queue. Assumes nothing.
-- Stays: what Records and RecordsLimits cite; std has no pool of slots.
use Prim.Native.Nat.{ℕ, ◌+◌, ◌-◌, ◌*◌, ◌≤◌, ◌<◌}
use mathlib.Core.Bool.{Bool, true, false, cond}
use mathlib.Core.List.{List, [], ◌∷◌, ◌++◌, map}
use mathlib.Core.Logic.{◌≢◌, ◌⊎◌, inl, inr}
use mathlib.Core.Path.{◌≡◌, refl, sym, ap, ap₂, ◌∙◌}
use native.Mathlib.Omega.{arith}
use lib.Dec.{ltb}
use lib.ListN.{length, get_or, set, drop}
use Rattle.std.specs.List.{All, range_with_len}
use Rattle.std.proofs.lemmas.Bool.{cases_eq}
use Rattle.std.proofs.lemmas.List.{length-set, length-drop, length_push, get_or_append_left, get_or_push, get_or-drop, get_or-set_same, get_or-set_other, same_lists}
use Rattle.std.proofs.lemmas.List.FromFn.{length-map-range_with_len, get_or-map-range_with_len, map-range_with_len_more}
use Rattle.std.proofs.lemmas.List.Elements.{All-get_or, All-drop, All-push}
use Rattle.config.specs.declared.config.Priority.{Priority}
use Rattle.numeric.proofs.Choice.{by_test}
use Rattle.queue.proofs.Pools.{slot_index, queue_number, slot-inside, length-stored, piece-stored, piece-stored_other, index-apart, index_same}
use Rattle.queue.proofs.Rings.{IsSound, slot_below, slot_popped, slots_apart, sound_empty, sound_popped, limit_roomy, sound_roomy, room_in_roomy, limit_joined, sound_joined, next_slot_below, sound_exchanged}
use Rattle.queue.specs.Pool.{Limits, piece, stored, bytes_of, limit_in, slots_of, slot_start}
use Rattle.queue.specs.Waiting.{Waiting, empty, slot_of, has_room, popped, roomy, added, joined, next_slot, exchanged}
use Rattle.queue.specs.declared.entry.KeyedEntry.{KeyedEntry}
use Rattle.pacing.specs.Records.{Held, held_of, join_list}

-- ---- a queue of so many slots, 512 at most

pub record IsFit {E : Type 0} (limit : ℕ) (q : Waiting E) : Type 0 where
  pub most : limit ≤ 512
  pub limit_is : q.limit ≡ limit
  pub sound : IsSound q

module _ {E : Type 0} (limit : ℕ) where
  pub fit_empty : 1 ≤ limit → limit ≤ 512 → IsFit limit (empty {E = E} limit)
  fit_empty some most = record { most = most; limit_is = refl; sound = sound_empty limit some }

  pub fit_popped : (q : Waiting E) → IsFit limit q → IsFit limit (popped q)
  fit_popped q ok = record { most = ok.most; limit_is = ok.limit_is; sound = sound_popped q ok.sound }

  fit_roomy : (q : Waiting E) → IsFit limit q → IsFit limit (roomy q)
  fit_roomy q ok = record { most = ok.most; limit_is = limit_roomy q ∙ ok.limit_is; sound = sound_roomy q ok.sound }

  pub fit_joined : (q : Waiting E) (x : E) → IsFit limit q → IsFit limit (joined q x)
  fit_joined q x ok = record { most = ok.most; limit_is = limit_joined q x ∙ ok.limit_is; sound = sound_joined q x ok.sound }

  pub fit_exchanged : (q : Waiting E) (place : ℕ) (x : E) → IsFit limit q → IsFit limit (exchanged q place x)
  fit_exchanged q place x ok = record { most = ok.most; limit_is = ok.limit_is; sound = sound_exchanged q place x ok.sound }

  pub slot_in_limit : (q : Waiting E) (place : ℕ) → IsFit limit q → slot_of q place < limit
  slot_in_limit q place ok = omega (arith, slot_below q place ok.sound, ok.limit_is)

  pub next_slot_in_limit : (q : Waiting E) → IsFit limit q → next_slot q < limit
  next_slot_in_limit q ok = omega (arith, next_slot_below q ok.sound, ok.limit_is)

  slots_differ : (q : Waiting E) (j k : ℕ) → IsFit limit q → j < limit → k < limit → j ≢ k → slot_of q j ≢ slot_of q k
  slots_differ q j k ok a b ne = slots_apart q j k ok.sound (omega (arith, ok.limit_is)) (omega (arith, ok.limit_is)) ne

-- ---- lists by places

module _ {A : Type 0} where
  -- f 0 to f (n - 1)
  abbrev pub by_places : (ℕ → A) → ℕ → List A
  by_places f n = map f (range_with_len 0 n)

  places_same : (f g : ℕ → A) (n : ℕ) → ((k : ℕ) → k < n → f k ≡ g k) → by_places f n ≡ by_places g n
  places_same f g n same =
      same_lists (by_places f n) (by_places g n) (simp length-map-range_with_len)
      (λ k d h. go k d (omega (arith, length-map-range_with_len f 0 n)))
    where
      go : (k : ℕ) (d : A) → k < n → get_or (by_places f n) k d ≡ get_or (by_places g n) k d
      go k d h =
          get_or-map-range_with_len f 0 n k k d h (omega arith) ∙ same k h ∙ sym (get_or-map-range_with_len g 0 n k k d h (omega arith))

  -- one fewer in front
  places_dropped : (f g : ℕ → A) (n : ℕ) → ((k : ℕ) → f k ≡ g (k + 1)) → by_places f (n - 1) ≡ drop 1 (by_places g n)
  places_dropped f g n same =
      same_lists (by_places f (n - 1)) (drop 1 (by_places g n)) (simp (length-map-range_with_len, length-drop))
      (λ k d h. go k d (omega (arith, length-map-range_with_len f 0 (n - 1))))
    where
      go : (k : ℕ) (d : A) → k < n - 1 → get_or (by_places f (n - 1)) k d ≡ get_or (drop 1 (by_places g n)) k d
      go k d h =
          get_or-map-range_with_len f 0 (n - 1) k k d h (omega arith)
          ∙ same k
          ∙ sym (get_or-drop 1 (by_places g n) k d ∙ get_or-map-range_with_len g 0 n (1 + k) (k + 1) d (omega arith) (omega arith))

  -- one more behind
  places_more : (f g : ℕ → A) (n : ℕ) → ((k : ℕ) → k < n → f k ≡ g k) → by_places f (n + 1) ≡ by_places g n ++ (f n ∷ [])
  places_more f g n same =
      map-range_with_len_more f 0 n n (omega arith) ∙ ap (λ (xs : List A). xs ++ (f n ∷ [])) (places_same f g n same)

  -- one exchanged
  places_set :
      (f g : ℕ → A) (n i : ℕ) → i < n → ((k : ℕ) → k < n → k ≢ i → f k ≡ g k) → by_places f n ≡ set (by_places g n) i (f i)
  places_set f g n i lo same =
      same_lists (by_places f n) (set (by_places g n) i (f i)) (simp (length-set, length-map-range_with_len))
      (λ k d h. go k d (omega (arith, length-map-range_with_len f 0 n)) (cases_eq k i))
    where
      go : (k : ℕ) (d : A) → k < n → (k ≡ i) ⊎ (k ≢ i) → get_or (by_places f n) k d ≡ get_or (set (by_places g n) i (f i)) k d
      go k d h (inl e) =
          get_or-map-range_with_len f 0 n k i d h (omega arith)
          ∙ sym
          (ap (λ (x : ℕ). get_or (set (by_places g n) i (f i)) x d) e
          ∙ get_or-set_same (by_places g n) i (f i) d (omega (arith, length-map-range_with_len g 0 n)))
      go k d h (inr ne) =
          get_or-map-range_with_len f 0 n k k d h (omega arith)
          ∙ same k h ne
          ∙ sym (get_or-set_other (by_places g n) i k (f i) d ne ∙ get_or-map-range_with_len g 0 n k k d h (omega arith))

-- ---- a record stored in a slot of a queue of pacer i

module _ (m : Limits) (i : ℕ) (c : Priority) (s : ℕ) (pool bytes : List ℕ) (lo : s < limit_in m c) (n : length bytes ≤ 1472)
    (wide : bytes_of (i * slots_of m + slots_of m) ≤ length pool) where
  abbrev pub filled : List ℕ
  filled = stored pool (slot_start m i c s) bytes

  inside : bytes_of (slot_index m i c s) + 1472 ≤ length pool
  inside = slot-inside m i c s pool lo wide

  pub length_filled : length filled ≡ length pool
  unfolding slot_start
  length_filled = length-stored pool (bytes_of (slot_index m i c s)) bytes inside n

  pub piece-filled : piece filled (slot_start m i c s) (length bytes) ≡ bytes
  unfolding slot_start
  piece-filled = piece-stored pool (bytes_of (slot_index m i c s)) bytes inside n

  -- the other slots of the queue are untouched
  pub piece-filled_own : (t k : ℕ) → t ≢ s → k ≤ 1472 → piece filled (slot_start m i c t) k ≡ piece pool (slot_start m i c t) k
  unfolding slot_start
  piece-filled_own t k ne short =
      piece-stored_other pool (slot_index m i c s) bytes (slot_index m i c t) k inside n short (index_same m i c s t ne)

  -- and those of another queue
  pub piece-filled_other :
      (j : ℕ) (d : Priority) (t k : ℕ) → queue_number i c ≢ queue_number j d → t < limit_in m d → k ≤ 1472
      → piece filled (slot_start m j d t) k ≡ piece pool (slot_start m j d t) k
  unfolding slot_start
  piece-filled_other j d t k ne hi short =
      piece-stored_other pool (slot_index m i c s) bytes (slot_index m j d t) k inside n short
      (λ (q : slot_index m j d t ≡ slot_index m i c s). index-apart m i c s j d t ne lo hi (sym q))

-- ---- what one queue holds, with the bytes that the pool has of it; e as the class keeps it is `lift e`

module _ {E : Type 0} (lift : E → KeyedEntry) (d : E) (m : Limits) (i : ℕ) (c : Priority) where
  -- what lies in a slot
  abbrev pub shown : List ℕ → E → ℕ → Held
  shown pool e slot = held_of (lift e) (piece pool (slot_start m i c slot) (lift e).entry.length)

  abbrev pub at_place : List ℕ → Waiting E → ℕ → Held
  at_place pool q k = shown pool (get_or q.items k d) (slot_of q k)

  abbrev pub list_of : List ℕ → Waiting E → List Held
  list_of pool q = by_places (at_place pool q) (length q.items)

  -- no entry is longer than a slot
  abbrev pub IsShort : E → Type 0
  IsShort e = (lift e).entry.length ≤ 1472

  pub length-list : (pool : List ℕ) (q : Waiting E) → length (list_of pool q) ≡ length q.items
  length-list pool q = length-map-range_with_len (at_place pool q) 0 (length q.items)

  -- a pool that is the same in the queue's slots
  pub list_same :
      (pool pool' : List ℕ) (q : Waiting E) → IsFit (limit_in m c) q → All IsShort q.items
      → ((s k : ℕ) → s < limit_in m c → k ≤ 1472 → piece pool' (slot_start m i c s) k ≡ piece pool (slot_start m i c s) k)
      → list_of pool' q ≡ list_of pool q
  list_same pool pool' q ok short same =
      places_same (at_place pool' q) (at_place pool q) (length q.items)
      (λ k h.
      ap (held_of (lift (get_or q.items k d)))
      (same (slot_of q k) (lift (get_or q.items k d)).entry.length (slot_in_limit (limit_in m c) q k ok) (All-get_or IsShort q.items k d h short)))

  -- the oldest leaves
  pub list-popped : (pool : List ℕ) (q : Waiting E) → list_of pool (popped q) ≡ drop 1 (list_of pool q)
  list-popped pool q =
      rw (length-drop 1 q.items)
      (places_dropped (at_place pool (popped q)) (at_place pool q) (length q.items)
      (λ k. ap₂ (shown pool) (get_or-drop 1 q.items k d ∙ ap (λ (x : ℕ). get_or q.items x d) (omega arith)) (slot_popped q k)))

  list-roomy :
      (pool : List ℕ) (q : Waiting E)
      → list_of pool (roomy q) ≡ cond (ltb (length (list_of pool q)) q.limit) (list_of pool q) (drop 1 (list_of pool q))
  unfolding roomy
  list-roomy pool q = rw (length-list pool q) (go (has_room q))
    where
      go : (t : Bool) → list_of pool (cond t q (popped q)) ≡ cond t (list_of pool q) (drop 1 (list_of pool q))
      go true = refl
      go false = list-popped pool q

  short-roomy : (q : Waiting E) → All IsShort q.items → All IsShort (roomy q).items
  unfolding roomy
  short-roomy q short =
      by_test (λ (w : Waiting E). All IsShort w.items) (has_room q) (λ e. short) (λ e. All-drop IsShort 1 q.items short)

  pub short-joined : (q : Waiting E) (x : E) → All IsShort q.items → IsShort x → All IsShort (joined q x).items
  unfolding joined
  short-joined q x short new = All-push IsShort (roomy q).items x (short-roomy q short) new

  -- a record of these bytes in a slot of the queue
  module _ (pool bytes : List ℕ) (n : length bytes ≤ 1472) (wide : bytes_of (i * slots_of m + slots_of m) ≤ length pool)
      (x : E) (long : (lift x).entry.length ≡ length bytes) where
    -- the pool with the record in a slot
    abbrev pub pool-with : ℕ → List ℕ
    pool-with s = stored pool (slot_start m i c s) bytes

    new-is : (s : ℕ) → s < limit_in m c → shown (pool-with s) x s ≡ held_of (lift x) bytes
    new-is s lo =
        ap (held_of (lift x))
        (ap (piece (pool-with s) (slot_start m i c s)) long ∙ piece-filled m i c s pool bytes lo n wide)

    old-is :
        (s : ℕ) → s < limit_in m c → (e : E) (t : ℕ) → t ≢ s → IsShort e
        → shown (pool-with s) e t ≡ shown pool e t
    old-is s lo e t ne short =
        ap (held_of (lift e)) (piece-filled_own m i c s pool bytes lo n wide t (lift e).entry.length ne short)

    -- it joins the tail
    list-added :
        (q : Waiting E) → IsFit (limit_in m c) q → All IsShort q.items → length q.items < limit_in m c
        → list_of (pool-with (slot_of q (length q.items))) (added q x) ≡ list_of pool q ++ (held_of (lift x) bytes ∷ [])
    list-added q ok short room =
        let s : ℕ = slot_of q (length q.items) in
        let lo : s < limit_in m c = slot_in_limit (limit_in m c) q (length q.items) ok in
        rw (length_push q.items x)
        (places_more (at_place (pool-with s) (added q x)) (at_place pool q) (length q.items)
        (λ k h.
        ap (λ (e : E). shown (pool-with s) e (slot_of q k)) (get_or_append_left q.items (x ∷ []) d k h)
        ∙ old-is s lo (get_or q.items k d) (slot_of q k)
        (slots_differ (limit_in m c) q k (length q.items) ok (omega arith) room (omega arith))
        (All-get_or IsShort q.items k d h short))
        ∙ ap (λ (y : Held). list_of pool q ++ (y ∷ []))
        (ap (λ (e : E). shown (pool-with s) e s) (get_or_push q.items x d (length q.items) refl) ∙ new-is s lo))

    -- a full queue lets its oldest go
    pub list-joined :
        (q : Waiting E) → IsFit (limit_in m c) q → All IsShort q.items
        → list_of (pool-with (next_slot q)) (joined q x) ≡ join_list (limit_in m c) (list_of pool q) (held_of (lift x) bytes)
    unfolding joined next_slot join_list
    list-joined q ok short =
        list-added (roomy q) (fit_roomy (limit_in m c) q ok) (short-roomy q short) (omega (arith, room_in_roomy q ok.sound, ok.limit_is))
        ∙ ap (λ (xs : List Held). xs ++ (held_of (lift x) bytes ∷ []))
        (list-roomy pool q
        ∙ ap (λ (k : ℕ). cond (ltb (length (list_of pool q)) k) (list_of pool q) (drop 1 (list_of pool q))) ok.limit_is)

    -- it takes the place of another
    pub list-exchanged :
        (q : Waiting E) (place : ℕ) → IsFit (limit_in m c) q → All IsShort q.items → place < length q.items
        → list_of (pool-with (slot_of q place)) (exchanged q place x) ≡ set (list_of pool q) place (held_of (lift x) bytes)
    list-exchanged q place ok short inside =
        let s : ℕ = slot_of q place in
        let lo : s < limit_in m c = slot_in_limit (limit_in m c) q place ok in
        rw (length-set q.items place x)
        (places_set (at_place (pool-with s) (exchanged q place x)) (at_place pool q) (length q.items) place inside
        (λ k h ne.
        ap (λ (e : E). shown (pool-with s) e (slot_of q k)) (get_or-set_other q.items place k x d ne)
        ∙ old-is s lo (get_or q.items k d) (slot_of q k)
        (slots_differ (limit_in m c) q k place ok (omega (arith, ok.sound.fits, ok.limit_is)) (omega (arith, ok.sound.fits, ok.limit_is)) ne)
        (All-get_or IsShort q.items k d h short))
        ∙ ap (set (list_of pool q) place)
        (ap (λ (e : E). shown (pool-with s) e s) (get_or-set_same q.items place x d inside) ∙ new-is s lo))
