-- The list of items, one item at a time: an item that does not stop the tape is whole, and the list goes on behind it. Assumes nothing.
-- Stays: what Items, Player's play and play_all, and Bounds go by, and the worked tape's items, which docs/GUARANTEES.md names; std has none of tapes.
use Prim.Native.Nat.{ℕ, zero, suc, ◌+◌, ◌-◌, ◌/◌, ◌%◌, ◌^◌, ◌≤◌, ◌<◌}
use mathlib.Core.Bool.{false, true≢false}
use mathlib.Core.List.{List, [], ◌∷◌}
use mathlib.Core.Path.{◌≡◌, refl, ap, sym, ◌∙◌}
use native.Mathlib.Decide.{dec_le}
use native.Mathlib.Nat.{add-zero, sub-zero}
use native.Mathlib.Omega.{arith}
use borrow.Author.Tests.{leb-true, lt-leb}
use lib.Dec.{leb, eqb}
use lib.ListN.{length, length-take, length-drop}
use Rattle.std.proofs.lemmas.Grind.{common_steps}
use Rattle.std.specs.List.{AllByRecursion}
use Rattle.std.proofs.Common.{Result, Ok, Err}
use Rattle.config.specs.Config.{class_of}
use Rattle.config.specs.declared.config.Priority.{Priority}
use Rattle.config.specs.declared.refusal.Refusal.{Refusal}
use Rattle.config.specs.declared.config.Priority.TheVariants.{P0, P1}
use Rattle.numeric.proofs.Choice.{by_test}
use Rattle.queue.specs.Pool.{piece}
use Rattle.tape.specs.Item.{words_of, whole_words, words_from, word_at, kind_of, value_of, whole, classed, register_of, signal_of, hand_in_words, hand_in_by, hand_in_of, item_by, item_of, item_at, takes, body_at, placed, is_end, stops, items_from, items_of, items_at, Stands}
use Rattle.tape.specs.declared.item.Placed.{Placed}
use Rattle.tape.specs.declared.item.Item.{Item}
use Rattle.tape.specs.declared.item.Item.TheVariants.{End, Broken, Advance, Register, Eagain, Tos, Nacks, Rtt, Tick, HandIn, Send, SetRate}

-- ---- one item

pub takes-least : (i : Item) → 1 ≤ takes i
unfolding takes
takes-least End = omega arith
takes-least Broken = omega arith
takes-least (Advance v) = omega arith
takes-least (Register c id) = omega arith
takes-least Eagain = omega arith
takes-least (Tos tos) = omega arith
takes-least (Nacks count) = omega arith
takes-least (Rtt peer bits) = omega arith
takes-least Tick = omega arith
takes-least (HandIn pacer c n) = omega arith
takes-least (Send pacer) = omega arith
takes-least (SetRate rate) = omega arith

-- what is neither the end nor broken does not stop the tape
going : (i : Item) → (i ≡ End → ⊥) → (i ≡ Broken → ⊥) → stops i ≡ false
unfolding stops
going End h q = absurd (h refl)
going Broken h q = absurd (q refl)
going (Advance v) h q = refl
going (Register c id) h q = refl
going Eagain h q = refl
going (Tos tos) h q = refl
going (Nacks count) h q = refl
going (Rtt peer bits) h q = refl
going Tick h q = refl
going (HandIn pacer c n) h q = refl
going (Send pacer) h q = refl
going (SetRate rate) h q = refl

-- an id of at most 8 digits
abbrev pub IsShortId : Item → Type 0
IsShortId End = Unit {0}
IsShortId Broken = Unit {0}
IsShortId (Advance v) = Unit {0}
IsShortId (Register c id) = id < 10 ^ 8
IsShortId Eagain = Unit {0}
IsShortId (Tos tos) = Unit {0}
IsShortId (Nacks count) = Unit {0}
IsShortId (Rtt peer bits) = Unit {0}
IsShortId Tick = Unit {0}
IsShortId (HandIn pacer c n) = Unit {0}
IsShortId (Send pacer) = Unit {0}
IsShortId (SetRate rate) = Unit {0}

-- of an item whose first word is whole, all words are; an id is a value of 28 bits less its last two
module _ (bytes : List ℕ) (k : ℕ) (first : k + 1 ≤ whole_words bytes) where
  abbrev Inside : Item → Type 0
  Inside i = (k + takes i ≤ whole_words bytes) × IsShortId i

  inside-whole : (i : Item) → IsShortId i → Inside (whole bytes k (takes i) i)
  unfolding takes whole
  inside-whole i short =
      by_test Inside (leb (takes i) (words_from bytes k))
      (λ e. (omega (arith, takes-least i, leb-true (takes i) (words_from bytes k) e), short))
      (λ e. (first, tt))

  inside-classed : (r : Result Priority Refusal) (item : Priority → Item) → ((c : Priority) → Inside (item c)) → Inside (classed r item)
  unfolding takes
  inside-classed (Ok c) item h = h c
  inside-classed (Err e) item h = (first, tt)

  inside-register : (v : ℕ) → v < 2 ^ 28 → Inside (register_of v)
  unfolding takes register_of
  inside-register v h = inside-classed (class_of (v % 4)) (λ c. Register c (v / 4)) (λ c. (first, omega arith))

  inside-signal : (v : ℕ) → Inside (signal_of bytes k v)
  unfolding takes signal_of
  inside-signal v =
      by_test Inside (eqb (v % 4) 0) (λ e. (first, tt))
      (λ e. by_test Inside (eqb (v % 4) 1) (λ e. (first, tt))
      (λ e. by_test Inside (eqb (v % 4) 2) (λ e. (first, tt))
      (λ e. inside-whole (Rtt (v / 256) (word_at bytes (k + 1))) tt)))

  inside-hand-in : (v : ℕ) → Inside (hand_in_of bytes k v)
  unfolding takes hand_in_of
  inside-hand-in v =
      inside-classed (class_of (v / 2048 % 4)) (hand_in_by bytes k (v / 8192 % 4) (v % 2048))
      (λ c. inside-whole (HandIn (v / 8192 % 4) c (v % 2048)) tt)

  inside-kind : (kind v : ℕ) → v < 2 ^ 28 → Inside (item_by bytes k kind v)
  unfolding takes item_by
  inside-kind kind v h =
      by_test Inside (eqb kind 0) (λ e. (first, tt))
      (λ e. by_test Inside (eqb kind 1) (λ e. (first, tt))
      (λ e. by_test Inside (eqb kind 2) (λ e. inside-register v h)
      (λ e. by_test Inside (eqb kind 3) (λ e. inside-signal v)
      (λ e. by_test Inside (eqb kind 4) (λ e. (first, tt))
      (λ e. by_test Inside (eqb kind 5) (λ e. inside-hand-in v)
      (λ e. by_test Inside (eqb kind 6) (λ e. (first, tt))
      (λ e. by_test Inside (eqb kind 7) (λ e. (first, tt)) (λ e. (first, tt)))))))))

  inside : (word : ℕ) → Inside (item_of bytes k word)
  inside word = inside-kind (kind_of word) (value_of word) (omega arith)

-- an item's first word
pub first_word : (bytes : List ℕ) (k : ℕ) → word_at bytes (k + 0) ≡ word_at bytes k
first_word bytes k = rw add-zero

module _ (bytes : List ℕ) where
  -- an item that does not stop the tape is whole
  pub item_whole : (k : ℕ) → stops (item_at bytes k) ≡ false → k + takes (item_at bytes k) ≤ whole_words bytes
  unfolding stops takes item_at whole
  item_whole k =
      by_test (λ (i : Item). stops i ≡ false → k + takes i ≤ whole_words bytes) (leb 1 (words_from bytes k))
      (λ e s. (inside bytes k (omega (arith, leb-true 1 (words_from bytes k) e)) (word_at bytes k)).0)
      (λ e s. absurd (true≢false s))

  -- an item's id is short
  pub item_id : (k : ℕ) → IsShortId (item_at bytes k)
  unfolding item_at whole
  item_id k =
      by_test IsShortId (leb 1 (words_from bytes k))
      (λ e. (inside bytes k (omega (arith, leb-true 1 (words_from bytes k) e)) (word_at bytes k)).1)
      (λ e. tt)

  -- behind the whole words there is no item
  pub item_beyond : (k : ℕ) → whole_words bytes ≤ k → item_at bytes k ≡ Broken
  unfolding item_at whole
  item_beyond k h = let q : words_from bytes k < 1 = omega arith in rw (lt-leb 1 (words_from bytes k) q)

  -- a hand-in's record has as many bytes as it says
  pub body_whole :
      (k pacer : ℕ) (c : Priority) (n : ℕ) → item_at bytes k ≡ HandIn pacer c n → length (body_at bytes k c n) ≡ n
  unfolding stops takes piece
  body_whole k pacer c n e =
      let s : stops (item_at bytes k) ≡ false = rw e in
      let h : k + hand_in_words c n ≤ whole_words bytes = rw e at (item_whole k s) in
      simp (length-take, length-drop) (omega arith)

  -- ---- the list

  -- the words that belong to the last item are passed over
  items-pass : (left k pass : ℕ) → pass ≤ left → items_from left bytes k pass ≡ items_from (left - pass) bytes (k + pass) 0
  unfolding items_from
  items-pass left k zero h = rw (sub-zero, add-zero)
  items-pass zero k (suc pass) h = absurd (omega arith)
  items-pass (suc left) k (suc pass) h =
      let l : left - pass ≡ suc left - suc pass = omega arith in
      let q : suc k + pass ≡ k + suc pass = omega arith in
      items-pass left (suc k) pass (omega arith) ∙ rw (l, q)

  -- one more word is left, and it is an item's first
  items-step :
      (left k : ℕ) → stops (item_at bytes k) ≡ false
      → items_from (suc left) bytes k 0 ≡ placed k (item_at bytes k) ∷ items_from left bytes (suc k) (takes (item_at bytes k) - 1)
  unfolding items_from
  items-step left k s = rw s

  items-stop : (left k : ℕ) → item_at bytes k ≡ End → items_from (suc left) bytes k 0 ≡ []
  unfolding items_from is_end stops
  items-stop left k e = rw e

  items-break : (left k : ℕ) → item_at bytes k ≡ Broken → items_from left bytes k 0 ≡ placed k Broken ∷ []
  unfolding items_from is_end stops
  items-break zero k e = refl
  items-break (suc left) k e = rw e

  abbrev words : ℕ
  words = words_of (length bytes)

  pub item_inside : (k : ℕ) → stops (item_at bytes k) ≡ false → k + takes (item_at bytes k) ≤ words
  item_inside k s = omega (arith, item_whole k s)

  pub item_missing : (k : ℕ) → words ≤ k → item_at bytes k ≡ Broken
  item_missing k h = item_beyond k (omega arith)

  items-behind : (k t : ℕ) → 1 ≤ t → k + t ≤ words → items_from (words - suc k) bytes (suc k) (t - 1) ≡ items_from (words - (k + t)) bytes (k + t) 0
  items-behind k t h q =
      let l : words - suc k - (t - 1) ≡ words - (k + t) = omega arith in
      let m : suc k + (t - 1) ≡ k + t = omega arith in
      items-pass (words - suc k) (suc k) (t - 1) (omega arith) ∙ rw (l, m)

  -- an item that does not stop the tape is listed, and the list goes on behind it
  pub items_next :
      (k : ℕ) → stops (item_at bytes k) ≡ false
      → items_from (words - k) bytes k 0 ≡ placed k (item_at bytes k) ∷ items_from (words - (k + takes (item_at bytes k))) bytes (k + takes (item_at bytes k)) 0
  items_next k s =
      let e : words - k ≡ suc (words - suc k) = omega (arith, takes-least (item_at bytes k), item_inside k s) in
      ap (λ (n : ℕ). items_from n bytes k 0) e
      ∙ items-step (words - suc k) k s
      ∙ ap (λ (l : List Placed). placed k (item_at bytes k) ∷ l) (items-behind k (takes (item_at bytes k)) (takes-least (item_at bytes k)) (item_inside k s))

  end_before : (k : ℕ) → item_at bytes k ≡ End → k < words
  end_before k e = go (dec_le (suc k) words)
    where
      go : Dec (k < words) → k < words
      go (yes h) = h
      go (no h) =
          let b : item_at bytes k ≡ Broken = item_missing k (omega arith) in
          let z : ◌≡◌ {A = ℕ} 0 1 = cc in
          absurd (omega arith)

  -- nothing is listed from the end on
  pub items_end : (k : ℕ) → item_at bytes k ≡ End → items_at bytes k ≡ []
  items_end k e =
      let h : k < words = end_before k e in
      let l : words - k ≡ suc (words - suc k) = omega arith in
      ap (λ (n : ℕ). items_from n bytes k 0) l ∙ items-stop (words - suc k) k e

  -- what is broken is listed last, the missing end too
  pub items_broken : (k : ℕ) → item_at bytes k ≡ Broken → items_at bytes k ≡ placed k Broken ∷ []
  items_broken k e = items-break (words - k) k e

  -- what is neither is followed by the items behind it
  pub items_more :
      (k : ℕ) (item : Item) → item ≡ item_at bytes k → (item ≡ End → ⊥) → (item ≡ Broken → ⊥)
      → items_at bytes k ≡ placed k item ∷ items_at bytes (k + takes item)
  items_more k item e h q =
      let s : stops (item_at bytes k) ≡ false = ap stops (sym e) ∙ going item h q in
      rw e (items_next k s)

  -- .. and is whole
  pub items_inside :
      (k : ℕ) (item : Item) → item ≡ item_at bytes k → (item ≡ End → ⊥) → (item ≡ Broken → ⊥)
      → k + takes item ≤ length bytes
  items_inside k item e h q =
      let s : stops (item_at bytes k) ≡ false = ap stops (sym e) ∙ going item h q in
      rw e (omega (arith, item_whole k s))

  pub items_first : items_at bytes 0 ≡ items_of bytes
  unfolding items_of
  items_first = rw sub-zero

module _ (bytes : List ℕ) where
  stand_from :
      (left k pass : ℕ) → words bytes ≤ k + left → AllByRecursion (Stands bytes) (items_from left bytes k pass)
  unfolding items_from
  stand_from zero k pass h = (item_missing bytes k (omega arith), tt)
  stand_from (suc left) k zero h =
      by_test (AllByRecursion (Stands bytes)) (stops (item_at bytes k))
      (λ e. by_test (AllByRecursion (Stands bytes)) (is_end (item_at bytes k)) (λ q. tt) (λ q. (refl, tt)))
      (λ e. (refl, stand_from left (suc k) (takes (item_at bytes k) - 1) (omega arith)))
  stand_from (suc left) k (suc pass) h = stand_from left (suc k) pass (omega arith)

  -- every item stands at its index
  pub items_stand : AllByRecursion (Stands bytes) (items_of bytes)
  unfolding items_of
  items_stand = stand_from (words bytes) 0 0 (omega arith)

pub ruleset item_steps = (common_steps, items_end, items_broken, items_more, items_inside)

-- ---- examples

-- the whole tape of document 01, "20000004 20000009 30000000 100186A0 40000000 60000000 00000000"
-- Stays: the two theorems about document 01's tape, which docs/GUARANTEES.md names, are about it.
abbrev pub whole_tape : List ℕ
whole_tape =
    0x04 ∷ 0x00 ∷ 0x00 ∷ 0x20 ∷ 0x09 ∷ 0x00 ∷ 0x00 ∷ 0x20 ∷ 0x00 ∷ 0x00 ∷ 0x00 ∷ 0x30 ∷ 0xA0 ∷ 0x86 ∷ 0x01 ∷ 0x10
    ∷ 0x00 ∷ 0x00 ∷ 0x00 ∷ 0x40 ∷ 0x00 ∷ 0x00 ∷ 0x00 ∷ 0x60 ∷ 0x00 ∷ 0x00 ∷ 0x00 ∷ 0x00 ∷ []

-- Stays: a theorem that docs/GUARANTEES.md names.
pub whole_tape_items :
    items_of whole_tape
    ≡ placed 0 (Register P0 1) ∷ placed 1 (Register P1 2) ∷ placed 2 Eagain ∷ placed 3 (Advance 100000) ∷ placed 4 Tick ∷ placed 5 (Send 0) ∷ []
unfolding word_at whole register_of signal_of hand_in_of item_by item_at takes is_end stops items_from items_of
whole_tape_items = refl
