-- A pacer's queues hold what its book has, byte for byte, whatever was handed in and sent before. Assumes nothing.
-- Stays: the theorems `all_shown` and `kept-to_the_byte`, which docs/GUARANTEES.md names, and what guarantees/proofs cite; this is the pacer's own book.
use Prim.Native.Nat.{ℕ, ◌+◌, ◌*◌, ◌≤◌, ◌<◌}
use mathlib.Core.Bool.{Bool, true, false, cond, not}
use mathlib.Core.List.{List, [], ◌∷◌, map}
use mathlib.Core.Logic.{◌≢◌, ◌⊎◌, inl, inr}
use mathlib.Core.Path.{◌≡◌, refl, sym, ap, ap₂, subst, ◌∙◌}
use native.Mathlib.Omega.{arith}
use lib.Dec.{eqb, ltb}
use lib.ListN.{length, get_or, set, drop}
use Rattle.std.specs.List.{All}
use Rattle.std.proofs.lemmas.Bool.{cases_eq, ltb-true, eq-eqb, ne_eqb}
use Rattle.std.proofs.lemmas.List.{length-map, get_or-map, get_or_default, same_lists}
use Rattle.std.proofs.lemmas.List.Elements.{All-nil, All-drop, All-get_or, All-set}
use Rattle.std.proofs.lemmas.List.FromFn.{length-map-range_with_len, get_or-map-range_with_len}
use Rattle.std.proofs.lemmas.List.Sums.{position_or_len_is, fails_before_first, passes_at_first, prefix_len-le-length}
use Rattle.config.specs.Config.{class_number}
use Rattle.config.specs.declared.config.Priority.{Priority}
use Rattle.config.specs.declared.config.Priority.TheVariants.{P0, P1, P2}
use Rattle.numeric.proofs.Choice.{by_test}
use Rattle.numeric.specs.Integer.{next}
use Rattle.queue.proofs.Pools.{queue_number}
use Rattle.queue.specs.Coalescing.{Coalescing, replaced_at, joined_tail, popped_front}
use Rattle.queue.specs.Entries.{entry_of, keyed_entry, no_entry, no_keyed_entry, has_key}
use Rattle.queue.specs.Fates.{is_full, refused}
use Rattle.queue.specs.Pool.{Limits, piece, stored, bytes_of, limit_in, slots_of, slot_start}
use Rattle.queue.specs.Waiting.{Waiting, has_room, popped, joined, joins, kept_in}
use Rattle.queue.specs.declared.entry.Entry.{Entry}
use Rattle.queue.specs.declared.entry.InstanceKey.{InstanceKey}
use Rattle.queue.specs.declared.entry.KeyedEntry.{KeyedEntry}
use Rattle.queue.specs.declared.fate.Fate.{Fate}
use Rattle.queue.specs.declared.fate.Kept.{Kept}
use Rattle.pacing.specs.Records.{Held, held_of, nobody, shaped, entry_at, held, waiting, Book, book_of, empty_book, next_p2_after, record_in, keyed, place_of, join_list, list_after, with_list, book_handed, book_sent, Shows, Parts, parts_of, Call, hand_in, try_send, set_rate, parts_handed, parts_after, book_after, CallShows, AllShown}
use Rattle.pacing.specs.WriterPacer.{Queues, Pacer, with_queues, with_p0, with_p1, with_p2, waiting_in, entries_in, fits, made, keyless, numbered, enqueue_p0, enqueue_p1, enqueue_p2, inserted_into, enqueue, noted_hand_in, handed_in, hand_in_stored, front_of, popped_in, sent_from, rate_set}
use Rattle.pacing.specs.declared.send_action.SendAction.{SendAction}
use Rattle.pacing.specs.declared.send_action.SendAction.TheVariants.{Send, Empty, RateLimited}
pub use Rattle.pacing.proofs.RecordsLimits.{IsLimited, limited_made, Keeps, keeps, Goes, Stays, FairBy, fair_sent}
use Rattle.pacing.proofs.RecordsLimits.{place_in, is_listed, by_key, popped-p2, next-popped_p2, limited-gone, limited_as}
use Rattle.pacing.proofs.RecordsInSlots.{IsFit, list_of, list_same, list-popped, list-joined, list-exchanged, short-joined, length_filled, piece-filled_other}

-- ---- what waits, queue by queue

-- no longer than a slot
abbrev pub IsShort : Entry → Type 0
IsShort e = e.length ≤ 1472

abbrev pub IsShortKeyed : KeyedEntry → Type 0
IsShortKeyed e = IsShort e.entry

-- no waiting entry is longer
pub record AreShort (p : Pacer) : Type 0 where
  pub p0 : All IsShort p.queues.p0.items
  pub p1 : All IsShort p.queues.p1.items
  pub p2 : All IsShortKeyed p.queues.p2.waiting.items

pub short-at : (p : Pacer) (c : Priority) (k : ℕ) → AreShort p → k < waiting_in p.queues c → IsShortKeyed (entry_at p.queues c k)
short-at p P0 k short h = All-get_or IsShort p.queues.p0.items k no_entry h short.p0
short-at p P1 k short h = All-get_or IsShort p.queues.p1.items k no_entry h short.p1
short-at p P2 k short h = All-get_or IsShortKeyed p.queues.p2.waiting.items k no_keyed_entry h short.p2

-- a record of P2 is listed as it is kept
abbrev as_kept : KeyedEntry → KeyedEntry
as_kept e = e

length-entries : (q : Queues) (c : Priority) → length (entries_in q c) ≡ waiting_in q c
length-entries q P0 = length-map q.p0.items keyless
length-entries q P1 = length-map q.p1.items keyless
length-entries q P2 = refl

get_or-entries : (q : Queues) (c : Priority) (k : ℕ) (d : KeyedEntry) → k < waiting_in q c → get_or (entries_in q c) k d ≡ entry_at q c k
get_or-entries q P0 k d h = get_or-map keyless q.p0.items k no_entry d h
get_or-entries q P1 k d h = get_or-map keyless q.p1.items k no_entry d h
get_or-entries q P2 k d h = get_or_default q.p2.waiting.items k d no_keyed_entry h

module _ (m : Limits) (i : ℕ) (p : Pacer) (pool : List ℕ) where
  -- as many as wait
  pub length-waiting : (c : Priority) → length (waiting m i c p pool) ≡ waiting_in p.queues c
  unfolding waiting
  length-waiting c = length-map-range_with_len (held m i c p pool) 0 (waiting_in p.queues c)

  -- each in its place
  pub get_or-waiting :
      (c : Priority) (k : ℕ) (d : Held) → k < waiting_in p.queues c → get_or (waiting m i c p pool) k d ≡ held m i c p pool k
  unfolding waiting
  get_or-waiting c k d h = get_or-map-range_with_len (held m i c p pool) 0 (waiting_in p.queues c) k k d h (omega arith)

  -- with its entry
  pub entries-waiting : (c : Priority) → map (λ (x : Held). x.entry) (waiting m i c p pool) ≡ entries_in p.queues c
  unfolding held
  entries-waiting c =
      same_lists (map (λ (x : Held). x.entry) (waiting m i c p pool)) (entries_in p.queues c)
      (length-map (waiting m i c p pool) (λ (x : Held). x.entry) ∙ length-waiting c ∙ sym (length-entries p.queues c))
      (λ k d h. go k d (omega (arith, length-map (waiting m i c p pool) (λ (x : Held). x.entry), length-waiting c)))
    where
      go :
          (k : ℕ) (d : KeyedEntry) → k < waiting_in p.queues c
          → get_or (map (λ (x : Held). x.entry) (waiting m i c p pool)) k d ≡ get_or (entries_in p.queues c) k d
      go k d h =
          get_or-map (λ (x : Held). x.entry) (waiting m i c p pool) k nobody d (omega (arith, length-waiting c))
          ∙ ap (λ (x : Held). x.entry) (get_or-waiting c k nobody h)
          ∙ sym (get_or-entries p.queues c k d h)

  -- the first under a key is where the queue finds it
  pub place-waiting : (key : InstanceKey) → place_of key (waiting m i P2 p pool) ≡ place_in key p.queues.p2
  unfolding held
  place-waiting key =
      position_or_len_is (keyed key) (waiting m i P2 p pool) place nobody
      (rw (length-waiting P2) most)
      (λ k h.
      ap (keyed key) (get_or-waiting P2 k nobody (omega (arith, most)))
      ∙ fails_before_first (has_key key) items k no_keyed_entry h)
      (λ h.
      let inside : place < length items = omega (arith, length-waiting P2) in
      ap (keyed key) (get_or-waiting P2 place nobody inside) ∙ passes_at_first (has_key key) items no_keyed_entry inside)
    where
      items : List KeyedEntry
      items = p.queues.p2.waiting.items

      place : ℕ
      place = place_in key p.queues.p2

      most : place ≤ length items
      most = prefix_len-le-length (λ (x : KeyedEntry). not (has_key key x)) items

-- a record of these bytes in a slot of another queue touches no record
module _ (m : Limits) (i : ℕ) (c : Priority) (s : ℕ) (pool bytes : List ℕ) (lo : s < limit_in m c) (n : length bytes ≤ 1472)
    (wide : bytes_of (i * slots_of m + slots_of m) ≤ length pool) (j : ℕ) (p : Pacer) (ok : IsLimited m p) (short : AreShort p) where
  abbrev pool-with : List ℕ
  pool-with = stored pool (slot_start m i c s) bytes

  waiting-stored_other : (d : Priority) → queue_number i c ≢ queue_number j d → waiting m j d p pool-with ≡ waiting m j d p pool
  unfolding waiting held
  waiting-stored_other P0 ne =
      list_same keyless no_entry m j P0 pool pool-with p.queues.p0 ok.p0 short.p0
      (λ t k hi fit. piece-filled_other m i c s pool bytes lo n wide j P0 t k ne hi fit)
  waiting-stored_other P1 ne =
      list_same keyless no_entry m j P1 pool pool-with p.queues.p1 ok.p1 short.p1
      (λ t k hi fit. piece-filled_other m i c s pool bytes lo n wide j P1 t k ne hi fit)
  waiting-stored_other P2 ne =
      list_same as_kept no_keyed_entry m j P2 pool pool-with p.queues.p2.waiting ok.p2 short.p2
      (λ t k hi fit. piece-filled_other m i c s pool bytes lo n wide j P2 t k ne hi fit)

-- nor does a hand-in touch one, of its own pacer in another class or of another pacer
module _ (m : Limits) (i : ℕ) (c : Priority) (pool bytes : List ℕ) (n : length bytes ≤ 1472)
    (wide : bytes_of (i * slots_of m + slots_of m) ≤ length pool) (kept : Kept) (lo : is_full kept.fate ≡ false → kept.slot < limit_in m c) where
  abbrev pool-after : List ℕ
  pool-after = hand_in_stored pool m i c kept bytes

  pub length-handed : length pool-after ≡ length pool
  unfolding hand_in_stored
  length-handed =
      by_test (λ (x : List ℕ). length x ≡ length pool) (is_full kept.fate) (λ e. refl)
      (λ e. length_filled m i c kept.slot pool bytes (lo e) n wide)

  pub held_other :
      (j : ℕ) (d : Priority) (p : Pacer) → queue_number i c ≢ queue_number j d → IsLimited m p → AreShort p
      → waiting m j d p pool-after ≡ waiting m j d p pool
  unfolding hand_in_stored
  held_other j d p ne ok short =
      by_test (λ (x : List ℕ). waiting m j d p x ≡ waiting m j d p pool) (is_full kept.fate) (λ e. refl)
      (λ e. waiting-stored_other m i c kept.slot pool bytes (lo e) n wide j p ok short d ne)

-- ---- the match

pub record Matches (m : Limits) (i : ℕ) (s : Parts) (b : Book) : Type 0 where
  pub limited : IsLimited m s.pacer
  pub short : AreShort s.pacer
  pub wide : bytes_of (i * slots_of m + slots_of m) ≤ length s.pool
  pub lists : (c : Priority) → waiting m i c s.pacer s.pool ≡ b.lists c
  pub next : s.pacer.next_sequence ≡ b.next
  pub next_p2 : s.pacer.queues.p2.next_sequence ≡ b.next_p2

-- ---- classes

same_class : (c d : Priority) → class_number c ≡ class_number d → c ≡ d
same_class P0 P0 e = refl
same_class P0 P1 e = absurd (omega arith)
same_class P0 P2 e = absurd (omega arith)
same_class P1 P0 e = absurd (omega arith)
same_class P1 P1 e = refl
same_class P1 P2 e = absurd (omega arith)
same_class P2 P0 e = absurd (omega arith)
same_class P2 P1 e = absurd (omega arith)
same_class P2 P2 e = refl

class_below : (c : Priority) → class_number c < 3
class_below P0 = omega arith
class_below P1 = omega arith
class_below P2 = omega arith

-- the queues of two pacers are others
pub queues_apart : (i : ℕ) (c : Priority) (j : ℕ) (d : Priority) → j ≢ i → queue_number i c ≢ queue_number j d
queues_apart i c j d ne e = ne (omega (arith, class_below c, class_below d))

-- lists that are the others' but for one class
module _ (lists now : Priority → List Held) (c : Priority) (xs : List Held) where
  by_class :
      now c ≡ xs → ((d : Priority) → class_number d ≢ class_number c → now d ≡ lists d) → (d : Priority)
      → now d ≡ with_list lists c xs d
  unfolding with_list
  by_class own others d = go (cases_eq (class_number d) (class_number c))
    where
      go : (class_number d ≡ class_number c) ⊎ (class_number d ≢ class_number c) → now d ≡ cond (eqb (class_number d) (class_number c)) xs (lists d)
      go (inl e) = rw (eq-eqb (class_number d) (class_number c) e) (ap now (same_class d c e) ∙ own)
      go (inr ne) = rw (ne_eqb (class_number d) (class_number c) ne) (others d ne)

-- ---- the queues of the other classes

module _ (m : Limits) (i : ℕ) (p : Pacer) (pool : List ℕ) where
  p0-alone : (q : Waiting Entry) (d : Priority) → class_number d ≢ 0 → waiting m i d (with_p0 p q) pool ≡ waiting m i d p pool
  unfolding waiting held
  p0-alone q P0 ne = absurd (ne refl)
  p0-alone q P1 ne = refl
  p0-alone q P2 ne = refl

  p1-alone : (q : Waiting Entry) (d : Priority) → class_number d ≢ 1 → waiting m i d (with_p1 p q) pool ≡ waiting m i d p pool
  unfolding waiting held
  p1-alone q P0 ne = refl
  p1-alone q P1 ne = absurd (ne refl)
  p1-alone q P2 ne = refl

  p2-alone : (q : Coalescing) (d : Priority) → class_number d ≢ 2 → waiting m i d (with_p2 p q) pool ≡ waiting m i d p pool
  unfolding waiting held
  p2-alone q P0 ne = refl
  p2-alone q P1 ne = refl
  p2-alone q P2 ne = absurd (ne refl)

-- ---- a hand-in

joins_in : {E : Type 0} (q : Waiting E) → is_full (joins q) ≡ false
unfolding joins
joins_in q = by_test (λ (f : Fate). is_full f ≡ false) (has_room q) (λ e. refl) (λ e. refl)

module _ (m : Limits) (i : ℕ) (s : Parts) (b : Book) (ok : Matches m i s b) (key : InstanceKey) (bytes : List ℕ) (n : length bytes ≤ 1472) where
  abbrev p : Pacer
  p = s.pacer

  abbrev new : Priority → Held
  new c = record_in b c key bytes

  abbrev list : Priority → List Held
  list c = list_after m c key (b.lists c) (new c)

  -- the pacer and the class's list after it
  record Handed (c : Priority) (x : Pacer × Kept) : Type 0 where
    short : AreShort x.0
    others : (d : Priority) (pool : List ℕ) → class_number d ≢ class_number c → waiting m i d x.0 pool ≡ waiting m i d p pool
    own : waiting m i c x.0 (hand_in_stored s.pool m i c x.1 bytes) ≡ list c
    next : x.0.next_sequence ≡ next b.next
    next_p2 : x.0.queues.p2.next_sequence ≡ next_p2_after b c

  after_next : next p.next_sequence ≡ next b.next
  after_next = ap next ok.next

  -- a record joins the tail of its class's list
  joined-own :
      {E : Type 0} (lift : E → KeyedEntry) (d : E) (c : Priority) (q : Waiting E) (x : E) (sequence : ℕ) → IsFit (limit_in m c) q
      → All (λ (e : E). IsShortKeyed (lift e)) q.items → (lift x).entry.length ≡ length bytes → list_of lift d m i c s.pool q ≡ b.lists c
      → held_of (lift x) bytes ≡ new c
      → list_of lift d m i c (hand_in_stored s.pool m i c (kept_in q sequence) bytes) (joined q x) ≡ join_list (limit_in m c) (b.lists c) (new c)
  unfolding hand_in_stored
  joined-own lift d c q x sequence fit short long listed same =
      rw (joins_in q) (list-joined lift d m i c s.pool bytes n ok.wide x long q fit short)
      ∙ ap₂ (join_list (limit_in m c)) listed same

  -- P0 and P1: an entry under the pacer's next number
  abbrev entry : Entry
  entry = entry_of p.next_sequence (length bytes)

  entry_is : held_of (keyless entry) bytes ≡ held_of (keyless (entry_of b.next (length bytes))) bytes
  entry_is = ap (λ (k : ℕ). held_of (keyless (entry_of k (length bytes))) bytes) ok.next

  p0-room : ltb (length (b.lists P0)) m.p0 ≡ has_room p.queues.p0
  p0-room = ap₂ ltb (ap length (sym (ok.lists P0)) ∙ length-waiting m i p s.pool P0) (sym ok.limited.p0.limit_is)

  p0-joined :
      has_room p.queues.p0 ≡ true
      → Handed P0 (noted_hand_in P0 (with_p0 (numbered p) (joined p.queues.p0 entry), kept_in p.queues.p0 p.next_sequence))
  unfolding waiting held list_after join_list shaped
  p0-joined e =
      record {
        short = record { p0 = short-joined keyless no_entry m i P0 p.queues.p0 entry ok.short.p0 n; p1 = ok.short.p1; p2 = ok.short.p2 };
        others = λ d pool ne. p0-alone m i p pool (joined p.queues.p0 entry) d ne;
        own =
            joined-own keyless no_entry P0 p.queues.p0 entry p.next_sequence ok.limited.p0 ok.short.p0 refl (ok.lists P0) entry_is
            ∙ rw (p0-room ∙ e);
        next = after_next;
        next_p2 = ok.next_p2;
      }

  -- P0 without room: 12 uses up the number
  p0-refused : has_room p.queues.p0 ≡ false → Handed P0 (noted_hand_in P0 (numbered p, refused p.next_sequence))
  unfolding waiting held list_after hand_in_stored
  p0-refused e =
      record {
        short = record { p0 = ok.short.p0; p1 = ok.short.p1; p2 = ok.short.p2 };
        others = λ d pool ne. refl;
        own = ok.lists P0 ∙ rw (p0-room ∙ e);
        next = after_next;
        next_p2 = ok.next_p2;
      }

  p1-joined : Handed P1 (noted_hand_in P1 (enqueue_p1 (numbered p) p.next_sequence (length bytes)))
  unfolding enqueue_p1 waiting held list_after shaped
  p1-joined =
      record {
        short = record { p0 = ok.short.p0; p1 = short-joined keyless no_entry m i P1 p.queues.p1 entry ok.short.p1 n; p2 = ok.short.p2 };
        others = λ d pool ne. p1-alone m i p pool (joined p.queues.p1 entry) d ne;
        own = joined-own keyless no_entry P1 p.queues.p1 entry p.next_sequence ok.limited.p1 ok.short.p1 refl (ok.lists P1) entry_is;
        next = after_next;
        next_p2 = ok.next_p2;
      }

  -- P2: an entry under its queue's next number
  abbrev sample : KeyedEntry
  sample = keyed_entry (entry_of p.queues.p2.next_sequence (length bytes)) key

  sample_is : held_of sample bytes ≡ held_of (keyed_entry (entry_of b.next_p2 (length bytes)) key) bytes
  sample_is = ap (λ (k : ℕ). held_of (keyed_entry (entry_of k (length bytes)) key) bytes) ok.next_p2

  abbrev place : ℕ
  place = place_in key p.queues.p2

  place_is : place_of key (b.lists P2) ≡ place
  place_is = ap (place_of key) (sym (ok.lists P2)) ∙ place-waiting m i p s.pool key

  p2-listed : ltb (place_of key (b.lists P2)) (length (b.lists P2)) ≡ is_listed key p.queues.p2
  p2-listed = ap₂ ltb place_is (ap length (sym (ok.lists P2)) ∙ length-waiting m i p s.pool P2)

  p2-replaced :
      is_listed key p.queues.p2 ≡ true → Handed P2 (noted_hand_in P2 (inserted_into (numbered p) (replaced_at p.queues.p2 place key (length bytes))))
  unfolding waiting held list_after shaped hand_in_stored
  p2-replaced e =
      record {
        short = record { p0 = ok.short.p0; p1 = ok.short.p1; p2 = All-set IsShortKeyed p.queues.p2.waiting.items place sample n ok.short.p2 };
        others = λ d pool ne. p2-alone m i p pool (replaced_at p.queues.p2 place key (length bytes)).0 d ne;
        own =
            list-exchanged as_kept no_keyed_entry m i P2 s.pool bytes n ok.wide sample refl p.queues.p2.waiting place ok.limited.p2 ok.short.p2
            (ltb-true place (length p.queues.p2.waiting.items) e)
            ∙ ap₂ (λ (xs : List Held) (x : Held). set xs place x) (ok.lists P2) sample_is
            ∙ ap (λ (k : ℕ). set (b.lists P2) k (new P2)) (sym place_is)
            ∙ rw (p2-listed ∙ e);
        next = after_next;
        next_p2 = ap next ok.next_p2;
      }

  p2-joined : is_listed key p.queues.p2 ≡ false → Handed P2 (noted_hand_in P2 (inserted_into (numbered p) (joined_tail p.queues.p2 key (length bytes))))
  unfolding waiting held list_after shaped
  p2-joined e =
      record {
        short =
            record {
              p0 = ok.short.p0;
              p1 = ok.short.p1;
              p2 = short-joined as_kept no_keyed_entry m i P2 p.queues.p2.waiting sample ok.short.p2 n;
            };
        others = λ d pool ne. p2-alone m i p pool (joined_tail p.queues.p2 key (length bytes)).0 d ne;
        own =
            joined-own as_kept no_keyed_entry P2 p.queues.p2.waiting sample p.queues.p2.next_sequence ok.limited.p2 ok.short.p2 refl (ok.lists P2) sample_is
            ∙ rw (p2-listed ∙ e);
        next = after_next;
        next_p2 = ap next ok.next_p2;
      }

  abbrev left : Priority → Pacer × Kept
  left c = handed_in p c key (length bytes)

  handed : (c : Priority) → Handed c (left c)
  unfolding handed_in enqueue enqueue_p0 enqueue_p2
  handed P0 = by_test (λ (x : Pacer × Kept). Handed P0 (noted_hand_in P0 x)) (has_room p.queues.p0) p0-joined p0-refused
  handed P1 = p1-joined
  handed P2 =
      by_key (λ (x : Coalescing × Kept). Handed P2 (noted_hand_in P2 (inserted_into (numbered p) x))) p.queues.p2 key (length bytes) p2-replaced p2-joined

  -- every hand-in leaves the queues as the book has them
  pub hand_in_matches : (c : Priority) → Matches m i (parts_handed m i s c key bytes) (book_handed m b c key bytes)
  hand_in_matches c =
      let kept = keeps m p ok.limited c key (length bytes) in
      let pool : List ℕ = hand_in_stored s.pool m i c (left c).1 bytes in
      record {
        limited = kept.limited;
        short = (handed c).short;
        wide = rw (length-handed m i c s.pool bytes n ok.wide (left c).1 kept.slot_in) ok.wide;
        lists =
            by_class b.lists (λ (d : Priority). waiting m i d (left c).0 pool) c (list c) (handed c).own
            (λ d ne.
            (handed c).others d pool ne
            ∙ held_other m i c s.pool bytes n ok.wide (left c).1 kept.slot_in i d p (λ (e : queue_number i c ≡ queue_number i d). ne (omega arith))
            ok.limited ok.short
            ∙ ok.lists d);
        next = (handed c).next;
        next_p2 = (handed c).next_p2;
      }

-- a hand-in on another pacer leaves this one's queues as the book has them
pub matches_other :
    (m : Limits) (i : ℕ) (c : Priority) (pool bytes : List ℕ) → length bytes ≤ 1472 → bytes_of (i * slots_of m + slots_of m) ≤ length pool
    → (kept : Kept) → (is_full kept.fate ≡ false → kept.slot < limit_in m c) → (j : ℕ) (p : Pacer) (b : Book) → j ≢ i
    → Matches m j (parts_of p pool) b → Matches m j (parts_of p (hand_in_stored pool m i c kept bytes)) b
matches_other m i c pool bytes n wide kept lo j p b ne ok =
    record {
      limited = ok.limited;
      short = ok.short;
      wide = rw (length-handed m i c pool bytes n wide kept lo) ok.wide;
      lists = λ d. held_other m i c pool bytes n wide kept lo j d p (queues_apart i c j d ne) ok.limited ok.short ∙ ok.lists d;
      next = ok.next;
      next_p2 = ok.next_p2;
    }

-- ---- a send attempt

-- tokens and counts say nothing of what waits
pub stays :
    (m : Limits) (i : ℕ) (p q : Pacer) (pool : List ℕ) (b : Book) → q.queues ≡ p.queues → q.next_sequence ≡ p.next_sequence
    → Matches m i (parts_of p pool) b → Matches m i (parts_of q pool) b
unfolding waiting held
stays m i p q pool b same next ok =
    record {
      limited = limited_as m p q same ok.limited;
      short =
          record {
            p0 = subst (λ (x : Queues). All IsShort x.p0.items) (sym same) ok.short.p0;
            p1 = subst (λ (x : Queues). All IsShort x.p1.items) (sym same) ok.short.p1;
            p2 = subst (λ (x : Queues). All IsShortKeyed x.p2.waiting.items) (sym same) ok.short.p2;
          };
      wide = ok.wide;
      lists = λ c. ap (λ (x : Queues). waiting m i c (with_queues p x) pool) same ∙ ok.lists c;
      next = next ∙ ok.next;
      next_p2 = ap (λ (x : Queues). x.p2.next_sequence) same ∙ ok.next_p2;
    }

module _ (m : Limits) (i : ℕ) (p : Pacer) (pool : List ℕ) (b : Book) (ok : Matches m i (parts_of p pool) b) where
  -- the first of a class goes
  abbrev without : Priority → Pacer
  without c = with_queues p (popped_in p.queues c)

  popped-others : (c d : Priority) → class_number d ≢ class_number c → waiting m i d (without c) pool ≡ waiting m i d p pool
  popped-others P0 = p0-alone m i p pool (popped p.queues.p0)
  popped-others P1 = p1-alone m i p pool (popped p.queues.p1)
  popped-others P2 = p2-alone m i p pool (popped_front p.queues.p2)

  popped-own : (c : Priority) → 0 < waiting_in p.queues c → waiting m i c (without c) pool ≡ drop 1 (waiting m i c p pool)
  unfolding waiting held
  popped-own P0 some = list-popped keyless no_entry m i P0 pool p.queues.p0
  popped-own P1 some = list-popped keyless no_entry m i P1 pool p.queues.p1
  popped-own P2 some =
      ap (list_of as_kept no_keyed_entry m i P2 pool) (popped-p2 p.queues.p2 some)
      ∙ list-popped as_kept no_keyed_entry m i P2 pool p.queues.p2.waiting

  popped-short : (c : Priority) → 0 < waiting_in p.queues c → AreShort (without c)
  popped-short P0 some = record { p0 = All-drop IsShort 1 p.queues.p0.items ok.short.p0; p1 = ok.short.p1; p2 = ok.short.p2 }
  popped-short P1 some = record { p0 = ok.short.p0; p1 = All-drop IsShort 1 p.queues.p1.items ok.short.p1; p2 = ok.short.p2 }
  popped-short P2 some =
      record {
        p0 = ok.short.p0;
        p1 = ok.short.p1;
        p2 =
            subst (λ (q : Waiting KeyedEntry). All IsShortKeyed q.items) (sym (popped-p2 p.queues.p2 some))
            (All-drop IsShortKeyed 1 p.queues.p2.waiting.items ok.short.p2);
      }

  next_p2-without : (c : Priority) → (without c).queues.p2.next_sequence ≡ p.queues.p2.next_sequence
  next_p2-without P0 = refl
  next_p2-without P1 = refl
  next_p2-without P2 = next-popped_p2 p.queues.p2

  goes :
      (c : Priority) → 0 < waiting_in p.queues c
      → Matches m i (parts_of (without c) pool) (book_of (with_list b.lists c (drop 1 (b.lists c))) b.next b.next_p2)
  goes c some =
      record {
        limited = limited-gone m p c ok.limited some;
        short = popped-short c some;
        wide = ok.wide;
        lists =
            by_class b.lists (λ (d : Priority). waiting m i d (without c) pool) c (drop 1 (b.lists c))
            (popped-own c some ∙ ap (drop 1) (ok.lists c)) (λ d ne. popped-others c d ne ∙ ok.lists d);
        next = ok.next;
        next_p2 = next_p2-without c ∙ ok.next_p2;
      }

  front_is : (c : Priority) → (entry_at p.queues c 0).entry ≡ front_of p.queues c
  front_is P0 = refl
  front_is P1 = refl
  front_is P2 = refl

  -- what is shown is the list's first
  shows_first :
      (c : Priority) (slot sequence n : ℕ) (forced : Bool) (q : Pacer) → Goes p q c slot sequence n → Shows m i pool b (Send c slot sequence n forced)
  unfolding held
  shows_first c slot sequence n forced q f =
      record {
        waits = subst (λ (x : ℕ). 0 < x) (sym (length-waiting m i p pool c) ∙ ap length (ok.lists c)) f.some;
        sequence_is = ap (λ (x : Held). x.entry.entry.sequence) first ∙ ap (λ (e : Entry). e.sequence) (front_is c) ∙ sym f.sequence_is;
        length_is = ap (λ (x : Held). x.entry.entry.length) first ∙ long;
        bytes_are = ap (λ (x : Held). x.bytes) first ∙ ap₂ (λ (t k : ℕ). piece pool (slot_start m i c t) k) (sym f.slot_is) long;
      }
    where
      first : get_or (b.lists c) 0 nobody ≡ held m i c p pool 0
      first = ap (λ (xs : List Held). get_or xs 0 nobody) (sym (ok.lists c)) ∙ get_or-waiting m i p pool c 0 nobody f.some

      long : (entry_at p.queues c 0).entry.length ≡ n
      long = ap (λ (e : Entry). e.length) (front_is c) ∙ sym f.length_is

  sent-by : (q : Pacer) (a : SendAction) → FairBy p q a → Shows m i pool b a × Matches m i (parts_of q pool) (book_sent b a)
  sent-by q (Send c slot sequence n forced) f = (
    shows_first c slot sequence n forced q f,
    stays m i (without c) q pool (book_sent b (Send c slot sequence n forced)) f.queues_are f.next_is (goes c f.some),
  )
  sent-by q Empty f = (tt, stays m i p q pool b f.queues_are f.next_is ok)
  sent-by q (RateLimited wait) f = (tt, stays m i p q pool b f.queues_are f.next_is ok)

  -- every send attempt shows the book's first, and leaves the queues as the book has them
  pub send_matches :
      (time : ℕ) → Shows m i pool b (sent_from p time).1 × Matches m i (parts_of (sent_from p time).0 pool) (book_sent b (sent_from p time).1)
  send_matches time = sent-by (sent_from p time).0 (sent_from p time).1 (fair_sent p time)

-- ---- every list of calls

-- Stays: `all_shown` stands on it.
call_matches :
    (m : Limits) (i : ℕ) (s : Parts) (b : Book) → Matches m i s b → (call : Call)
    → CallShows m i s b call × Matches m i (parts_after m i s call) (book_after m s b call)
unfolding CallShows parts_after book_after rate_set
call_matches m i s b ok (hand_in c key bytes short) = (tt, hand_in_matches m i s b ok key bytes (omega arith) c)
call_matches m i s b ok (try_send time) = send_matches m i s.pacer s.pool b ok time
call_matches m i s b ok (set_rate config time rate) = (tt, stays m i s.pacer (rate_set s.pacer config time rate) s.pool b refl refl ok)

-- A record handed in is shown again byte for byte when it is sent, whatever is handed in and sent between.
-- Stays: docs/GUARANTEES.md names it.
pub all_shown : (m : Limits) (i : ℕ) (calls : List Call) (s : Parts) (b : Book) → Matches m i s b → AllShown m i s b calls
unfolding AllShown
all_shown m i [] s b ok = ok.lists
all_shown m i (call ∷ calls) s b ok =
    let step = call_matches m i s b ok call in
    (ok.lists, step.0, all_shown m i calls (parts_after m i s call) (book_after m s b call) step.1)

-- ---- a new pacer

nothing-waits : (m : Limits) (i time rate : ℕ) (pool : List ℕ) (c : Priority) → waiting m i c (made time m rate) pool ≡ []
unfolding waiting
nothing-waits m i time rate pool P0 = refl
nothing-waits m i time rate pool P1 = refl
nothing-waits m i time rate pool P2 = refl

pub made-matches :
    (m : Limits) (i time rate : ℕ) (pool : List ℕ) → IsLimited m (made time m rate) → bytes_of (i * slots_of m + slots_of m) ≤ length pool
    → Matches m i (parts_of (made time m rate) pool) empty_book
made-matches m i time rate pool ok wide =
    record {
      limited = ok;
      short = record { p0 = All-nil IsShort; p1 = All-nil IsShort; p2 = All-nil IsShortKeyed };
      wide = wide;
      lists = nothing-waits m i time rate pool;
      next = refl;
      next_p2 = refl;
    }

-- The same of a pacer used alone, from its making on.
-- Stays: docs/GUARANTEES.md names it.
pub kept-to_the_byte :
    (N0 N1 N2 : ℕ) (m : Limits) (time rate : ℕ) (pool : List ℕ) → fits N0 N1 N2 m ≡ true → bytes_of (slots_of m) ≤ length pool
    → (calls : List Call) → AllShown m 0 (parts_of (made time m rate) pool) empty_book calls
kept-to_the_byte N0 N1 N2 m time rate pool ok wide calls =
    all_shown m 0 calls (parts_of (made time m rate) pool) empty_book
    (made-matches m 0 time rate pool (limited_made N0 N1 N2 m time rate ok) (omega arith))
