-- One pacer and its page of the book, over a hand-in and a send attempt: the fate that the pacer gives a record is the book's, and the queues
-- hold what the page lists. Assumes nothing.
-- Stays: what Pages, Sound and Waits cite of one pacer beside its page; no crate below has the book's pages.
use Prim.Native.Nat.{ℕ, ◌+◌, ◌≤◌, ◌<◌}
use mathlib.Core.Bool.{Bool, cond}
use mathlib.Core.List.{List}
use mathlib.Core.Path.{◌≡◌, refl, sym, ap, ap₂, subst, ◌∙◌}
use native.Mathlib.Omega.{arith}
use lib.Dec.{ltb}
use lib.ListN.{length}
use Rattle.config.specs.declared.config.Priority.{Priority}
use Rattle.config.specs.declared.config.Priority.TheVariants.{P0, P1, P2}
use Rattle.numeric.proofs.Choice.{by_test}
use Rattle.numeric.specs.Integer.{next}
use Rattle.queue.specs.Coalescing.{Coalescing, inserted}
use Rattle.queue.specs.Fates.{fate_number}
use Rattle.queue.specs.Pool.{Limits, limit_in}
use Rattle.queue.specs.Waiting.{has_room, joins}
use Rattle.queue.specs.declared.entry.InstanceKey.{InstanceKey}
use Rattle.queue.specs.declared.fate.Fate.{Fate}
use Rattle.queue.specs.declared.fate.Fate.TheVariants.{Joined, PushedOut}
use Rattle.queue.specs.declared.fate.Kept.{Kept}
use Rattle.pacing.proofs.Records.{Matches, length-waiting, place-waiting, hand_in_matches, send_matches}
use Rattle.pacing.proofs.RecordsLimits.{is_listed, by_key}
use Rattle.pacing.specs.Records.{Held, place_of, with_list, list_after, Parts, parts_of, parts_handed, book_of, book_handed, book_sent, record_in, Shows}
use Rattle.pacing.specs.Records as records
use Rattle.pacing.specs.WriterPacer.{Pacer, waiting_in, enqueue, enqueue_p0, enqueue_p1, enqueue_p2, handed_in, sent_from, sent_if}
use Rattle.pacing.specs.declared.send_action.SendAction.{SendAction}
use Rattle.pacing.specs.declared.send_action.SendAction.TheVariants.{Send, Empty, RateLimited}
use Rattle.guarantees.specs.Book.{Page, record_of, sequence_of, next_p2_after, handed_by, room_in, sent_as, page_after_send}
use Rattle.guarantees.proofs.Tallies.{fate_of, handed_as, sent-lists}

-- the page as pacing's laws have it
abbrev pub page_view : Page → records.Book
page_view b = book_of (λ (c : Priority). (b.queues c).waiting) b.next b.next_p2

-- ---- the fate

module _ (m : Limits) (i : ℕ) (s : Parts) (b : Page) (ok : Matches m i s (page_view b)) where
  abbrev listed : Priority → List Held
  listed c = (b.queues c).waiting

  -- as many wait as the page lists
  pub count_is : (c : Priority) → waiting_in s.pacer.queues c ≡ length (listed c)
  count_is c = sym (length-waiting m i s.pacer s.pool c) ∙ ap length (ok.lists c)

  -- each queue has a slot
  pub least : (c : Priority) → 1 ≤ limit_in m c
  least P0 = omega (arith, ok.limited.p0.sound.head, ok.limited.p0.limit_is)
  least P1 = omega (arith, ok.limited.p1.sound.head, ok.limited.p1.limit_is)
  least P2 = omega (arith, ok.limited.p2.sound.head, ok.limited.p2.limit_is)

  room_p0 : has_room s.pacer.queues.p0 ≡ room_in m.p0 (listed P0)
  room_p0 = ap₂ ltb (count_is P0) ok.limited.p0.limit_is

  room_p1 : has_room s.pacer.queues.p1 ≡ room_in m.p1 (listed P1)
  room_p1 = ap₂ ltb (count_is P1) ok.limited.p1.limit_is

  room_p2 : has_room s.pacer.queues.p2.waiting ≡ room_in m.p2 (listed P2)
  room_p2 = ap₂ ltb (count_is P2) ok.limited.p2.limit_is

  -- a key waits where the page lists it
  waits_listed : (key : InstanceKey) → is_listed key s.pacer.queues.p2 ≡ ltb (place_of key (listed P2)) (length (listed P2))
  waits_listed key = ap₂ ltb (sym (place-waiting m i s.pacer s.pool key) ∙ ap (place_of key) (ok.lists P2)) (count_is P2)

  fate_p2 : (key : InstanceKey) (n : ℕ) → (inserted s.pacer.queues.p2 key n).1.fate ≡ fate_of m P2 key (listed P2)
  unfolding joins fate_of
  fate_p2 key n =
      by_key (λ (x : Coalescing × Kept). x.1.fate ≡ fate_of m P2 key (listed P2)) s.pacer.queues.p2 key n
      (λ e. rw (sym (waits_listed key) ∙ e))
      (λ e. rw (sym (waits_listed key) ∙ e) (ap (λ (t : Bool). cond t Joined PushedOut) room_p2))

  -- a hand-in's record meets the fate that the book has for it
  pub fate_is : (c : Priority) (key : InstanceKey) (n : ℕ) → (handed_in s.pacer c key n).1.fate ≡ fate_of m c key (listed c)
  unfolding handed_in enqueue enqueue_p0 enqueue_p1 enqueue_p2 joins fate_of
  fate_is P0 key n =
      by_test (λ (x : Pacer × Kept). x.1.fate ≡ fate_of m P0 key (listed P0)) (has_room s.pacer.queues.p0) (λ e. rw (e, sym room_p0 ∙ e))
      (λ e. rw (sym room_p0 ∙ e))
  fate_is P1 key n = ap (λ (t : Bool). cond t Joined PushedOut) room_p1
  fate_is P2 key n = fate_p2 key n

-- ---- the pages of the book, where no counter saturates

matches_as :
    (m : Limits) (i : ℕ) (s : Parts) (b b' : records.Book) → ((c : Priority) → b.lists c ≡ b'.lists c) → b.next ≡ b'.next → b.next_p2 ≡ b'.next_p2
    → Matches m i s b → Matches m i s b'
matches_as m i s b b' lists next next_p2 ok =
    record {
      limited = ok.limited;
      short = ok.short;
      wide = ok.wide;
      lists = λ c. ok.lists c ∙ lists c;
      next = ok.next ∙ next;
      next_p2 = ok.next_p2 ∙ next_p2;
    }

exact : (n : ℕ) → n < 18446744073709551615 → next n ≡ n + 1
exact n h = omega arith

exact_p2 : (b : Page) (c : Priority) → b.next_p2 < 18446744073709551615 → records.next_p2_after (page_view b) c ≡ next_p2_after b c
exact_p2 b P0 h = refl
exact_p2 b P1 h = refl
exact_p2 b P2 h = exact b.next_p2 h

sequence_as : (b : Page) (c : Priority) → records.sequence_in (page_view b) c ≡ sequence_of b c
sequence_as b P0 = refl
sequence_as b P1 = refl
sequence_as b P2 = refl

record_is : (b : Page) (c : Priority) (key : InstanceKey) (bytes : List ℕ) → record_in (page_view b) c key bytes ≡ record_of b c key bytes
record_is b c key bytes = rw (sequence_as b c)

-- a hand-in leaves the queues as the page has them
pub hands_in :
    (m : Limits) (i : ℕ) (s : Parts) (b : Page) (c : Priority) (key : InstanceKey) (bytes : List ℕ)
    → Matches m i s (page_view b) → length bytes ≤ 1472 → b.next < 18446744073709551615 → b.next_p2 < 18446744073709551615
    → Matches m i (parts_handed m i s c key bytes) (page_view (handed_by m b c key bytes (fate_number (handed_in s.pacer c key (length bytes)).1.fate)))
hands_in m i s b c key bytes ok n lo lo2 =
    let page = handed_as m b key bytes c in
    subst (λ (f : Fate). Matches m i (parts_handed m i s c key bytes) (page_view (handed_by m b c key bytes (fate_number f))))
    (sym (fate_is m i s b ok c key (length bytes)))
    (matches_as m i (parts_handed m i s c key bytes) (book_handed m (page_view b) c key bytes)
    (page_view (handed_by m b c key bytes (fate_number (fate_of m c key (b.queues c).waiting))))
    (λ d.
    ap (λ (x : Held). with_list (λ (e : Priority). (b.queues e).waiting) c (list_after m c key (b.queues c).waiting x) d) (record_is b c key bytes)
    ∙ page.lists d)
    (exact b.next lo ∙ sym page.next)
    (exact_p2 b c lo2 ∙ sym page.next_p2)
    (hand_in_matches m i s (page_view b) ok key bytes n c))

-- ---- a send attempt

sent_as_lem :
    (m : Limits) (i : ℕ) (s : Parts) (b : Page) (a : SendAction)
    → Matches m i s (book_sent (page_view b) a)
    → Matches m i s (page_view (page_after_send b (sent_as a)))
unfolding page_after_send
sent_as_lem m i s b (Send c slot sequence n forced) ok =
    matches_as m i s (book_sent (page_view b) (Send c slot sequence n forced)) _ (sent-lists b c) refl refl ok
sent_as_lem m i s b Empty ok = ok
sent_as_lem m i s b (RateLimited wait) ok = ok

-- what an attempt shows is the page's first, and it leaves the queues as the page has them
abbrev pub TriedBy : Limits → ℕ → Parts → Page → Pacer × SendAction → Type 0
TriedBy m i s b x =
    Shows m i s.pool (page_view b) x.1 × Matches m i (parts_of x.0 s.pool) (page_view (page_after_send b (sent_as x.1)))

pub tries_out :
    (m : Limits) (i : ℕ) (s : Parts) (b : Page) (enabled : Bool) (time : ℕ) → Matches m i s (page_view b)
    → TriedBy m i s b (sent_if enabled s.pacer time)
unfolding sent_if
tries_out m i s b enabled time ok =
    by_test (TriedBy m i s b) enabled
    (λ e. let h = send_matches m i s.pacer s.pool (page_view b) ok time in (h.0, sent_as_lem m i _ b (sent_from s.pacer time).1 h.1))
    (λ e. (tt, unfold page_after_send in ok))
