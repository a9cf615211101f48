-- What a hand-in and a send attempt add to the lengths of the book's lists is what the counts of their pacer add. Assumes nothing.
-- Stays: what HandIns, Pages and Sound cite of counts beside the lists of the book; pacing's Counts says what a call adds, and knows no book.
use Prim.Native.Nat.{ℕ, ◌+◌, ◌≤◌, ◌<◌}
use mathlib.Core.Bool.{Bool, true, false, cond}
use mathlib.Core.List.{List, [], ◌∷◌, ◌++◌}
use mathlib.Core.Logic.{◌≢◌}
use mathlib.Core.Path.{◌≡◌, refl, ap, ◌∙◌}
use native.Mathlib.Omega.{arith}
use borrow.Author.Tests.{eqb-false, ltb-true, ltb-false}
use lib.Dec.{ltb, eqb}
use lib.ListN.{length, take, drop, length-append, length-take, length-drop}
use Rattle.config.specs.Config.{class_number}
use Rattle.config.specs.declared.config.Priority.{Priority}
use Rattle.config.specs.declared.config.Priority.TheVariants.{P0, P1, P2}
use Rattle.numeric.proofs.Choice.{by_test}
use Rattle.queue.specs.Fates.{fate_number}
use Rattle.queue.specs.Pool.{Limits, limit_in}
use Rattle.queue.specs.declared.entry.InstanceKey.{InstanceKey}
use Rattle.queue.specs.declared.fate.Fate.{Fate}
use Rattle.queue.specs.declared.fate.Fate.TheVariants.{Full, Joined, PushedOut, Replaced}
use Rattle.pacing.specs.Counts.{count_in, only_at, hand_adds, send_adds}
use Rattle.pacing.specs.Records.{Held, place_of, join_list, list_after, with_list}
use Rattle.pacing.specs.WriterPacer.{Pacer, made, metrics_in}
use Rattle.pacing.specs.declared.pacer_counts.WriterPacerMetrics.{WriterPacerMetrics}
use Rattle.pacing.specs.declared.send_action.SendAction.{SendAction}
use Rattle.pacing.specs.declared.send_action.SendAction.TheVariants.{Send, Empty, RateLimited}
use Rattle.guarantees.specs.Book.{Queue, room_in, joining, replacing, keyed_in, handed_to, taken_from, Page, empty_page, with_queue, next_p2_after, record_of, handed_by, page_sent, sent_as, page_after_send}
use Rattle.guarantees.specs.Theorem.{enqueued_of, sent_of, dropped_of, coalesced_of}

-- ---- fates

-- the fate that a record meets in the book
unfoldable pub fate_of : Limits → Priority → InstanceKey → List Held → Fate
fate_of m P0 key xs = cond (room_in m.p0 xs) Joined Full
fate_of m P1 key xs = cond (room_in m.p1 xs) Joined PushedOut
fate_of m P2 key xs = cond (ltb (place_of key xs) (length xs)) Replaced (cond (room_in m.p2 xs) Joined PushedOut)

-- ---- lists

-- the list that waits in a queue chosen by a test is the one chosen
chosen-waiting : (t : Bool) (q r : Queue) → cond t q.waiting r.waiting ≡ (cond t q r).waiting
chosen-waiting true q r = refl
chosen-waiting false q r = refl

-- lists are exchanged as their queues are
exchanged-waiting :
    (queues : Priority → Queue) (c : Priority) (q : Queue) (d : Priority)
    → with_list (λ (c : Priority). (queues c).waiting) c q.waiting d ≡ (with_queue queues c q d).waiting
unfolding with_list with_queue
exchanged-waiting queues c q d = chosen-waiting (eqb (class_number d) (class_number c)) q (queues d)

-- a send attempt's record leaves the book's list as it leaves the pacer's
pub sent-lists :
    (b : Page) (c d : Priority)
    → with_list (λ (c : Priority). (b.queues c).waiting) c (drop 1 (b.queues c).waiting) d ≡ ((page_sent b c).queues d).waiting
unfolding taken_from
sent-lists b c d = exchanged-waiting b.queues c (taken_from (b.queues c)) d

-- ---- lengths

-- a queue with so many more records accepted, sent, pushed out and replaced
pub record Wider (q r : Queue) (accepts sends pushes replaces : ℕ) : Type 0 where
  pub accepted : length r.accepted ≡ length q.accepted + accepts
  pub sent : length r.sent ≡ length q.sent + sends
  pub pushed : length r.pushed_out ≡ length q.pushed_out + pushes
  pub replaced : length r.replaced ≡ length q.replaced + replaces

wider_same : (q : Queue) → Wider q q 0 0 0 0
wider_same q = record { accepted = omega arith; sent = omega arith; pushed = omega arith; replaced = omega arith }

-- the first of a list that has one
first_more : (xs ys : List Held) → 1 ≤ length ys → length (xs ++ take 1 ys) ≡ length xs + 1
first_more xs ys h = rw (length-append xs (take 1 ys)) (omega (arith, length-take 1 ys))

wider_joined : (limit : ℕ) (q : Queue) (x : Held) → room_in limit q.waiting ≡ true → Wider q (joining limit q x) 1 0 0 0
unfolding joining
wider_joined limit q x e =
    record {
      accepted = length-append q.accepted (x ∷ []);
      sent = omega arith;
      pushed = rw e (length-append q.pushed_out []);
      replaced = omega arith;
    }

wider_pushed : (limit : ℕ) (q : Queue) (x : Held) → 1 ≤ limit → room_in limit q.waiting ≡ false → Wider q (joining limit q x) 1 0 1 0
unfolding joining
wider_pushed limit q x h e =
    record {
      accepted = length-append q.accepted (x ∷ []);
      sent = omega arith;
      pushed = rw e (first_more q.pushed_out q.waiting (omega (arith, ltb-false (length q.waiting) limit e)));
      replaced = omega arith;
    }

wider_replaced : (place : ℕ) (q : Queue) (x : Held) → place < length q.waiting → Wider q (replacing place q x) 1 0 0 1
unfolding replacing
wider_replaced place q x h =
    record {
      accepted = length-append q.accepted (x ∷ []);
      sent = omega arith;
      pushed = omega arith;
      replaced = first_more q.replaced (drop place q.waiting) (omega (arith, length-drop place q.waiting));
    }

wider_taken : (q : Queue) → 1 ≤ length q.waiting → Wider q (taken_from q) 0 1 0 0
unfolding taken_from
wider_taken q h =
    record { accepted = omega arith; sent = first_more q.sent q.waiting h; pushed = omega arith; replaced = omega arith }

-- ---- tallies

-- the counts of a pacer are the lengths of its lists in the book
pub record IsTallied (p : Pacer) (b : Page) : Type 0 where
  pub accepted : (c : Priority) → enqueued_of (metrics_in p) c ≡ length (b.queues c).accepted
  pub sent : (c : Priority) → sent_of (metrics_in p) c ≡ length (b.queues c).sent
  pub pushed_out : (c : Priority) → dropped_of (metrics_in p) c ≡ length (b.queues c).pushed_out
  pub replaced : (c : Priority) → coalesced_of (metrics_in p) c ≡ length (b.queues c).replaced

-- a pacer whose counts but P2's waiting bytes have f more, bytes, waits and forced sends apart
abbrev pub Adds : Pacer → Pacer → (ℕ → ℕ) → Type 0
Adds p p' f = (k : ℕ) → k < 10 → k ≢ 2 → count_in p' k ≡ count_in p k + f k

-- what that adds to a class's records pushed out and replaced
abbrev pushes_in : (ℕ → ℕ) → Priority → ℕ
pushes_in f P0 = 0
pushes_in f P1 = f 9
pushes_in f P2 = f 1

abbrev replaces_in : (ℕ → ℕ) → Priority → ℕ
replaces_in f P0 = 0
replaces_in f P1 = 0
replaces_in f P2 = f 0

-- a page whose lists grow by as much
abbrev pub Grown : (ℕ → ℕ) → Page → Page → Type 0
Grown f b b' = (c : Priority) → Wider (b.queues c) (b'.queues c) (f (3 + class_number c)) (f (6 + class_number c)) (pushes_in f c) (replaces_in f c)

module _ (p p' : Pacer) (f : ℕ → ℕ) (adds : Adds p p' f) where
  at : (k : ℕ) → ltb k 10 ≡ true → eqb k 2 ≡ false → count_in p' k ≡ count_in p k + f k
  at k lo ne = adds k (ltb-true k 10 lo) (eqb-false k 2 ne)

  enqueued_more : (c : Priority) → enqueued_of (metrics_in p') c ≡ enqueued_of (metrics_in p) c + f (3 + class_number c)
  enqueued_more P0 = at 3 refl refl
  enqueued_more P1 = at 4 refl refl
  enqueued_more P2 = at 5 refl refl

  sent_more : (c : Priority) → sent_of (metrics_in p') c ≡ sent_of (metrics_in p) c + f (6 + class_number c)
  sent_more P0 = at 6 refl refl
  sent_more P1 = at 7 refl refl
  sent_more P2 = at 8 refl refl

  dropped_more : (c : Priority) → dropped_of (metrics_in p') c ≡ dropped_of (metrics_in p) c + pushes_in f c
  dropped_more P0 = refl
  dropped_more P1 = at 9 refl refl
  dropped_more P2 = at 1 refl refl

  coalesced_more : (c : Priority) → coalesced_of (metrics_in p') c ≡ coalesced_of (metrics_in p) c + replaces_in f c
  coalesced_more P0 = refl
  coalesced_more P1 = refl
  coalesced_more P2 = at 0 refl refl

  -- tallies stay where the lists grow by what the counts add
  grown_tallied : (b b' : Page) → IsTallied p b → Grown f b b' → IsTallied p' b'
  grown_tallied b b' t w =
      record {
        accepted = λ c. omega (arith, enqueued_more c, t.accepted c, (w c).accepted);
        sent = λ c. omega (arith, sent_more c, t.sent c, (w c).sent);
        pushed_out = λ c. omega (arith, dropped_more c, t.pushed_out c, (w c).pushed);
        replaced = λ c. omega (arith, coalesced_more c, t.replaced c, (w c).replaced);
      }

-- ---- a hand-in

by_classes : (P : Priority → Type 0) → P P0 → P P1 → P P2 → (c : Priority) → P c
by_classes P p0 p1 p2 P0 = p0
by_classes P p0 p1 p2 P1 = p1
by_classes P p0 p1 p2 P2 = p2

-- a class's lists stay
abbrev same : (b : Page) (c : Priority) → Wider (b.queues c) (b.queues c) 0 0 0 0
same b c = wider_same (b.queues c)

module _ (m : Limits) (b : Page) (key : InstanceKey) (bytes : List ℕ) where
  abbrev pub waiting : Priority → List Held
  waiting c = (b.queues c).waiting

  -- the page where the record of a hand-in to class c meets a fate
  abbrev pub handed : Priority → Fate → Page
  handed c f = handed_by m b c key bytes (fate_number f)

  -- it has the lists that the pacer's queues have; every hand-in uses up a number, and a P2 hand-in one of P2's; and the lists grow by what
  -- the counts add
  pub record Handed (c : Priority) (f : Fate) : Type 0 where
    pub lists : (d : Priority) → with_list waiting c (list_after m c key (waiting c) (record_of b c key bytes)) d ≡ ((handed c f).queues d).waiting
    pub next : (handed c f).next ≡ b.next + 1
    pub next_p2 : (handed c f).next_p2 ≡ next_p2_after b c
    pub grown : 1 ≤ limit_in m c → Grown (hand_adds c f) b (handed c f)

  -- a record taken in joins the book's list as it joins the pacer's
  taken-lists :
      (c : Priority) → list_after m c key (waiting c) (record_of b c key bytes) ≡ (handed_to m c key (b.queues c) (record_of b c key bytes)).waiting
      → (d : Priority) → with_list waiting c (list_after m c key (waiting c) (record_of b c key bytes)) d ≡ ((handed c Joined).queues d).waiting
  unfolding handed_by
  taken-lists c e d =
      ap (λ (xs : List Held). with_list waiting c xs d) e ∙ exchanged-waiting b.queues c (handed_to m c key (b.queues c) (record_of b c key bytes)) d

  p2-lists : (d : Priority) → with_list waiting P2 (list_after m P2 key (waiting P2) (record_of b P2 key bytes)) d ≡ ((handed P2 Joined).queues d).waiting
  unfolding list_after handed_to joining join_list keyed_in replacing
  p2-lists = taken-lists P2 (chosen-waiting (ltb (place_of key (waiting P2)) (length (waiting P2))) _ _)

  pub handed_as : (c : Priority) → Handed c (fate_of m c key (waiting c))
  unfolding fate_of handed_by hand_adds only_at with_queue handed_to keyed_in list_after joining join_list with_list
  handed_as P0 =
      by_test (Handed P0) (room_in m.p0 (waiting P0))
      (λ e.
      record {
        lists = taken-lists P0 (rw e);
        next = refl;
        next_p2 = refl;
        grown = λ some. by_classes _ (wider_joined m.p0 (b.queues P0) _ e) (same b P1) (same b P2);
      })
      (λ e.
      record {
        lists = by_classes _ (rw e) refl refl;
        next = refl;
        next_p2 = refl;
        grown = λ some. by_classes _ (same b P0) (same b P1) (same b P2);
      })
  handed_as P1 =
      by_test (Handed P1) (room_in m.p1 (waiting P1))
      (λ e.
      record {
        lists = taken-lists P1 refl;
        next = refl;
        next_p2 = refl;
        grown = λ some. by_classes _ (same b P0) (wider_joined m.p1 (b.queues P1) _ e) (same b P2);
      })
      (λ e.
      record {
        lists = taken-lists P1 refl;
        next = refl;
        next_p2 = refl;
        grown = λ some. by_classes _ (same b P0) (wider_pushed m.p1 (b.queues P1) _ some e) (same b P2);
      })
  handed_as P2 =
      by_test (Handed P2) (ltb (place_of key (waiting P2)) (length (waiting P2)))
      (λ e.
      record {
        lists = p2-lists;
        next = refl;
        next_p2 = refl;
        grown = λ some. by_classes _ (same b P0) (same b P1) (rw e (wider_replaced (place_of key (waiting P2)) (b.queues P2) _ (ltb-true _ _ e)));
      })
      (λ e.
      by_test (Handed P2) (room_in m.p2 (waiting P2))
      (λ r.
      record {
        lists = p2-lists;
        next = refl;
        next_p2 = refl;
        grown = λ some. by_classes _ (same b P0) (same b P1) (rw e (wider_joined m.p2 (b.queues P2) _ r));
      })
      (λ r.
      record {
        lists = p2-lists;
        next = refl;
        next_p2 = refl;
        grown = λ some. by_classes _ (same b P0) (same b P1) (rw e (wider_pushed m.p2 (b.queues P2) _ some r));
      }))

pub handed_next :
    (m : Limits) (b : Page) (c : Priority) (key : InstanceKey) (bytes : List ℕ)
    → (handed_by m b c key bytes (fate_number (fate_of m c key (b.queues c).waiting))).next ≡ b.next + 1
handed_next m b c key bytes = (handed_as m b key bytes c).next

-- tallies stay through a hand-in
pub handed_tallied :
    (m : Limits) (b : Page) (c : Priority) (key : InstanceKey) (bytes : List ℕ) (p p' : Pacer) → IsTallied p b
    → Adds p p' (hand_adds c (fate_of m c key (b.queues c).waiting)) → 1 ≤ limit_in m c
    → IsTallied p' (handed_by m b c key bytes (fate_number (fate_of m c key (b.queues c).waiting)))
handed_tallied m b c key bytes p p' t adds some = grown_tallied p p' _ adds b _ t ((handed_as m b key bytes c).grown some)

-- ---- a send attempt

-- a class that sends has a record
abbrev pub Waits : Page → SendAction → Type 0
Waits b (Send c slot sequence n forced) = 1 ≤ length (b.queues c).waiting
Waits b Empty = Unit {0}
Waits b (RateLimited wait) = Unit {0}

sent_grown : (b : Page) (a : SendAction) → Waits b a → Grown (send_adds a) b (page_after_send b (sent_as a))
unfolding send_adds only_at with_queue page_after_send
sent_grown b (Send P0 slot sequence n true) h = by_classes _ (wider_taken (b.queues P0) h) (same b P1) (same b P2)
sent_grown b (Send P0 slot sequence n false) h = by_classes _ (wider_taken (b.queues P0) h) (same b P1) (same b P2)
sent_grown b (Send P1 slot sequence n true) h = by_classes _ (same b P0) (wider_taken (b.queues P1) h) (same b P2)
sent_grown b (Send P1 slot sequence n false) h = by_classes _ (same b P0) (wider_taken (b.queues P1) h) (same b P2)
sent_grown b (Send P2 slot sequence n true) h = by_classes _ (same b P0) (same b P1) (wider_taken (b.queues P2) h)
sent_grown b (Send P2 slot sequence n false) h = by_classes _ (same b P0) (same b P1) (wider_taken (b.queues P2) h)
sent_grown b Empty h = by_classes _ (same b P0) (same b P1) (same b P2)
sent_grown b (RateLimited wait) h = by_classes _ (same b P0) (same b P1) (same b P2)

-- tallies stay through a send attempt
pub sent_tallied :
    (b : Page) (a : SendAction) (p p' : Pacer) → IsTallied p b → Adds p p' (send_adds a) → Waits b a
    → IsTallied p' (page_after_send b (sent_as a))
sent_tallied b a p p' t adds h = grown_tallied p p' _ adds b _ t (sent_grown b a h)

-- ---- pacers that are called on for neither

-- counts that stay
pub tallied_same : (p p' : Pacer) (b : Page) → metrics_in p' ≡ metrics_in p → IsTallied p b → IsTallied p' b
tallied_same p p' b same t =
    record {
      accepted = λ c. ap (λ (x : WriterPacerMetrics). enqueued_of x c) same ∙ t.accepted c;
      sent = λ c. ap (λ (x : WriterPacerMetrics). sent_of x c) same ∙ t.sent c;
      pushed_out = λ c. ap (λ (x : WriterPacerMetrics). dropped_of x c) same ∙ t.pushed_out c;
      replaced = λ c. ap (λ (x : WriterPacerMetrics). coalesced_of x c) same ∙ t.replaced c;
    }

-- a new pacer has counted nothing
pub tallied_new : (time : ℕ) (m : Limits) (rate : ℕ) → IsTallied (made time m rate) empty_page
tallied_new time m rate =
    record {
      accepted = by_classes _ refl refl refl;
      sent = by_classes _ refl refl refl;
      pushed_out = by_classes _ refl refl refl;
      replaced = by_classes _ refl refl refl;
    }
