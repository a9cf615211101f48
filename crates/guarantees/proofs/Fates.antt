-- Each accepted record has exactly one fate in the book, whatever calls and answers the book is told. Assumes nothing.
-- Stays: what Pages, Sound and Starts cite of a record's one fate in the book; std has no list in four parts, and no crate below has the book.
use Prim.Native.Nat.{ℕ, zero, suc, ◌+◌, ◌≤◌, ◌<◌}
use mathlib.Core.Bool.{Bool, true, false, cond}
use mathlib.Core.List.Memᴰ
use mathlib.Core.List.{List, [], ◌∷◌, ◌++◌, Memᴰ}
use mathlib.Core.Logic.{◌≢◌, ⊎_elim}
use mathlib.Core.Path.{◌≡◌, refl, ap, ◌∙◌}
use native.Mathlib.Decide.{ℕ_discrete}
use native.Mathlib.Omega.{arith}
use borrow.Author.Tests.{eq-eqb, ne_eqb, ltb-true}
use lib.Dec.{ltb, eqb}
use lib.ListN.{length, set, take, drop}
use Rattle.config.specs.Refusal.{accepted, queue_full}
use Rattle.config.specs.declared.config.Priority.{Priority}
use Rattle.config.specs.declared.config.Priority.TheVariants.{P0, P1, P2}
use Rattle.numeric.proofs.Choice.{by_test}
use Rattle.queue.specs.declared.entry.InstanceKey.{InstanceKey}
use Rattle.queue.specs.Pool.{Limits}
use Rattle.pacing.specs.Records.{Held, shaped, place_of}
use Rattle.guarantees.specs.Book.{Queue, room_in, joining, replacing, keyed_in, handed_to, taken_from, Page, page_of, empty_page, with_queue, sequence_of, next_p2_after, record_of, page_handed, page_used, handed_by, page_sent, Book, with_page, Sent, none, one, page_after_send, noted}
use Rattle.guarantees.specs.Calls.{Call, register, control, hand_in, send}
use Rattle.guarantees.specs.Theorem.{weigh, numbered, fates, HasOneFate}

-- ---- sums over lists

-- what is summed over the four places of a queue's records
abbrev four : (Held → ℕ) → Queue → ℕ
four w q = weigh w q.sent + weigh w q.pushed_out + weigh w q.replaced + weigh w q.waiting

-- 1 for each record makes the length
pub weigh-one : (xs : List Held) → weigh (λ x. 1) xs ≡ length xs
unfolding weigh
weigh-one [] = refl
weigh-one (x ∷ xs) = omega (arith, weigh-one xs)

module _ (w : Held → ℕ) where
  -- two lists weigh what each weighs
  weigh-append : (xs ys : List Held) → weigh w (xs ++ ys) ≡ weigh w xs + weigh w ys
  unfolding weigh
  weigh-append [] ys = omega arith
  weigh-append (x ∷ xs) ys = omega (arith, weigh-append xs ys)

  -- one more record weighs what it weighs
  weigh-more : (xs : List Held) (x : Held) → weigh w (xs ++ (x ∷ [])) ≡ weigh w xs + w x
  weigh-more xs x = unfold weigh in omega (arith, weigh-append xs (x ∷ []))

  -- the first and the others make the list
  weigh-first : (xs : List Held) → weigh w (take 1 xs) + weigh w (drop 1 xs) ≡ weigh w xs
  unfolding weigh
  weigh-first [] = refl
  weigh-first (x ∷ xs) = omega arith

  -- a record in the place of another
  weigh-set : (xs : List Held) (place : ℕ) (x : Held) → place < length xs → weigh w (set xs place x) + weigh w (take 1 (drop place xs)) ≡ weigh w xs + w x
  unfolding weigh
  weigh-set [] place x h = absurd (omega arith)
  weigh-set (y ∷ xs) zero x h = omega arith
  weigh-set (y ∷ xs) (suc place) x h = omega (arith, weigh-set xs place x (omega arith))

  -- a member weighs at most as much as its list
  weigh-member : (x : Held) (xs : List Held) → Memᴰ x xs → w x ≤ weigh w xs
  unfolding weigh
  weigh-member x [] m = absurd (Memᴰ.not-nil m)
  weigh-member x (y ∷ xs) m =
      ⊎_elim (λ (e : x ≡ y). omega (arith, ap w e)) (λ (n : Memᴰ x xs). omega (arith, weigh-member x xs n)) (Memᴰ.cases_cons m)

  -- ---- a record that joins a queue adds its own weight to the four, and one that is sent none

  four-joining : (limit : ℕ) (q : Queue) (x : Held) → four w (joining limit q x) ≡ four w q + w x
  unfolding joining
  four-joining limit q x = go (room_in limit q.waiting)
    where
      go :
          (t : Bool)
          → weigh w q.sent + weigh w (q.pushed_out ++ cond t [] (take 1 q.waiting)) + weigh w q.replaced
          + weigh w (cond t q.waiting (drop 1 q.waiting) ++ (x ∷ []))
          ≡ four w q + w x
      go true = unfold weigh in omega (arith, weigh-append q.pushed_out [], weigh-more q.waiting x)
      go false = omega (arith, weigh-append q.pushed_out (take 1 q.waiting), weigh-more (drop 1 q.waiting) x, weigh-first q.waiting)

  four-replacing : (place : ℕ) (q : Queue) (x : Held) → place < length q.waiting → four w (replacing place q x) ≡ four w q + w x
  unfolding replacing
  four-replacing place q x h =
      omega (arith, weigh-append q.replaced (take 1 (drop place q.waiting)), weigh-set q.waiting place x h)

  four-handed : (m : Limits) (c : Priority) (key : InstanceKey) (q : Queue) (x : Held) → four w (handed_to m c key q x) ≡ four w q + w x
  unfolding handed_to keyed_in
  four-handed m P0 key q x = four-joining m.p0 q x
  four-handed m P1 key q x = four-joining m.p1 q x
  four-handed m P2 key q x =
      by_test (λ (r : Queue). four w r ≡ four w q + w x) (ltb (place_of key q.waiting) (length q.waiting))
      (λ t. four-replacing (place_of key q.waiting) q x (ltb-true _ _ t)) (λ t. four-joining m.p2 q x)

  four-taken : (q : Queue) → four w (taken_from q) ≡ four w q
  unfolding taken_from
  four-taken q = omega (arith, weigh-append q.sent (take 1 q.waiting), weigh-first q.waiting)

-- what was accepted has the record at its end, wherever the record goes
accepted_handed : (m : Limits) (c : Priority) (key : InstanceKey) (q : Queue) (x : Held) → (handed_to m c key q x).accepted ≡ q.accepted ++ (x ∷ [])
unfolding handed_to keyed_in joining replacing
accepted_handed m P0 key q x = refl
accepted_handed m P1 key q x = refl
accepted_handed m P2 key q x =
    by_test (λ (r : Queue). r.accepted ≡ q.accepted ++ (x ∷ [])) (ltb (place_of key q.waiting) (length q.waiting)) (λ t. refl) (λ t. refl)

-- ---- one number

-- a record counts 1 under its own number, and 0 under another
numbered-own : (n : ℕ) (x : Held) → x.entry.entry.sequence ≡ n → numbered n x ≡ 1
unfolding numbered
numbered-own n x e = rw (eq-eqb x.entry.entry.sequence n e)

numbered_other : (n : ℕ) (x : Held) → x.entry.entry.sequence ≢ n → numbered n x ≡ 0
unfolding numbered
numbered_other n x e = rw (ne_eqb x.entry.entry.sequence n e)

-- ---- one queue

-- the four places have what was accepted, the numbers from `next` on are not given out, and none is given out twice
pub record IsBalanced (q : Queue) (next : ℕ) : Type 0 where
  pub whole : (w : Held → ℕ) → weigh w q.accepted ≡ weigh w q.sent + weigh w q.pushed_out + weigh w q.replaced + weigh w q.waiting
  pub fresh : (n : ℕ) → next ≤ n → weigh (numbered n) q.accepted ≡ 0
  pub once : (n : ℕ) → weigh (numbered n) q.accepted ≤ 1

-- whatever the four places have, each accepted record is in one of them
pub one-fate : (q : Queue) (next : ℕ) → IsBalanced q next → HasOneFate q
one-fate q next ok =
    record {
      exactly_one = λ x m.
          let n : ℕ = x.entry.entry.sequence in
          unfold fates in omega (arith, ok.whole (numbered n), ok.once n, weigh-member (numbered n) x q.accepted m, numbered-own n x refl);
      whole = ok.whole;
      sum =
          omega
          (arith, ok.whole (λ x. 1), weigh-one q.accepted, weigh-one q.sent, weigh-one q.pushed_out, weigh-one q.replaced, weigh-one q.waiting);
    }

-- numbers may be left out
balanced-later : (q : Queue) (n m : ℕ) → n ≤ m → IsBalanced q n → IsBalanced q m
balanced-later q n m h ok = record { whole = ok.whole; fresh = λ k l. ok.fresh k (omega arith); once = ok.once }

-- a record under the next number
balanced-more :
    (m : Limits) (c : Priority) (key : InstanceKey) (q : Queue) (x : Held) (next : ℕ) → x.entry.entry.sequence ≡ next → IsBalanced q next
    → IsBalanced (handed_to m c key q x) (next + 1)
balanced-more m c key q x next e ok =
    record {
      whole = λ w. omega (arith, more w, ok.whole w, four-handed w m c key q x);
      fresh = λ n h. omega (arith, more (numbered n), ok.fresh n (omega arith), numbered_other n x (omega arith));
      once = λ n. go n (ℕ_discrete x.entry.entry.sequence n);
    }
  where
    more : (w : Held → ℕ) → weigh w (handed_to m c key q x).accepted ≡ weigh w q.accepted + w x
    more w = ap (weigh w) (accepted_handed m c key q x) ∙ weigh-more w q.accepted x

    go : (n : ℕ) → Dec (x.entry.entry.sequence ≡ n) → weigh (numbered n) (handed_to m c key q x).accepted ≤ 1
    go n (yes d) = omega (arith, more (numbered n), ok.fresh n (omega arith), numbered-own n x d)
    go n (no d) = omega (arith, more (numbered n), ok.once n, numbered_other n x d)

-- a record sent goes from one place to another
balanced-taken : (q : Queue) (next : ℕ) → IsBalanced q next → IsBalanced (taken_from q) next
balanced-taken q next ok =
    record {
      whole = λ w. omega (arith, same w, ok.whole w, four-taken w q);
      fresh = λ n h. omega (arith, same (numbered n), ok.fresh n h);
      once = λ n. omega (arith, same (numbered n), ok.once n);
    }
  where
    same : (w : Held → ℕ) → weigh w (taken_from q).accepted ≡ weigh w q.accepted
    same w = unfold taken_from in refl

-- ---- one page

pub record IsBalancedPage (b : Page) : Type 0 where
  pub balanced : (c : Priority) → IsBalanced (b.queues c) (sequence_of b c)
  -- P2 has used up no more numbers than the pacer
  pub fewer_p2 : b.next_p2 ≤ b.next

-- with one class's queue exchanged, a claim about every class is owed for that class alone
by_queue :
    (P : Priority → Queue → Type 0) (queues : Priority → Queue) (c : Priority) (q : Queue) → P c q → ((d : Priority) → P d (queues d))
    → (d : Priority) → P d (with_queue queues c q d)
unfolding with_queue
by_queue P queues P0 q here there P0 = here
by_queue P queues P0 q here there P1 = there P1
by_queue P queues P0 q here there P2 = there P2
by_queue P queues P1 q here there P0 = there P0
by_queue P queues P1 q here there P1 = here
by_queue P queues P1 q here there P2 = there P2
by_queue P queues P2 q here there P0 = there P0
by_queue P queues P2 q here there P1 = there P1
by_queue P queues P2 q here there P2 = here

-- nothing was accepted, and no number is given out
pub balanced_empty : IsBalancedPage empty_page
unfolding weigh
balanced_empty =
    record {
      balanced = λ c. record { whole = λ w. refl; fresh = λ n h. refl; once = λ n. omega arith };
      fewer_p2 = omega arith;
    }

-- counters that move on leave every class's next number where it was or later
sequence_later : (b d : Page) → b.next ≤ d.next → b.next_p2 ≤ d.next_p2 → (c : Priority) → sequence_of b c ≤ sequence_of d c
sequence_later b d h k P0 = h
sequence_later b d h k P1 = h
sequence_later b d h k P2 = k

-- a hand-in moves its class's counter by one
sequence_handed :
    (m : Limits) (b : Page) (c : Priority) (key : InstanceKey) (bytes : List ℕ) → sequence_of b c + 1 ≤ sequence_of (page_handed m b c key bytes) c
sequence_handed m b P0 key bytes = omega arith
sequence_handed m b P1 key bytes = omega arith
sequence_handed m b P2 key bytes = omega arith

-- a record is under its class's next number
sequence_shaped : (b : Page) (c : Priority) (key : InstanceKey) (bytes : List ℕ) → (record_of b c key bytes).entry.entry.sequence ≡ sequence_of b c
unfolding shaped
sequence_shaped b P0 key bytes = refl
sequence_shaped b P1 key bytes = refl
sequence_shaped b P2 key bytes = refl

-- a number used up
balanced-used : (b : Page) → IsBalancedPage b → IsBalancedPage (page_used b)
balanced-used b ok =
    record {
      balanced = λ c. balanced-later (b.queues c) (sequence_of b c) _ (sequence_later b (page_used b) (omega arith) (omega arith) c) (ok.balanced c);
      fewer_p2 = omega (arith, ok.fewer_p2);
    }

-- one class's queue exchanged, and counters that did not move back
balanced-with_queue :
    (b : Page) (c : Priority) (q : Queue) (next next_p2 : ℕ) → b.next ≤ next → b.next_p2 ≤ next_p2 → next_p2 ≤ next
    → IsBalanced q (sequence_of (page_of (with_queue b.queues c q) next next_p2) c) → IsBalancedPage b
    → IsBalancedPage (page_of (with_queue b.queues c q) next next_p2)
balanced-with_queue b c q next next_p2 h k fewer_p2 own ok =
    let after : Page = page_of (with_queue b.queues c q) next next_p2 in
    record {
      balanced =
          by_queue (λ (d : Priority) (r : Queue). IsBalanced r (sequence_of after d)) b.queues c q own
          (λ d. balanced-later (b.queues d) (sequence_of b d) (sequence_of after d) (sequence_later b after h k d) (ok.balanced d));
      fewer_p2 = fewer_p2;
    }

-- a P2 hand-in moves P2's counter by one, and another does not move it
next_p2-later : (b : Page) (c : Priority) → b.next_p2 ≤ next_p2_after b c
next_p2-later b P0 = omega arith
next_p2-later b P1 = omega arith
next_p2-later b P2 = omega arith

next_p2_close : (b : Page) (c : Priority) → next_p2_after b c ≤ b.next_p2 + 1
next_p2_close b P0 = omega arith
next_p2_close b P1 = omega arith
next_p2_close b P2 = omega arith

module _ (m : Limits) (b : Page) (c : Priority) (key : InstanceKey) (bytes : List ℕ) where
  balanced-accepted : IsBalancedPage b → IsBalancedPage (page_handed m b c key bytes)
  balanced-accepted ok =
      balanced-with_queue b c (handed_to m c key (b.queues c) x) (b.next + 1) (next_p2_after b c) (omega arith) (next_p2-later b c)
      (omega (arith, next_p2_close b c, ok.fewer_p2))
      (balanced-later (handed_to m c key (b.queues c) x) (sequence_of b c + 1) _ (sequence_handed m b c key bytes)
      (balanced-more m c key (b.queues c) x (sequence_of b c) (sequence_shaped b c key bytes) (ok.balanced c)))
      ok
    where
      x : Held
      x = record_of b c key bytes

  -- a hand-in, whatever it is answered
  pub balanced_handed : (answer : ℕ) → IsBalancedPage b → IsBalancedPage (handed_by m b c key bytes answer)
  unfolding handed_by
  balanced_handed answer ok =
      by_test IsBalancedPage (eqb answer accepted) (λ t. balanced-accepted ok)
      (λ t. by_test IsBalancedPage (eqb answer queue_full) (λ u. balanced-used b ok) (λ u. ok))

-- a send attempt, whatever it says was sent
pub balanced-sent : (b : Page) (s : Sent) → IsBalancedPage b → IsBalancedPage (page_after_send b s)
unfolding page_after_send
balanced-sent b none ok = ok
balanced-sent b (one c) ok =
    balanced-with_queue b c (taken_from (b.queues c)) b.next b.next_p2 (omega arith) (omega arith) ok.fewer_p2
    (balanced-later (taken_from (b.queues c)) (sequence_of b c) _ (sequence_later b (page_sent b c) (omega arith) (omega arith) c)
    (balanced-taken (b.queues c) (sequence_of b c) (ok.balanced c)))
    ok

-- ---- the book

-- one page exchanged
balanced_with : (b : Book) (i : ℕ) (p : Page) → IsBalancedPage p → ((j : ℕ) → IsBalancedPage (b j)) → (j : ℕ) → IsBalancedPage (with_page b i p j)
unfolding with_page
balanced_with b i p here there j = by_test IsBalancedPage (eqb j i) (λ t. here) (λ t. there j)

-- the book after a call, whatever the call is answered
pub balanced-noted :
    (m : Limits) (b : Book) (x : Call) (answer : ℕ) (s : Sent) → ((i : ℕ) → IsBalancedPage (b i)) → (i : ℕ) → IsBalancedPage (noted m b x answer s i)
unfolding noted
balanced-noted m b (register time id class) answer s ok = ok
balanced-noted m b (control time steering) answer s ok = ok
balanced-noted m b (hand_in time i c key bytes lent) answer s ok = balanced_with b i _ (balanced_handed m (b i) c key bytes answer (ok i)) ok
balanced-noted m b (send time i lent) answer s ok = balanced_with b i _ (balanced-sent (b i) s (ok i)) ok
