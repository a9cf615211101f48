-- Contents steer nothing: of the records and of the pool the station reads the lengths alone, and a place of the pool has the same byte
-- for two lists that bring the same to it. Assumes nothing.
-- Stays: what Theorem cites of contents, which steer nothing (`contents`); neither std nor a crate below has two runs side by side.
use Prim.Native.Nat.{ℕ, zero, suc, ◌+◌, ◌≤◌, ◌<◌}
use mathlib.Core.Bool.{Bool, true, false, cond}
use mathlib.Core.List.{List, [], ◌∷◌, ◌++◌, map}
use mathlib.Core.Path.{◌≡◌, refl, sym, ap, ap₂, subst, ◌∙◌}
use native.Mathlib.Omega.{arith}
use borrow.Author.Tests.{ne_eqb, leb-true, eqb-true}
use lib.Dec.{eqb, leb}
use lib.ListN.{length, get_or, take, drop, replicate, length-append, length-take, length-drop, length-replicate}
use lib.Seq.{length-take-le, get_or-take, get_or-drop}
use Rattle.std.specs.Prelude.{Ok, Err}
use Rattle.config.proofs.Refusals.{Verdict, no_refusal_zero}
use Rattle.config.specs.Refusal.{accepted, number_of}
use Rattle.config.specs.declared.alone.Left.{Left}
use Rattle.config.specs.declared.config.Priority.{Priority}
use Rattle.numeric.proofs.Choice.{by_test}
use Rattle.queue.specs.Fates.{is_full, fate_number}
use Rattle.queue.specs.Pool.{is_short, put, stored}
use Rattle.queue.specs.declared.entry.InstanceKey.{InstanceKey}
use Rattle.queue.specs.declared.fate.Fate.{Fate}
use Rattle.queue.specs.declared.fate.Fate.TheVariants.{Full, Joined, PushedOut, Replaced}
use Rattle.pacing.specs.WriterPacer.{hand_in_stored}
use Rattle.station.specs.Station.{Station, limits_in, slots_needed, left_by, hand_in_verdict, enqueued_in, hand_in_leaves, handed_station, pool_by, pool_handed, sent_station}
use Rattle.guarantees.specs.Calls.{Lent, owed, instead, Call, register, control, hand_in, send, Outcome, hands, attempts, lent_length, outcome, in_place, lent_in, written, State, state_of, answered, after, run, Answer, answers}
use Rattle.guarantees.specs.Theorem.{blank, blank_lent, blanked, SameAt, LentSame, put_at, bytes_in, PutSame, AllSame, Alike, Contents}

-- ---- what a call lays in the pool

-- where a call lays bytes
data Spot : Type 0 where
  nowhere : Spot
  at : ℕ → Spot

-- bytes laid there in a pool
unfoldable laid : Spot → List ℕ → List ℕ → List ℕ
laid nowhere bytes pool = pool
laid (at start) bytes pool = stored pool start bytes

-- a record that is accepted goes to its slot
unfoldable spot : Station → ℕ → Call → Spot
spot s n (register time id class) = nowhere
spot s n (control time steering) = nowhere
spot s n (hand_in time i c key bytes lent) =
    cond (eqb (outcome s n (hand_in time i c key bytes lent)).answer accepted) (at (put_at s i c key (length bytes))) nowhere
spot s n (send time i lent) = nowhere

-- a record that found its queue full has the number 12 and is laid nowhere
fate-laid : (f : Fate) (start : ℕ) (bytes pool : List ℕ) →
    cond (is_full f) pool (stored pool start bytes) ≡ laid (cond (eqb (fate_number f) accepted) (at start) nowhere) bytes pool
unfolding laid
fate-laid Full start bytes pool = refl
fate-laid Joined start bytes pool = refl
fate-laid PushedOut start bytes pool = refl
fate-laid Replaced start bytes pool = refl

-- so is one that the checks turn down: a record is laid exactly where the hand-in answers 0
answer-laid : (s : Station) (v : Verdict) (x : Left Station Fate) (f : Fate) (start : ℕ) (bytes pool : List ℕ) → x.answer ≡ Ok f →
    pool_by v (cond (is_full f) pool (stored pool start bytes)) pool
    ≡ laid (cond (eqb (hands (left_by v s x)).answer accepted) (at start) nowhere) bytes pool
unfolding laid left_by pool_by
answer-laid s (Ok u) x f start bytes pool e = rw e (fate-laid f start bytes pool)
answer-laid s (Err r) x f start bytes pool e = rw (ne_eqb (number_of r) accepted (no_refusal_zero r))

-- what a call writes is its record laid
written-laid : (s : Station) (n : ℕ) (x : Call) (pool : List ℕ) → written s n x pool ≡ laid (spot s n x) (bytes_in x) pool
unfolding written laid spot outcome pool_handed hand_in_stored handed_station
written-laid s n (register time id class) pool = refl
written-laid s n (control time steering) pool = refl
written-laid s n (hand_in time i c key bytes lent) pool =
    answer-laid s (hand_in_verdict s (lent_length n lent) time i (length bytes))
    (hand_in_leaves s time i (enqueued_in s i c key (length bytes))) (enqueued_in s i c key (length bytes)).1.fate (put_at s i c key (length bytes)) bytes
    pool refl
written-laid s n (send time i lent) pool = refl

-- ---- what is read of a call

-- all that a call's contents might steer: what it answers, where it lays bytes and how many, and what pool it is lent
record Read : Type 0 where
  outcome_is : Outcome
  spot_is : Spot
  bytes_are : ℕ
  lent_is : Lent

abbrev read : Station → ℕ → Call → Read
read s n x =
    record { outcome_is = outcome s n x; spot_is = spot s n x; bytes_are = length (bytes_in x); lent_is = blank_lent (lent_in x) }

-- blanks are as long as what they stand for
length-blank : (bytes : List ℕ) → length bytes ≡ length (blank bytes)
length-blank bytes = sym (length-replicate (length bytes) 0)

lent-blank : (n : ℕ) (l : Lent) → lent_length n l ≡ lent_length n (blank_lent l)
lent-blank n owed = refl
lent-blank n (instead pool) = length-blank pool

-- nothing is left to blank of a blank
blank_again : (l : Lent) → blank_lent l ≡ blank_lent (blank_lent l)
blank_again owed = refl
blank_again (instead pool) = ap (λ (n : ℕ). instead (replicate n 0)) (length-blank pool)

-- what is read of a hand-in and of a send attempt, by lengths
abbrev hand_read : Station → ℕ → ℕ → Priority → InstanceKey → ℕ → ℕ → Lent → Read
hand_read s time i c key pool n lent =
    record {
      outcome_is = hands (handed_station s pool time i c key n);
      spot_is = cond (eqb (hands (handed_station s pool time i c key n)).answer accepted) (at (put_at s i c key n)) nowhere;
      bytes_are = n;
      lent_is = lent;
    }

abbrev send_read : Station → ℕ → ℕ → ℕ → Lent → Read
send_read s time i pool lent =
    record { outcome_is = attempts (sent_station s pool time i); spot_is = nowhere; bytes_are = 0; lent_is = lent }

-- the same is read of a call without its contents
read-blanked : (s : Station) (n : ℕ) (x : Call) → read s n x ≡ read s n (blanked x)
unfolding spot outcome blanked
read-blanked s n (register time id class) = refl
read-blanked s n (control time steering) = refl
read-blanked s n (hand_in time i c key bytes lent) =
    λ j. hand_read s time i c key (lent-blank n lent j) (length-blank bytes j) (blank_again lent j)
read-blanked s n (send time i lent) = λ j. send_read s time i (lent-blank n lent j) (blank_again lent j)

-- and so of two calls that differ in contents alone
read_alike : (s : Station) (m n : ℕ) (x y : Call) → m ≡ n → blanked x ≡ blanked y → read s m x ≡ read s n y
read_alike s m n x y e f = ap (λ (k : ℕ). read s k x) e ∙ read-blanked s n x ∙ ap (read s n) f ∙ sym (read-blanked s n y)

-- ---- a step of two pools

-- Where p and p' have become q and q': they have one length, and a place of which P holds has one byte in both where it had one before.
record Carried (P : ℕ → Type 0) (p p' q q' : List ℕ) : Type 0 where
  lengths : length q ≡ length q'
  bytes : (k : ℕ) → P k → SameAt k p p' → SameAt k q q'

-- where nothing is written they stay so
kept_carried : (P : ℕ → Type 0) (p p' : List ℕ) → length p ≡ length p' → Carried P p p' p p'
kept_carried P p p' e = record { lengths = e; bytes = λ k h same. same }

-- pools that are lent alike have one length
same-lent : (n : ℕ) (l l' : Lent) → blank_lent l ≡ blank_lent l' → lent_length n l ≡ lent_length n l'
same-lent n l l' e = lent-blank n l ∙ ap (lent_length n) e ∙ sym (lent-blank n l')

-- two choices by tests that agree
both_tests : (P : List ℕ → List ℕ → Type 0) (t t' : Bool) {x y x' y' : List ℕ} → t ≡ t' → (t ≡ true → P x x') → (t ≡ false → P y y') →
    P (cond t x y) (cond t' x' y')
both_tests P true t' {x} {y} {x'} {y'} e f g = subst (λ (u : Bool). P x (cond u x' y')) e (f refl)
both_tests P false t' {x} {y} {x'} {y'} e f g = subst (λ (u : Bool). P y (cond u x' y')) e (g refl)

-- two calls are lent their pools
lent_carried : (s : Station) (l l' : Lent) (p p' : List ℕ) → blank_lent l ≡ blank_lent l' → length p ≡ length p' →
    Carried (λ k. LentSame k s l l') p p' (in_place s l p) (in_place s l' p')
unfolding in_place
lent_carried s owed owed p p' e h = kept_carried (λ k. Unit {0}) p p' h
lent_carried s owed (instead o') p p' e h = absurd (cc)
lent_carried s (instead o) owed p p' e h = absurd (cc)
lent_carried s (instead o) (instead o') p p' e h =
    let long : length o ≡ length o' = same-lent 0 (instead o) (instead o') e in
    both_tests (Carried Same p p') (is_short (length o) needed) (is_short (length o') needed) (ap (λ (n : ℕ). is_short n needed) long)
    (λ q. kept_carried Same p p' h) (λ q. record { lengths = long; bytes = λ k r same. r q })
  where
    needed : ℕ
    needed = slots_needed (limits_in s)

    Same : ℕ → Type 0
    Same k = LentSame k s (instead o) (instead o')

-- place k of two lists joined has one byte where it has one in the parts in which it lies
append-same : (xs xs' ys ys' : List ℕ) (k : ℕ) → length xs ≡ length xs' → (k < length xs → SameAt k xs xs') →
    ((j : ℕ) → k ≡ length xs + j → SameAt j ys ys') → SameAt k (xs ++ ys) (xs' ++ ys')
append-same [] [] ys ys' k e f g = g k (omega arith)
append-same [] (x ∷ xs') ys ys' k e f g = absurd (omega arith)
append-same (x ∷ xs) [] ys ys' k e f g = absurd (omega arith)
append-same (x ∷ xs) (x' ∷ xs') ys ys' zero e f g = f (omega arith)
append-same (x ∷ xs) (x' ∷ xs') ys ys' (suc k) e f g =
    append-same xs xs' ys ys' k (omega arith) (λ q. f (omega arith)) (λ j q. g j (omega arith))

-- two records laid at a spot bring one byte to place k
abbrev LaidSame : ℕ → Spot → List ℕ → List ℕ → Type 0
LaidSame k nowhere bs bs' = Unit {0}
LaidSame k (at start) bs bs' = (j : ℕ) → j < length bs → k ≡ start + j → SameAt j bs bs'

-- two records are put at a place
put_carried : (p p' : List ℕ) (start : ℕ) (bs bs' : List ℕ) → start ≤ length p → length p ≡ length p' → length bs ≡ length bs' →
    Carried (λ k. LaidSame k (at start) bs bs') p p' (put p start bs) (put p' start bs')
unfolding put
put_carried p p' start bs bs' h e f =
    record {
      lengths = simp (length-append, length-take, length-drop, e, f);
      bytes = λ k laid_same same.
          append-same (take start p) (take start p') (bs ++ drop (start + length bs) p) (bs' ++ drop (start + length bs') p') k
          (long ∙ sym long')
          (λ q. let r : k < start = omega (arith, long) in get_or-take start p k 0 r ∙ same ∙ sym (get_or-take start p' k 0 r))
          (λ j q.
          append-same bs bs' (drop (start + length bs) p) (drop (start + length bs') p') j f (λ r. laid_same j r (omega (arith, long)))
          (λ i r. behind p bs i k (omega (arith, long)) ∙ same ∙ sym (behind p' bs' i k (omega (arith, long)))));
    }
  where
    long : length (take start p) ≡ start
    long = length-take-le start p h

    long' : length (take start p') ≡ start
    long' = length-take-le start p' (omega arith)

    behind : (l xs : List ℕ) (i k : ℕ) → start + length xs + i ≡ k → get_or (drop (start + length xs) l) i 0 ≡ get_or l k 0
    behind l xs i k e = get_or-drop (start + length xs) l i 0 ∙ ap (λ (x : ℕ). get_or l x 0) e

-- two records are laid
laid_carried : (x : Spot) (bs bs' p p' : List ℕ) → length bs ≡ length bs' → length p ≡ length p' →
    Carried (λ k. LaidSame k x bs bs') p p' (laid x bs p) (laid x bs' p')
unfolding laid stored
laid_carried nowhere bs bs' p p' f e = kept_carried (λ k. Unit {0}) p p' e
laid_carried (at start) bs bs' p p' f e =
    both_tests (Carried Same p p') (leb (start + 1472) (length p)) (leb (start + 1472) (length p')) (ap (leb (start + 1472)) e)
    (λ q.
    both_tests (Carried Same p p') (leb (length bs) 1472) (leb (length bs') 1472) (ap (λ (n : ℕ). leb n 1472) f)
    (λ r. put_carried p p' start bs bs' (omega (arith, leb-true (start + 1472) (length p) q)) e f) (λ r. kept_carried Same p p' e))
    (λ q. kept_carried Same p p' e)
  where
    Same : ℕ → Type 0
    Same k = LaidSame k (at start) bs bs'

-- records that bring one byte to place k where they are accepted bring one where they are laid
put-laid : (k : ℕ) (s : State) (x y : Call) → PutSame k s x y → LaidSame k (spot s.station (length s.pool) x) (bytes_in x) (bytes_in y)
unfolding spot
put-laid k s (register time id class) y h = tt
put-laid k s (control time steering) y h = tt
put-laid k s (hand_in time i c key bytes lent) y h =
    by_test (λ (x : Spot). LaidSame k x bytes (bytes_in y)) (eqb (answered s (hand_in time i c key bytes lent)).answer accepted)
    (λ e. h (eqb-true (answered s (hand_in time i c key bytes lent)).answer accepted e)) (λ e. tt)
put-laid k s (send time i lent) y h = tt

-- two calls bring no bytes that differ to place k
abbrev StepSame : ℕ → State → Call → Call → Type 0
StepSame k s x y = LentSame k s.station (lent_in x) (lent_in y) × PutSame k s x y

-- two calls that differ in contents alone are made
after_carried : (s : Station) (p p' : List ℕ) (x y : Call) → length p ≡ length p' → blanked x ≡ blanked y →
    Carried (λ k. StepSame k (state_of s p) x y) p p' (after (state_of s p) x).pool (after (state_of s p') y).pool
unfolding after
after_carried s p p' x y e f =
    rw (
      written-laid s (length p) x (in_place s (lent_in x) p),
      written-laid s (length p') y (in_place s (lent_in y) p'),
      ← ap (λ (r : Read). r.spot_is) same,
    )
    (record {
      lengths = second.lengths;
      bytes = λ k h q. second.bytes k (put-laid k (state_of s p) x y h.1) (first.bytes k h.0 q);
    })
  where
    same : read s (length p) x ≡ read s (length p') y
    same = read_alike s (length p) (length p') x y e f

    first : Carried (λ k. LentSame k s (lent_in x) (lent_in y)) p p' (in_place s (lent_in x) p) (in_place s (lent_in y) p')
    first = lent_carried s (lent_in x) (lent_in y) p p' (ap (λ (r : Read). r.lent_is) same) e

    here : Spot
    here = spot s (length p) x

    second : Carried (λ k. LaidSame k here (bytes_in x) (bytes_in y)) (in_place s (lent_in x) p) (in_place s (lent_in y) p')
        (laid here (bytes_in x) (in_place s (lent_in x) p)) (laid here (bytes_in y) (in_place s (lent_in y) p'))
    second =
        laid_carried here (bytes_in x) (bytes_in y) (in_place s (lent_in x) p) (in_place s (lent_in y) p')
        (ap (λ (r : Read). r.bytes_are) same) first.lengths

-- ---- two lists

-- two lists that differ in contents alone, on one station with two pools of one length
alike : (s : Station) (p p' : List ℕ) (xs ys : List Call) → length p ≡ length p' → map blanked xs ≡ map blanked ys →
    Alike (state_of s p) (state_of s p') xs ys
unfolding after run answers AllSame
alike s p p' [] [] e f = record { same_answers = refl; same_station = refl; same_length = e; same_bytes = λ k same all. same }
alike s p p' [] (y ∷ ys) e f = absurd (cc)
alike s p p' (x ∷ xs) [] e f = absurd (cc)
alike s p p' (x ∷ xs) (y ∷ ys) e f =
    let heads : blanked x ≡ blanked y = cc in
    let step : Carried (λ k. StepSame k (state_of s p) x y) p p' (after (state_of s p) x).pool (after (state_of s p') y).pool
    = after_carried s p p' x y e heads in
    let same : outcome s (length p) x ≡ outcome s (length p') y
    = ap (λ (r : Read). r.outcome_is) (read_alike s (length p) (length p') x y e heads) in
    let rest : Alike (after (state_of s p) x) (after (state_of s p') y) xs ys
    = subst (λ (z : Station). Alike (after (state_of s p) x) (state_of z (after (state_of s p') y).pool) xs ys)
    (ap (λ (o : Outcome). o.station) same)
    (alike (after (state_of s p) x).station (after (state_of s p) x).pool (after (state_of s p') y).pool xs ys step.lengths
    (cc)) in
    record {
      same_answers = ap₂ {C = List Answer} (λ o l. record { answer = o.answer; reply = o.reply } ∷ l) same rest.same_answers;
      same_station = rest.same_station;
      same_length = rest.same_length;
      same_bytes = λ k h all. rest.same_bytes k (step.bytes k (all.0, all.1.0) h) all.1.1;
    }

-- a second list, alike in all but record bytes and the bytes of the pools, is answered alike and leaves all the same but for those
pub contents : (start : State) (calls : List Call) → Contents start calls
contents start calls pool' calls' e f = alike start.station start.pool pool' calls calls' e f
