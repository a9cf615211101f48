-- What the copier leaves, said of the pool; a record stored is shown again as it was, other slots stay, and no two queues share a slot. Assumes nothing.
-- Stays: what `store` and pacing/proofs (RecordsInSlots, Records) cite of slots and of whose they are; std has no pool of slots.
use Prim.Native.Nat.{ℕ, zero, suc, ◌+◌, ◌-◌, ◌*◌, ◌≤◌, ◌<◌}
use mathlib.Core.Bool.{Bool, true, false, cond}
use mathlib.Core.List.{List, [], ◌∷◌, ◌++◌, append_assoc}
use mathlib.Core.Logic.{◌≢◌, ◌⊎◌, inl, inr}
use mathlib.Core.Path.{◌≡◌, refl, ap, sym, subst, ◌∙◌}
use native.Mathlib.Decide.{dec_le}
use native.Mathlib.Nat.{suc-mul, mul-le-mul_right}
use native.Mathlib.Omega.{arith}
use borrow.Author.Tests.{le-leb, leb-true}
use lib.Dec.{leb}
use lib.ListN.{length, take, drop, set, get_or, length-append, length-take, length-drop, take-append-drop, get_or-append}
use lib.Seq.{drop-drop, drop-append-le, drop_at, length-take-le, take-append_seam, get_or-append-add, get_or-take, get_or-drop, ext_get_or}
use Rattle.config.specs.Config.{class_number}
use Rattle.config.specs.declared.config.Priority.{Priority}
use Rattle.config.specs.declared.config.Priority.TheVariants.{P0, P1, P2}
use Rattle.queue.specs.Pool.{Limits, piece, put, copied, stored, bytes_of, limit_in, slots_of, slots_before}

-- a turn's store takes the copy of i bytes to the copy of one more
-- Stays: what the copier's loop cites.
pub turn : (s d : List ℕ) (i : ℕ) → i < length s → i < length d → set (take i s ++ drop i d) i (get_or s i 0) ≡ take (suc i) s ++ drop (suc i) d
turn [] d i h k = absurd (omega arith)
turn (x ∷ xs) [] i h k = absurd (omega arith)
turn (x ∷ xs) (y ∷ ys) zero h k = refl
turn (x ∷ xs) (y ∷ ys) (suc i) h k = ap (λ (l : List ℕ). x ∷ l) (turn xs ys i (omega arith) (omega arith))

-- what is left behind n bytes of a part of w
drop_part : (n w : ℕ) (l : List ℕ) → n ≤ w → w ≤ length l → drop n (take w l) ++ drop w l ≡ drop n l
drop_part n w l h k =
    let long : n ≤ length (take w l) = rw (length-take-le w l k) h in
    sym (drop-append-le n (take w l) (drop w l) long) ∙ ap (drop n) (take-append-drop w l)

-- what the copier left of its slot, said of the whole pool
pub home : (p s ys : List ℕ) (at : ℕ) → at + 1472 ≤ length p → ys ≡ copied (take 1472 (drop at p)) s →
    take at p ++ (ys ++ drop 1472 (drop at p)) ≡ stored p at s
unfolding copied stored put
home p s ys at h e =
    let long : 1472 ≤ length (drop at p) = rw length-drop (omega arith) in
    rw (e, le-leb (at + 1472) (length p) h, length-take-le 1472 (drop at p) long) (go long (leb (length s) 1472) refl)
  where
    go : 1472 ≤ length (drop at p) → (t : Bool) → leb (length s) 1472 ≡ t →
        take at p ++ (cond t (s ++ drop (length s) (take 1472 (drop at p))) (take 1472 (drop at p)) ++ drop 1472 (drop at p)) ≡ cond t (take at p ++ (s ++ drop (at + length s) p)) p
    go long true q =
        ap (λ (l : List ℕ). take at p ++ l)
        (append_assoc s (drop (length s) (take 1472 (drop at p))) (drop 1472 (drop at p))
        ∙ ap (λ (l : List ℕ). s ++ l) (drop_part (length s) 1472 (drop at p) (leb-true (length s) 1472 q) long ∙ drop-drop (length s) at p))
    go long false q = simp (take-append-drop)

-- the same in the words of the code, which cuts the slot out of the pool
pub stored_home : (p s ys : List ℕ) (at : ℕ) → at ≤ length p → 1472 ≤ length p - at → ys ≡ copied (take (at + 1472 - at) (drop at p)) s →
    take at p ++ (ys ++ drop (at + 1472 - at) (drop at p)) ≡ stored p at s
stored_home p s ys at low room e =
    let wide : at + 1472 - at ≡ 1472 = omega arith in
    rw wide (home p s ys at (omega arith) (rw wide at e))

-- ---- bytes written at a place, and pieces of the pool

length-put : (p : List ℕ) (at : ℕ) (bs : List ℕ) → at + length bs ≤ length p → length (put p at bs) ≡ length p
unfolding put
length-put p at bs h = simp (length-append, length-take, length-drop) (omega arith)

piece-put-same : (p : List ℕ) (at : ℕ) (bs : List ℕ) → at + length bs ≤ length p → piece (put p at bs) at (length bs) ≡ bs
unfolding put piece
piece-put-same p at bs h =
    ap (take (length bs)) (drop_at (take at p) (bs ++ drop (at + length bs) p) at (length-take-le at p (omega arith)))
    ∙ take-append_seam bs (drop (at + length bs) p)

get_or-put_before : (p : List ℕ) (at : ℕ) (bs : List ℕ) (k : ℕ) → at ≤ length p → k < at → get_or (put p at bs) k 0 ≡ get_or p k 0
unfolding put
get_or-put_before p at bs k h q =
    let l : length (take at p) ≡ at = length-take-le at p h in
    get_or-append (take at p) (bs ++ drop (at + length bs) p) 0 k (omega arith) ∙ get_or-take at p k 0 q

get_or-at_add : (xs ys : List ℕ) (m n : ℕ) → length xs ≡ m → get_or (xs ++ ys) (m + n) 0 ≡ get_or ys n 0
get_or-at_add xs ys m n e = rw (← e) (get_or-append-add xs ys n 0)

get_or-put_after : (p : List ℕ) (at : ℕ) (bs : List ℕ) (j : ℕ) → at ≤ length p → get_or (put p at bs) (at + (length bs + j)) 0 ≡ get_or p (at + length bs + j) 0
unfolding put
get_or-put_after p at bs j h =
    get_or-at_add (take at p) (bs ++ drop (at + length bs) p) at (length bs + j) (length-take-le at p h)
    ∙ get_or-append-add bs (drop (at + length bs) p) j 0
    ∙ get_or-drop (at + length bs) p j 0

get_or-put_other : (p : List ℕ) (at : ℕ) (bs : List ℕ) (k : ℕ) → at ≤ length p → (k < at) ⊎ (at + length bs ≤ k) → get_or (put p at bs) k 0 ≡ get_or p k 0
get_or-put_other p at bs k h (inl q) = get_or-put_before p at bs k h q
get_or-put_other p at bs k h (inr q) =
    let j : ℕ = k - (at + length bs) in
    let e₁ : at + (length bs + j) ≡ k = omega arith in
    let e₂ : at + length bs + j ≡ k = omega arith in
    ap (λ (x : ℕ). get_or (put p at bs) x 0) (sym e₁) ∙ get_or-put_after p at bs j h ∙ ap (λ (x : ℕ). get_or p x 0) e₂

-- a piece that lies off the bytes written
piece-put_other : (p : List ℕ) (at : ℕ) (bs : List ℕ) (a n : ℕ) → at + length bs ≤ length p → (a + n ≤ at) ⊎ (at + length bs ≤ a)
    → piece (put p at bs) a n ≡ piece p a n
unfolding piece
piece-put_other p at bs a n h d =
    ext_get_or 0 (take n (drop a (put p at bs))) (take n (drop a p))
    (simp (length-take, length-drop, length-put p at bs h))
    (λ i q. go i (lt i q) d)
  where
    lt : (i : ℕ) → i < length (take n (drop a (put p at bs))) → i < n
    lt i q = omega (arith, length-take n (drop a (put p at bs)))

    go : (i : ℕ) → i < n → (a + n ≤ at) ⊎ (at + length bs ≤ a) → get_or (take n (drop a (put p at bs))) i 0 ≡ get_or (take n (drop a p)) i 0
    go i q (inl d) = rw (get_or-take n (drop a (put p at bs)) i 0 q, get_or-take n (drop a p) i 0 q, get_or-drop a (put p at bs) i 0, get_or-drop a p i 0) (get_or-put_other p at bs (a + i) (omega arith) (inl (omega arith)))
    go i q (inr d) = rw (get_or-take n (drop a (put p at bs)) i 0 q, get_or-take n (drop a p) i 0 q, get_or-drop a (put p at bs) i 0, get_or-drop a p i 0) (get_or-put_other p at bs (a + i) (omega arith) (inr (omega arith)))

-- ---- a record stored in a slot

stored-put : (p : List ℕ) (start : ℕ) (bytes : List ℕ) → start + 1472 ≤ length p → length bytes ≤ 1472 → stored p start bytes ≡ put p start bytes
unfolding stored
stored-put p start bytes h k = rw (le-leb (start + 1472) (length p) h, le-leb (length bytes) 1472 k)

pub length-stored : (p : List ℕ) (start : ℕ) (bytes : List ℕ) → start + 1472 ≤ length p → length bytes ≤ 1472 → length (stored p start bytes) ≡ length p
length-stored p start bytes h k = ap length (stored-put p start bytes h k) ∙ length-put p start bytes (omega arith)

-- it is shown again as it was stored
pub piece-stored : (p : List ℕ) (start : ℕ) (bytes : List ℕ) → start + 1472 ≤ length p → length bytes ≤ 1472 → piece (stored p start bytes) start (length bytes) ≡ bytes
piece-stored p start bytes h k =
    ap (λ (q : List ℕ). piece q start (length bytes)) (stored-put p start bytes h k) ∙ piece-put-same p start bytes (omega arith)

-- two slots lie apart
slots_apart : (a b n k : ℕ) → a ≢ b → n ≤ 1472 → k ≤ 1472 → (a * 1472 + n ≤ b * 1472) ⊎ (b * 1472 + k ≤ a * 1472)
slots_apart a b n k ne h q = go (dec_le (suc a) b)
  where
    go : Dec (a < b) → (a * 1472 + n ≤ b * 1472) ⊎ (b * 1472 + k ≤ a * 1472)
    go (yes r) = inl (omega arith)
    go (no r) = inr (omega arith)

-- another slot's record stays
pub piece-stored_other :
    (p : List ℕ) (slot : ℕ) (bytes : List ℕ) (other n : ℕ) → bytes_of slot + 1472 ≤ length p → length bytes ≤ 1472 → n ≤ 1472 → other ≢ slot
    → piece (stored p (bytes_of slot) bytes) (bytes_of other) n ≡ piece p (bytes_of other) n
piece-stored_other p slot bytes other n h k q ne =
    ap (λ (x : List ℕ). piece x (bytes_of other) n) (stored-put p (bytes_of slot) bytes h k)
    ∙ piece-put_other p (bytes_of slot) bytes (bytes_of other) n (omega arith) (slots_apart other slot n (length bytes) ne q k)

-- ---- whose slot is whose

-- queues are numbered P0, P1, P2, pacer after pacer
abbrev pub queue_number : ℕ → Priority → ℕ
queue_number i c = i * 3 + class_number c

-- the slot of a queue of pacer i, counted from the pool's start
abbrev pub slot_index : Limits → ℕ → Priority → ℕ → ℕ
slot_index m i c s = i * slots_of m + slots_before m c + s

slot-within : (m : Limits) (c : Priority) (s : ℕ) → s < limit_in m c → slots_before m c + s < slots_of m
slot-within m P0 s h = omega arith
slot-within m P1 s h = omega arith
slot-within m P2 s h = omega arith

-- a pool that has the slots of the pacers up to i has the slot
pub slot-inside :
    (m : Limits) (i : ℕ) (c : Priority) (s : ℕ) (p : List ℕ) → s < limit_in m c → bytes_of (i * slots_of m + slots_of m) ≤ length p
    → bytes_of (slot_index m i c s) + 1472 ≤ length p
slot-inside m i c s p h k = go (i * slots_of m) (slots_of m) (slots_before m c) (slot-within m c s h) k
  where
    go : (x all before : ℕ) → before + s < all → (x + all) * 1472 ≤ length p → (x + before + s) * 1472 + 1472 ≤ length p
    go x all before h k = omega arith

class-before : (m : Limits) (c d : Priority) (s : ℕ) → class_number c < class_number d → s < limit_in m c → slots_before m c + s < slots_before m d
class-before m P0 P0 s h k = absurd (omega arith)
class-before m P0 P1 s h k = omega arith
class-before m P0 P2 s h k = omega arith
class-before m P1 P0 s h k = absurd (omega arith)
class-before m P1 P1 s h k = absurd (omega arith)
class-before m P1 P2 s h k = omega arith
class-before m P2 P0 s h k = absurd (omega arith)
class-before m P2 P1 s h k = absurd (omega arith)
class-before m P2 P2 s h k = absurd (omega arith)

class-most : (c : Priority) → class_number c < 3
class-most P0 = omega arith
class-most P1 = omega arith
class-most P2 = omega arith

-- the slots of an earlier queue come first
index-before :
    (m : Limits) (i : ℕ) (c : Priority) (s j : ℕ) (d : Priority) (t : ℕ) → queue_number i c < queue_number j d → s < limit_in m c
    → slot_index m i c s < slot_index m j d t
index-before m i c s j d t h k = go (dec_le (suc i) j)
  where
    across : (x y all before below : ℕ) → x + all ≤ y → before + s < all → x + before + s < y + below + t
    across x y all before below h k = omega arith

    beside : (x before below : ℕ) → before + s < below → x + before + s < x + below + t
    beside x before below h = omega arith

    go : Dec (i < j) → slot_index m i c s < slot_index m j d t
    go (yes q) =
        across (i * slots_of m) (j * slots_of m) (slots_of m) (slots_before m c) (slots_before m d)
        (subst (λ (x : ℕ). x ≤ j * slots_of m) (suc-mul i (slots_of m)) (mul-le-mul_right (slots_of m) q)) (slot-within m c s k)
    go (no q) =
        let same : i ≡ j = omega (arith, class-most c, class-most d) in
        let less : class_number c < class_number d = omega arith in
        subst (λ (x : ℕ). slot_index m i c s < slot_index m x d t) same
        (beside (i * slots_of m) (slots_before m c) (slots_before m d) (class-before m c d s less k))

-- no two queues share a slot
pub index-apart :
    (m : Limits) (i : ℕ) (c : Priority) (s j : ℕ) (d : Priority) (t : ℕ) → queue_number i c ≢ queue_number j d → s < limit_in m c → t < limit_in m d
    → slot_index m i c s ≢ slot_index m j d t
index-apart m i c s j d t ne h k e = go (dec_le (suc (queue_number i c)) (queue_number j d))
  where
    go : Dec (queue_number i c < queue_number j d) → ⊥
    go (yes q) = omega (arith, index-before m i c s j d t q h)
    go (no q) =
        let r : queue_number j d < queue_number i c = omega arith in
        omega (arith, index-before m j d t i c s r k)

-- nor do two slots of one
pub index_same : (m : Limits) (i : ℕ) (c : Priority) (s t : ℕ) → t ≢ s → slot_index m i c t ≢ slot_index m i c s
index_same m i c s t ne e = ne (go (i * slots_of m + slots_before m c) e)
  where
    go : (x : ℕ) → x + t ≡ x + s → t ≡ s
    go x e = omega arith
