-- The list of the writers: what registering, unregistering and reallocating do to it, and that it is by class and then by id, no id twice,
-- after every list of calls. Assumes nothing.
-- Stays: the laws of the table that docs/ name, some of which `guarantees` cites too, and what they stand on; std has none of lists in such an order.
use Rattle.std.proofs.Common.{◌≡◌, ◌≢◌, ℕ, zero, suc, ◌+◌, ◌≤◌, ◌<◌, min, max, Bool, true, false, List, [], ◌∷◌, ◌++◌, map, eqb, Float, length, take, drop, length-append, refl, sym, ap, ap₂, subst, ◌∙◌, arith}
use Rattle.std.proofs.lemmas.Grind.{common_steps}
use Rattle.std.proofs.lemmas.List.{length-replicate, take-append-le}
use mathlib.Core.List.Memᴰ
use mathlib.Core.List.{Memᴰ}
use Rattle.config.specs.declared.config.Priority.{Priority}
use Rattle.numeric.specs.Search.{first}
use Rattle.control.specs.BudgetAllocator.{new_writer, blank_writer, row_at, comes_before, taken_of, writers_of, place_of, place_for, lacking, with_row, without_row, entered, is_known, without, full_for, shares_of, with_budget, allotted, allotted_table, new_allocator, registered, unregistered, reallocated}
use Rattle.control.specs.Writers.{Leads, IsOrdered, Lacks, IsDistinct, IsInOrder, inserted, removed, AllocatorCall, register, unregister, reallocate, after_call, after_calls, SameWriters}
use Rattle.control.proofs.Rows.{lacking_is}
use Rattle.control.specs.declared.budget_allocator.AllocationConfig.{AllocationConfig}
use Rattle.control.specs.declared.budget_allocator.BudgetAllocator.{BudgetAllocator}
use Rattle.control.specs.declared.budget_allocator.Shares.{Shares}
use Rattle.control.specs.declared.budget_allocator.WriterInfo.{WriterInfo}
use Rattle.control.specs.declared.budget_allocator.WriterTable.{WriterTable}

-- ---- the order

pub before_trans : (a b c : WriterInfo) → comes_before a b ≡ true → comes_before b c ≡ true → comes_before a c ≡ true
unfolding comes_before
before_trans a b c p q = grind arith

-- of two with different ids one comes before the other
pub before_other : (a b : WriterInfo) → comes_before a b ≡ false → a.id ≢ b.id → comes_before b a ≡ true
unfolding comes_before
before_other a b p ne = grind arith

-- Stays: `sorted_once` stands on it.
pub before_self : (a : WriterInfo) → comes_before a a ≡ true → ⊥
unfolding comes_before
before_self a p = grind arith

-- ---- lists: a writer put in, one taken out

leads_inserted : (x w : WriterInfo) (ws : List WriterInfo) → comes_before x w ≡ true → Leads x ws → Leads x (inserted w ws)
unfolding inserted
leads_inserted x w [] p h = p
leads_inserted x w (y ∷ ys) p h = grind arith

pub ordered-inserted : (w : WriterInfo) (ws : List WriterInfo) → Lacks w.id ws → IsOrdered ws → IsOrdered (inserted w ws)
unfolding inserted
ordered-inserted w [] new ok = (tt, tt)
ordered-inserted w (x ∷ xs) new ok = grind (arith, ordered-inserted w xs new.1 ok.1, leads_inserted x w xs, before_other w x)

lacks_inserted : (id : ℕ) (w : WriterInfo) (ws : List WriterInfo) → w.id ≢ id → Lacks id ws → Lacks id (inserted w ws)
unfolding inserted
lacks_inserted id w [] ne ok = (ne, tt)
lacks_inserted id w (x ∷ xs) ne ok = grind (arith, lacks_inserted id w xs ne ok.1)

pub distinct-inserted : (w : WriterInfo) (ws : List WriterInfo) → Lacks w.id ws → IsDistinct ws → IsDistinct (inserted w ws)
unfolding inserted
distinct-inserted w [] new ok = (tt, tt)
distinct-inserted w (x ∷ xs) new ok = grind (arith, distinct-inserted w xs new.1 ok.1, lacks_inserted x.id w xs)

leads_later : (x y : WriterInfo) (ys : List WriterInfo) → comes_before x y ≡ true → Leads y ys → Leads x ys
leads_later x y [] p h = tt
leads_later x y (z ∷ zs) p h = before_trans x y z p h

leads_removed : (x : WriterInfo) (id : ℕ) (ws : List WriterInfo) → Leads x ws → IsOrdered ws → Leads x (removed id ws)
unfolding removed
leads_removed x id [] h ok = tt
leads_removed x id (y ∷ ys) h ok = grind (arith, leads_later x y ys)

pub ordered-removed : (id : ℕ) (ws : List WriterInfo) → IsOrdered ws → IsOrdered (removed id ws)
unfolding removed
ordered-removed id [] ok = tt
ordered-removed id (x ∷ xs) ok = grind (arith, ordered-removed id xs ok.1, leads_removed x id xs ok.0 ok.1)

lacks_removed : (other id : ℕ) (ws : List WriterInfo) → Lacks other ws → Lacks other (removed id ws)
unfolding removed
lacks_removed other id [] ok = tt
lacks_removed other id (x ∷ xs) ok = grind (arith, lacks_removed other id xs ok.1)

pub distinct-removed : (id : ℕ) (ws : List WriterInfo) → IsDistinct ws → IsDistinct (removed id ws)
unfolding removed
distinct-removed id [] ok = tt
distinct-removed id (x ∷ xs) ok = grind (arith, distinct-removed id xs ok.1, lacks_removed x.id id xs ok.0)

-- no writer has the id that was taken out
pub removed_lacks : (id : ℕ) (ws : List WriterInfo) → IsDistinct ws → Lacks id (removed id ws)
unfolding removed
removed_lacks id [] ok = tt
removed_lacks id (x ∷ xs) ok = grind (arith, removed_lacks id xs ok.1)

-- ---- rows: the table's first n are the list

-- the first n are those of the longer list where the one that is left out comes after them
take-lacking : {A : Type 0} (l : List A) (n k : ℕ) → n ≤ k → take n (lacking l k) ≡ take n l
take-lacking l n k le = rw (lacking_is l k) (grind (arith, common_steps))

length-lacking : {A : Type 0} (l : List A) (n k : ℕ) → length l ≡ suc n → k ≤ n → length (lacking l k) ≡ n
length-lacking l n k e le = rw (lacking_is l k) (grind (arith, common_steps))

-- an element put in before place k
abbrev put_in : {A : Type 0} → ℕ → A → List A → List A
put_in k c l = take k l ++ (c ∷ drop k l)

length-put_in : {A : Type 0} (l : List A) (k : ℕ) (c : A) → length (put_in k c l) ≡ suc (length l)
length-put_in l k c = grind (arith, common_steps)

-- the place for a writer among the first n rows
abbrev place_by : WriterInfo → List WriterInfo → ℕ → ℕ
place_by w rows n = first (λ (k : ℕ). comes_before w (row_at rows k)) n

-- the place of an id among the first n rows
abbrev pub place_with : ℕ → List WriterInfo → ℕ → ℕ
place_with id rows n = first (λ (k : ℕ). eqb (row_at rows k).id id) n

-- the rows and a blank one
abbrev longer : List WriterInfo → List WriterInfo
longer rows = rows ++ (blank_writer ∷ [])

-- a row put in at its place is the writer put in its place
rows_inserted : (w : WriterInfo) (rows : List WriterInfo) (n : ℕ) → n ≤ length rows →
    take (suc n) (put_in (place_by w rows n) w rows) ≡ inserted w (take n rows)
unfolding first inserted
rows_inserted w rows zero le = refl
rows_inserted w [] (suc n) le = absurd (omega arith)
rows_inserted w (x ∷ xs) (suc n) le = grind (arith, rows_inserted w xs n)

-- the row with the id given up is the writer with the id taken out
rows_removed : (id : ℕ) (rows : List WriterInfo) (n : ℕ) → suc n ≤ length rows → place_with id rows (suc n) < suc n →
    take n (lacking (longer rows) (place_with id rows (suc n))) ≡ removed id (take (suc n) rows)
unfolding first removed lacking
rows_removed id [] n le lt = absurd (omega arith)
rows_removed id (x ∷ xs) zero le lt = grind arith
rows_removed id (x ∷ xs) (suc n) le lt = grind (arith, rows_removed id xs n, take-append-le (suc n) xs (blank_writer ∷ []))

-- where no row has the id there is none to take out
rows_kept : (id : ℕ) (rows : List WriterInfo) (n : ℕ) → n ≤ length rows → n ≤ place_with id rows n → removed id (take n rows) ≡ take n rows
unfolding first removed
rows_kept id rows zero le none = refl
rows_kept id [] (suc n) le none = absurd (omega arith)
rows_kept id (x ∷ xs) (suc n) le none = grind (arith, rows_kept id xs n)

-- of the rows of which the first n are mapped, the first n
rows_mapped : {A : Type 0} (f : A → A) (n : ℕ) (rows : List A) → take n (map f (take n rows) ++ drop n rows) ≡ map f (take n rows)
rows_mapped f n rows = grind (arith, common_steps)

pub length_mapped : {A : Type 0} (f : A → A) (n : ℕ) (rows : List A) → length (map f (take n rows) ++ drop n rows) ≡ length rows
length_mapped f n rows = grind (arith, common_steps)

-- ---- tables

writers-without : (t : WriterTable) (id : ℕ) → length t.rows ≡ 64 → writers_of (without t id) ≡ removed id (writers_of t)
unfolding without without_row place_of
writers-without t id size = go (taken_of t.count) refl
  where
    go : (n : ℕ) → taken_of t.count ≡ n → writers_of (without t id) ≡ removed id (writers_of t)
    go zero e = grind (arith, rows_kept id t.rows zero)
    go (suc n) e = grind (arith, rows_kept id t.rows (suc n), rows_removed id t.rows n)

size-without : (t : WriterTable) (id : ℕ) → length t.rows ≡ 64 → length (without t id).rows ≡ 64
unfolding without without_row
size-without t id size = grind (arith, length-append t.rows (blank_writer ∷ []), length-lacking (longer t.rows) 64 (min (place_of t id) 64))

writers-entered : (t : WriterTable) (w : WriterInfo) → length t.rows ≡ 64 → taken_of t.count < 64 → writers_of (entered t w) ≡ inserted w (writers_of t)
unfolding entered with_row place_for
writers-entered t w size room =
    grind (arith, take-lacking (put_in (place_for t w) w t.rows) (suc (taken_of t.count)) (min (max (place_for t w) (taken_of t.count + 1)) 64), rows_inserted w t.rows (taken_of t.count))

size-entered : (t : WriterTable) (w : WriterInfo) → length t.rows ≡ 64 → length (entered t w).rows ≡ 64
unfolding entered with_row
size-entered t w size = grind (arith, length-put_in t.rows (place_for t w) w, length-lacking (put_in (place_for t w) w t.rows) 64 (min (max (place_for t w) (taken_of t.count + 1)) 64))

fits-without : (t : WriterTable) (id : ℕ) → t.count ≤ 64 → (without t id).count ≤ 64
unfolding without
fits-without t id fits = grind arith

fits-entered : (t : WriterTable) (w : WriterInfo) → t.count ≤ 64 → (entered t w).count ≤ 64
unfolding entered
fits-entered t w fits = grind arith

-- there is room once the id is taken out
room-without : (t : WriterTable) (id : ℕ) → full_for t id ≡ false → taken_of (without t id).count < 64
unfolding full_for is_known without
room-without t id e = grind arith

-- a writer for whom there is no room leaves the table as it was
full-kept : (t : WriterTable) (id : ℕ) (w : WriterInfo) → full_for t id ≡ true → entered (without t id) w ≡ t
unfolding full_for is_known without entered
full-kept t id w e = grind arith

unregistered-table : (a : BudgetAllocator) (id : ℕ) → (unregistered a id).0.table ≡ without a.table id
unfolding unregistered is_known without
unregistered-table a id = grind arith

-- ---- the laws

-- a writer registered: its id is taken out, and it takes its place by class and id
pub registered_writers :
    (a : BudgetAllocator) (id : ℕ) (class : Priority) (weight : Float) → length a.table.rows ≡ 64 → full_for a.table id ≡ false →
    writers_of (registered a id class weight).table ≡ inserted (new_writer id class weight) (removed id (writers_of a.table))
unfolding registered
registered_writers a id class weight size room =
    writers-entered (without a.table id) (new_writer id class weight) (size-without a.table id size) (room-without a.table id room)
    ∙ ap (inserted (new_writer id class weight)) (writers-without a.table id size)

-- a writer unregistered: its id is taken out
-- Stays: docs/GUARANTEES.md names it.
pub unregistered_writers : (a : BudgetAllocator) (id : ℕ) → length a.table.rows ≡ 64 →
    writers_of (unregistered a id).0.table ≡ removed id (writers_of a.table)
unregistered_writers a id size = ap writers_of (unregistered-table a id) ∙ writers-without a.table id size

-- reallocation is the allotment of the list
pub allotted_writers : (a : BudgetAllocator) (c : AllocationConfig) (rate : ℕ) →
    writers_of (reallocated a c rate).table ≡ allotted c rate (writers_of a.table)
unfolding reallocated allotted_table allotted
allotted_writers a c rate = rows_mapped (with_budget (shares_of c rate (writers_of a.table))) (taken_of a.table.count) a.table.rows

-- ---- the order is kept

module _ (s : Shares) where
  leads-budget : (w : WriterInfo) (ws : List WriterInfo) → Leads w ws → Leads (with_budget s w) (map (with_budget s) ws)
  unfolding with_budget comes_before
  leads-budget w [] h = tt
  leads-budget w (x ∷ xs) h = h

  ordered-budgets : (ws : List WriterInfo) → IsOrdered ws → IsOrdered (map (with_budget s) ws)
  ordered-budgets [] ok = tt
  ordered-budgets (w ∷ ws) ok = (leads-budget w ws ok.0, ordered-budgets ws ok.1)

  lacks_budgets : (id : ℕ) (ws : List WriterInfo) → Lacks id ws → Lacks id (map (with_budget s) ws)
  unfolding with_budget
  lacks_budgets id [] ok = tt
  lacks_budgets id (w ∷ ws) ok = (ok.0, lacks_budgets id ws ok.1)

  distinct-budgets : (ws : List WriterInfo) → IsDistinct ws → IsDistinct (map (with_budget s) ws)
  unfolding with_budget
  distinct-budgets [] ok = tt
  distinct-budgets (w ∷ ws) ok = (lacks_budgets w.id ws ok.0, distinct-budgets ws ok.1)

in_order-without : (t : WriterTable) (id : ℕ) → IsInOrder t → IsInOrder (without t id)
in_order-without t id ok =
    record {
      size = size-without t id ok.size;
      fits = fits-without t id ok.fits;
      ordered = subst IsOrdered (sym (writers-without t id ok.size)) (ordered-removed id (writers_of t) ok.ordered);
      distinct = subst IsDistinct (sym (writers-without t id ok.size)) (distinct-removed id (writers_of t) ok.distinct);
    }

in_order-entered : (t : WriterTable) (w : WriterInfo) → IsInOrder t → taken_of t.count < 64 → Lacks w.id (writers_of t) →
    IsInOrder (entered t w)
in_order-entered t w ok room new =
    record {
      size = size-entered t w ok.size;
      fits = fits-entered t w ok.fits;
      ordered = subst IsOrdered (sym (writers-entered t w ok.size room)) (ordered-inserted w (writers_of t) new ok.ordered);
      distinct = subst IsDistinct (sym (writers-entered t w ok.size room)) (distinct-inserted w (writers_of t) new ok.distinct);
    }

in_order-registered : (a : BudgetAllocator) (id : ℕ) (class : Priority) (weight : Float) → IsInOrder a.table →
    IsInOrder (registered a id class weight).table
unfolding registered
in_order-registered a id class weight ok = go (full_for a.table id) refl
  where
    go : (full : Bool) → full_for a.table id ≡ full → IsInOrder (entered (without a.table id) (new_writer id class weight))
    go true e = subst IsInOrder (sym (full-kept a.table id (new_writer id class weight) e)) ok
    go false e =
        in_order-entered (without a.table id) (new_writer id class weight) (in_order-without a.table id ok)
        (room-without a.table id e)
        (subst (Lacks id) (sym (writers-without a.table id ok.size)) (removed_lacks id (writers_of a.table) ok.distinct))

in_order-reallocated : (a : BudgetAllocator) (c : AllocationConfig) (rate : ℕ) → IsInOrder a.table → IsInOrder (reallocated a c rate).table
unfolding reallocated allotted_table allotted
in_order-reallocated a c rate ok =
    let s = shares_of c rate (writers_of a.table) in
    record {
      size = length_mapped (with_budget s) (taken_of a.table.count) a.table.rows ∙ ok.size;
      fits = ok.fits;
      ordered = subst IsOrdered (sym (allotted_writers a c rate)) (ordered-budgets s (writers_of a.table) ok.ordered);
      distinct = subst IsDistinct (sym (allotted_writers a c rate)) (distinct-budgets s (writers_of a.table) ok.distinct);
    }

in_order_call : (a : BudgetAllocator) (call : AllocatorCall) → IsInOrder a.table → IsInOrder (after_call a call).table
in_order_call a (register id class weight) ok = in_order-registered a id class weight ok
in_order_call a (unregister id) ok = subst IsInOrder (sym (unregistered-table a id)) (in_order-without a.table id ok)
in_order_call a (reallocate c rate) ok = in_order-reallocated a c rate ok

-- from any table in order
pub in_order-from : (a : BudgetAllocator) (calls : List AllocatorCall) → IsInOrder a.table → IsInOrder (after_calls a calls).table
in_order-from a [] ok = ok
in_order-from a (call ∷ calls) ok = in_order-from (after_call a call) calls (in_order_call a call ok)

-- the table is by class and then by id, no id twice, after every list of calls
pub in_order : (calls : List AllocatorCall) → IsInOrder (after_calls new_allocator calls).table
in_order calls =
    in_order-from new_allocator calls (record { size = length-replicate 64 blank_writer; fits = omega arith; ordered = tt; distinct = tt })

-- ---- the order of a list decides nothing else

-- Stays: `sorted_once` stands on it.
leads_member : (w x : WriterInfo) (ws : List WriterInfo) → Leads w ws → IsOrdered ws → Memᴰ x ws → comes_before w x ≡ true
leads_member w x [] h ok m = absurd (Memᴰ.not-nil m)
leads_member w x (y ∷ ys) h ok m = grind (arith, Memᴰ.cases_cons m, before_trans w y x, leads_member y x ys ok.0 ok.1)

-- what lies behind the first of one list lies behind the first of the other
-- Stays: `sorted_once` stands on it.
behind-first : (w x y : WriterInfo) (xs ys : List WriterInfo) → x ≡ y → IsOrdered (x ∷ xs) → Memᴰ w xs → Memᴰ w (y ∷ ys) → Memᴰ w ys
behind-first w x y xs ys e ok m n = grind (arith, e, Memᴰ.cases_cons n, leads_member x w xs ok.0 ok.1 m, before_self x)

-- Stays: `sorted_once` stands on it.
same_first :
    (x y : WriterInfo) (xs ys : List WriterInfo) → IsOrdered (x ∷ xs) → IsOrdered (y ∷ ys) → Memᴰ x (y ∷ ys) → Memᴰ y (x ∷ xs) → x ≡ y
same_first x y xs ys p q m n =
    grind (arith, Memᴰ.cases_cons m, Memᴰ.cases_cons n, leads_member x y xs p.0 p.1, leads_member y x ys q.0 q.1, before_trans x y x, before_self x)

-- two lists in order with the same writers are the same list
-- Stays: docs/GUARANTEES.md names it.
pub sorted_once : (xs ys : List WriterInfo) → IsOrdered xs → IsOrdered ys → SameWriters xs ys → xs ≡ ys
sorted_once [] [] p q same = refl
sorted_once [] (y ∷ ys) p q same = absurd (Memᴰ.not-nil ((same y).1 (Memᴰ.head refl)))
sorted_once (x ∷ xs) [] p q same = absurd (Memᴰ.not-nil ((same x).0 (Memᴰ.head refl)))
sorted_once (x ∷ xs) (y ∷ ys) p q same =
    let e : x ≡ y = same_first x y xs ys p q ((same x).0 (Memᴰ.head refl)) ((same y).1 (Memᴰ.head refl)) in
    ap₂ (λ (w : WriterInfo) (ws : List WriterInfo). w ∷ ws) e
    (sorted_once xs ys p.1 q.1
    (λ w. (
      λ m. behind-first w x y xs ys e p m ((same w).0 (Memᴰ.tail m)),
      λ m. behind-first w y x ys xs (sym e) q m ((same w).1 (Memᴰ.tail m)),
    )))

-- the same writers in tables in order are the same list
-- Stays: `same_allotment` stands on it.
pub same_writers : (t u : WriterTable) → IsInOrder t → IsInOrder u → SameWriters (writers_of t) (writers_of u) → writers_of t ≡ writers_of u
same_writers t u p q same = sorted_once (writers_of t) (writers_of u) p.ordered q.ordered same

-- so what each gets depends on which writers the tables hold, and not on the order in which they came
-- Stays: docs/GUARANTEES.md names it.
pub same_allotment : (a b : BudgetAllocator) (c : AllocationConfig) (rate : ℕ) → IsInOrder a.table → IsInOrder b.table →
    SameWriters (writers_of a.table) (writers_of b.table) →
    writers_of (reallocated a c rate).table ≡ writers_of (reallocated b c rate).table
same_allotment a b c rate p q same =
    allotted_writers a c rate ∙ ap (allotted c rate) (same_writers a.table b.table p q same) ∙ sym (allotted_writers b c rate)
