-- The writers of a station in its allocator's table: every one is there after every call, so each update that a call tells sets a
-- pacer's rate. Assumes nothing.
-- Stays: what Starts and Theorem cite of settings that reach their pacers (`settings`); no crate below has a station's writers beside its allocator's table.
use Prim.Native.Nat.{ℕ, zero, suc, ◌+◌, ◌≤◌, ◌<◌}
use mathlib.Core.Bool.{Bool, true, false, true≢false}
use mathlib.Core.List.{List, [], ◌∷◌, map, Memᴰ}
use mathlib.Core.Logic.{◌≢◌}
use mathlib.Core.Path.{◌≡◌, refl, sym, ap, subst, ◌∙◌}
use native.Mathlib.Omega.{arith}
use borrow.Author.Tests.{eqb-true, eqb-false, ltb-true, ltb-false, lt-leb}
use lib.Dec.{ltb, eqb}
use lib.ListN.{length, take}
use Rattle.std.proofs.lemmas.Bool.{true_from_ne_false}
use Rattle.config.specs.declared.config.Priority.{Priority}
use Rattle.control.proofs.Writers.{place_with, registered_writers, allotted_writers, in_order-from}
use Rattle.control.specs.BudgetAllocator.{new_writer, row_at, comes_before, taken_of, writers_of, place_of, entered, is_known, without, full_for, shares_of, with_budget, allotted_table, one, registered, reallocated}
use Rattle.control.specs.BudgetAllocator as allocator
use Rattle.control.specs.Controller.{registered_in}
use Rattle.control.specs.Writers.{Lacks, IsInOrder, inserted, removed, register, reallocate}
use Rattle.control.specs.declared.budget_allocator.AllocationConfig.{AllocationConfig}
use Rattle.control.specs.declared.budget_allocator.BudgetAllocator.{BudgetAllocator}
use Rattle.control.specs.declared.budget_allocator.Shares.{Shares}
use Rattle.control.specs.declared.budget_allocator.WriterInfo.{WriterInfo}
use Rattle.control.specs.declared.budget_allocator.WriterTable.{WriterTable}
use Rattle.control.specs.declared.controller.CongestionController.{CongestionController}
use Rattle.numeric.proofs.Choice.{by_test}
use Rattle.numeric.specs.Search.{first}
use Rattle.queue.specs.Pool.{Limits}
use Rattle.pacing.specs.TokenBucket.{rated, resized}
use Rattle.pacing.specs.WriterPacer.{Pacer, rate_of, rate_set}
use Rattle.pacing.specs.declared.writer_pacer.PacerConfig.{PacerConfig}
use Rattle.station.specs.Station.{Writer, Roster, Station, writer_of, writer_at, pacer_in, with_pacer, joined, budgeted, budgeted_all, allotted, register_leaves, first_pacer}
use Rattle.guarantees.specs.Calls.{Call, Reply, nothing, signal, unchanged, updates, action, Outcome, rows_of, outcome, after}
use Rattle.guarantees.specs.Theorem.{Kept, keep, Each, is_updates, SetTo, ReplyReaches, StartsLeast, Reaches}
use Rattle.guarantees.proofs.Changes.{begins-down, Cases, by_case}
use Rattle.guarantees.proofs.Pages.{each}
use Rattle.guarantees.proofs.Rosters.{Seated, id_with, seated_with, joined_new, by_newcomer, seated-joined, id_budgeted, budgeted_at, seated-budgeted}

-- ---- ids in lists of writers

-- not every writer of the list lacks the id
abbrev Has : ℕ → List WriterInfo → Type 0
Has id ws = Lacks id ws → ⊥

-- an id that the changed list lacks, the list before lacked
lacks_inserted : (id : ℕ) (w : WriterInfo) (ws : List WriterInfo) → Lacks id (inserted w ws) → (w.id ≢ id) × Lacks id ws
unfolding inserted
lacks_inserted id w [] none = none
lacks_inserted id w (x ∷ xs) none =
    by_test (λ (l : List WriterInfo). Lacks id l → (w.id ≢ id) × Lacks id (x ∷ xs)) (comes_before w x) (λ e l. l)
    (λ e l. let h = lacks_inserted id w xs l.1 in (h.0, (l.0, h.1))) none

lacks_removed : (id other : ℕ) (ws : List WriterInfo) → other ≢ id → Lacks id (removed other ws) → Lacks id ws
unfolding removed
lacks_removed id other [] ne none = tt
lacks_removed id other (x ∷ xs) ne none =
    by_test (λ (l : List WriterInfo). Lacks id l → Lacks id (x ∷ xs)) (eqb x.id other)
    (λ e l. (λ (q : x.id ≡ id). ne (sym (eqb-true x.id other e) ∙ q), l)) (λ e l. (l.0, lacks_removed id other xs ne l.1))
    none

lacks_budgets : (id : ℕ) (s : Shares) (ws : List WriterInfo) → Lacks id (map (with_budget s) ws) → Lacks id ws
unfolding with_budget
lacks_budgets id s [] none = tt
lacks_budgets id s (w ∷ ws) none = (none.0, lacks_budgets id s ws none.1)

-- ---- rows of the table

-- where the search ends without a row, none has the id
lacks_rows : (id : ℕ) (rows : List WriterInfo) (n : ℕ) → n ≤ place_with id rows n → Lacks id (take n rows)
unfolding first
lacks_rows id rows zero none = tt
lacks_rows id [] (suc n) none = tt
lacks_rows id (x ∷ xs) (suc n) none =
    by_test (λ (k : ℕ). suc n ≤ k → Lacks id (x ∷ take n xs)) (eqb x.id id) (λ e l. absurd (omega arith))
    (λ e l. (eqb-false x.id id e, lacks_rows id xs n (omega arith))) none

-- the row that it finds is one of the list, and has the id
found-row :
    (id : ℕ) (rows : List WriterInfo) (n : ℕ) → n ≤ length rows → place_with id rows n < n
    → Memᴰ (row_at rows (place_with id rows n)) (take n rows) × ((row_at rows (place_with id rows n)).id ≡ id)
unfolding first
found-row id rows zero le lt = absurd (omega arith)
found-row id [] (suc n) le lt = absurd (omega arith)
found-row id (x ∷ xs) (suc n) le lt =
    by_test (λ (k : ℕ). k < suc n → Memᴰ (row_at (x ∷ xs) k) (x ∷ take n xs) × ((row_at (x ∷ xs) k).id ≡ id)) (eqb x.id id)
    (λ e l. (Memᴰ.head refl, eqb-true x.id id e))
    (λ e l. let h = found-row id xs n (omega arith) (omega arith) in (Memᴰ.tail h.0, h.1)) lt

known_where : (t : WriterTable) (id : ℕ) → Has id (writers_of t) → is_known t id ≡ true
unfolding is_known place_of
known_where t id has = true_from_ne_false _ (λ e. has (lacks_rows id t.rows (taken_of t.count) (ltb-false _ _ e)))

known-row :
    (t : WriterTable) (id : ℕ) → length t.rows ≡ 64 → is_known t id ≡ true
    → Memᴰ (row_at t.rows (place_of t id)) (writers_of t) × ((row_at t.rows (place_of t id)).id ≡ id)
unfolding is_known place_of
known-row t id size e = found-row id t.rows (taken_of t.count) (omega arith) (ltb-true _ _ e)

count_without : (t : WriterTable) (id : ℕ) → (without t id).count ≤ t.count
unfolding without
count_without t id =
    by_test (λ (u : WriterTable). u.count ≤ t.count) (ltb (place_of t id) (taken_of t.count)) (λ e. omega arith) (λ e. omega arith)

count_entered : (t : WriterTable) (w : WriterInfo) → (entered t w).count ≤ t.count + 1
unfolding entered
count_entered t w =
    by_test (λ (u : WriterTable). u.count ≤ t.count + 1) (ltb (taken_of t.count) 64) (λ e. omega arith) (λ e. omega arith)

-- ---- a roster in a table

-- every writer of the roster is in the table, which has no more writers than the roster
pub record Listed (t : WriterTable) (r : Roster) : Type 0 where
  pub in_order : IsInOrder t
  pub few : t.count ≤ r.count
  pub seated : Seated r
  pub has : (i : ℕ) → i < r.count → Has (writer_at r i).id (writers_of t)

-- a roster with the same ids
listed_ids :
    (t : WriterTable) (r r' : Roster) → Listed t r → Seated r' → r'.count ≡ r.count
    → ((i : ℕ) → i < r.count → (writer_at r' i).id ≡ (writer_at r i).id) → Listed t r'
listed_ids t r r' ok seated count ids =
    record {
      in_order = ok.in_order;
      few = omega (arith, ok.few);
      seated = seated;
      has = λ i lo none.
          let below : i < r.count = omega arith in
          ok.has i below (subst (λ (id : ℕ). Lacks id (writers_of t)) (ids i below) none);
    }

-- a rate shared out
module _ (a : BudgetAllocator) (c : AllocationConfig) (rate : ℕ) (r : Roster) (ok : Listed a.table r) where
  lacks-reallocated : (id : ℕ) → Lacks id (writers_of (reallocated a c rate).table) → Lacks id (writers_of a.table)
  unfolding allocator.allotted
  lacks-reallocated id none =
      lacks_budgets id (shares_of c rate (writers_of a.table)) (writers_of a.table) (subst (Lacks id) (allotted_writers a c rate) none)

  listed-reallocated : Listed (reallocated a c rate).table r
  unfolding reallocated allotted_table
  listed-reallocated =
      record {
        in_order = in_order-from a (reallocate c rate ∷ []) ok.in_order;
        few = ok.few;
        seated = ok.seated;
        has = λ i lo none. ok.has i lo (lacks-reallocated (writer_at r i).id none);
      }

-- a newcomer in both; the table has room
module _ (a : BudgetAllocator) (r : Roster) (w : Writer) (class : Priority) (room : r.count < 4) (ok : Listed a.table r) where
  not_full : full_for a.table w.id ≡ false
  unfolding full_for
  not_full =
      by_test (λ (b : Bool). b ≡ false) (is_known a.table w.id) (λ e. refl)
      (λ e. lt-leb 64 (taken_of a.table.count) (omega (arith, ok.few)))

  count-registered : (registered a w.id class one).table.count ≤ r.count + 1
  unfolding registered
  count-registered =
      omega (arith, count_entered (without a.table w.id) (new_writer w.id class one), count_without a.table w.id, ok.few)

  lacks-registered :
      (id : ℕ) → Lacks id (writers_of (registered a w.id class one).table) → (w.id ≢ id) × Lacks id (writers_of a.table)
  lacks-registered id none =
      let l = subst (Lacks id) (registered_writers a w.id class one ok.in_order.size not_full) none in
      let h = lacks_inserted id (new_writer w.id class one) (removed w.id (writers_of a.table)) l in
      (h.0, lacks_removed id w.id (writers_of a.table) h.0 h.1)

  listed-registered : Listed (registered a w.id class one).table (joined r w)
  unfolding joined
  listed-registered =
      record {
        in_order = in_order-from a (register w.id class one ∷ []) ok.in_order;
        few = count-registered;
        seated = seated-joined r w ok.seated room;
        has = λ i lo.
            by_newcomer (λ (j : ℕ) (x : Writer). Has x.id (writers_of (registered a w.id class one).table)) r w i ok.seated room
            lo (λ none. (lacks-registered w.id none).0 refl)
            (λ old none. ok.has i old (lacks-registered (writer_at r i).id none).1);
      }

-- ---- stations

-- every writer of a station is in its allocator's table
abbrev pub IsKnown : Station → Type 0
IsKnown s = Listed s.controller.allocator.table s.roster

-- a known writer's new rate is the budget in its row
rate-budgeted :
    (c : PacerConfig) (time : ℕ) (t : WriterTable) (w : Writer) → is_known t w.id ≡ true
    → (budgeted c time t w).pacer.tokens.rate_bps ≡ rate_of c (row_at t.rows (place_of t w.id)).budget_bps
unfolding budgeted rate_set rated resized
rate-budgeted c time t w e = rw e

-- a reply without updates claims nothing
reaches_silent : (s t : Station) (r : Reply) → is_updates r ≡ false → ReplyReaches s t r
reaches_silent s t nothing e = tt
reaches_silent s t (signal b) e = tt
reaches_silent s t unchanged e = tt
reaches_silent s t (updates rows) e = absurd (true≢false e)
reaches_silent s t (action a) e = tt

module _ (s : Station) (ok : IsKnown s) where
  -- the table of an allocator that shared out a rate
  shared :
      (c : CongestionController) (rate : ℕ) → c.allocator ≡ reallocated s.controller.allocator s.config.controller.allocation rate
      → Listed c.allocator.table s.roster
  shared c rate is =
      subst (λ (a : BudgetAllocator). Listed a.table s.roster) (sym is)
      (listed-reallocated s.controller.allocator s.config.controller.allocation rate s.roster ok)

  known-allotted : (time : ℕ) (c : CongestionController) → Listed c.allocator.table s.roster → IsKnown (allotted s time c)
  unfolding budgeted_all
  known-allotted time c there =
      let t = c.allocator.table in
      listed_ids t s.roster (budgeted_all s.config.pacer time t s.roster) there
      (seated-budgeted s.config.pacer time t s.roster ok.seated) refl
      (λ i lo.
      ap (λ (w : Writer). w.id) (budgeted_at s.config.pacer time t s.roster i ok.seated lo)
      ∙ id_budgeted s.config.pacer time t (writer_at s.roster i))

  known-registered : (time id : ℕ) (class : Priority) → s.roster.count < 4 → IsKnown (register_leaves s time id class)
  unfolding register_leaves registered_in
  known-registered time id class room =
      listed-registered s.controller.allocator s.roster (writer_of id (first_pacer s.config.pacer time)) class room ok

  listed-paced : (i : ℕ) (p : Pacer) → i < s.roster.count → Listed s.controller.allocator.table (with_pacer s.roster i p)
  unfolding with_pacer
  listed-paced i p lo =
      listed_ids s.controller.allocator.table s.roster (with_pacer s.roster i p) ok (seated_with s.roster i p ok.seated)
      refl (λ j below. id_with s.roster i p j ok.seated lo)

  pub known_outcome : (n : ℕ) (x : Call) → IsKnown (outcome s n x).station
  known_outcome n x = by_case s n (λ y o. IsKnown o.station) cases x
    where
      cases : Cases s n (λ y o. IsKnown o.station)
      cases =
          record {
            turned_down = λ y answer z t still. ok;
            steers = λ y time reply c same q silent h.
                subst (λ (a : BudgetAllocator). Listed a.table s.roster) (sym same) ok;
            allots = λ y time c rate is q h. known-allotted time c (shared c rate is);
            registers = λ time id class h lo. known-registered time id class lo;
            hands = λ time i c key bytes lent h lo short wide puts. listed-paced i _ lo;
            tries = λ time i lent h lo wide. listed-paced i _ lo;
          }

  -- each update sets the rate of its writer's pacer
  set_to :
      (time : ℕ) (c : CongestionController) → Listed c.allocator.table s.roster → (i : ℕ) → i < s.roster.count
      → SetTo (rows_of (allotted s time c)) s (allotted s time c) i
  set_to time c there i lo =
      record {
        row = row_at t.rows (place_of t w.id);
        listed = found.0;
        own = found.1;
        rate_is =
            ap (λ (x : Writer). x.pacer.tokens.rate_bps) (budgeted_at s.config.pacer time t s.roster i ok.seated lo)
            ∙ rate-budgeted s.config.pacer time t w known;
      }
    where
      t : WriterTable
      t = c.allocator.table

      w : Writer
      w = writer_at s.roster i

      known : is_known t w.id ≡ true
      known = known_where t w.id (there.has i lo)

      found : Memᴰ (row_at t.rows (place_of t w.id)) (writers_of t) × ((row_at t.rows (place_of t w.id)).id ≡ w.id)
      found = known-row t w.id there.in_order.size known

  pub reaches_outcome : (n : ℕ) (x : Call) → ReplyReaches s (outcome s n x).station (outcome s n x).reply
  reaches_outcome n x = by_case s n P cases x
    where
      P : Call → Outcome → Type 0
      P y o = ReplyReaches s o.station o.reply

      cases : Cases s n P
      cases =
          record {
            turned_down = λ y answer z t still. tt;
            steers = λ y time reply c same q silent h. reaches_silent s _ reply silent.no_updates;
            allots = λ y time c rate is q h. set_to time c (shared c rate is);
            registers = λ time id class h lo. tt;
            hands = λ time i c key bytes lent h lo short wide puts. tt;
            tries = λ time i lent h lo wide. tt;
          }

  -- a newcomer's pacer starts at the least rate
  starts-registered :
      (time id : ℕ) (class : Priority) → s.roster.count < 4 → (i : ℕ) → eqb i s.roster.count ≡ true
      → (pacer_in (register_leaves s time id class) i).tokens.rate_bps ≡ s.config.pacer.min_rate_bps
  unfolding register_leaves
  starts-registered time id class room i e =
      let w : Writer = writer_of id (first_pacer s.config.pacer time) in
      ap (λ (x : Writer). x.pacer.tokens.rate_bps) (ap (writer_at (joined s.roster w)) (eqb-true _ _ e) ∙ joined_new s.roster w ok.seated room)

  pub starts_outcome : (n : ℕ) (x : Call) → StartsLeast s (outcome s n x).station x (outcome s n x).answer
  starts_outcome n x = by_case s n P cases x
    where
      P : Call → Outcome → Type 0
      P y o = StartsLeast s o.station y o.answer

      cases : Cases s n P
      cases =
          record {
            turned_down = λ y answer z t still i e. absurd (true≢false (sym e ∙ begins-down i s y answer z));
            steers = λ y time reply c same q silent h i e. absurd (true≢false (sym e ∙ q.registers_none i s 0));
            allots = λ y time c rate is q h i e. absurd (true≢false (sym e ∙ q.registers_none i s 0));
            registers = λ time id class h lo. starts-registered time id class lo;
            hands = λ time j c key bytes lent h lo short wide puts i e. absurd (true≢false (sym e));
            tries = λ time j lent h lo wide i e. absurd (true≢false (sym e));
          }

-- ---- lists

-- "A pacer starts at `min_rate_bps`, which counts as a rate setting; so does each budget update"
pub settings : (m : Limits) (start : Kept) → IsKnown start.state.station → (calls : List Call) → Each m Reaches start calls
unfolding keep after
settings m start ok calls =
    each m (λ k xs. IsKnown k.state.station) (λ k x xs h. known_outcome k.state.station h (length k.state.pool) x) Reaches
    (λ k x xs h.
    record {
      starts = starts_outcome k.state.station h (length k.state.pool) x;
      budgets = reaches_outcome k.state.station h (length k.state.pool) x;
    })
    start calls ok
