-- A buffer of 24 bytes and 192 for each word holds the lines of every tape ("The tape"): a line has at most 168 bytes, and each
-- has a word of its own but a missing end's, which has at most 23. Assumes nothing.
-- Stays: the steps to `enough`, which run needs and docs/GUARANTEES.md names; they are of stations and lines, of which std has nothing.
use Prim.Native.Nat.{ℕ, zero, suc, ◌+◌, ◌-◌, ◌*◌, ◌^◌, ◌≤◌, ◌<◌}
use mathlib.Core.List.{List, [], ◌∷◌, ◌++◌, map, append-nil, append_assoc}
use mathlib.Core.Path.{◌≡◌, refl, sym, ap}
use Rattle.std.proofs.Common.{Bool, true, false, Result, Ok, Err}
use native.Mathlib.Omega.{arith}
use borrow.Author.Tests.{leb-false}
use lib.Dec.{ltb}
use lib.Ieee.{Float, binary32, of_bits, of_int, mul, div}
use lib.Ieee.Casts.{to_unsigned-lt}
use lib.IntN.{pos}
use lib.ListN.{length, take, drop, length-append, length-take}
use Rattle.std.proofs.lemmas.List.Elements.{All-nil, All-cons, All-head, All-tail, All-append, All-take, All-drop, All-replicate, All-map, All-weaker}
use Rattle.std.specs.List.{All}
use Rattle.config.proofs.Refusals.{none_where_accepted}
use Rattle.config.specs.Refusal.{accepted, number_of, verdict_of, none_number, result_number}
use Rattle.config.specs.declared.alone.Left.{Left}
use Rattle.config.specs.declared.config.Priority.{Priority}
use Rattle.config.specs.declared.refusal.Refusal.{Refusal}
use Rattle.config.specs.declared.refusal.Refusal.TheVariants.{KindUnknown, TableFull}
use Rattle.numeric.proofs.Choice.{by_test}
use Rattle.numeric.specs.Float.{scaled}
use Rattle.queue.specs.declared.entry.InstanceKey.{InstanceKey}
use Rattle.signals.specs.RttEstimator.{any_inflated}
use Rattle.control.specs.BudgetAllocator.{new_writer, blank_writer, taken_of, new_table, writers_of, place_of, place_for, lacking, with_row, without_row, entered, without, share_of, shares_of, budget_for, with_budget, allotted_table, one, registered, reallocated}
use Rattle.control.specs.Controller.{new_controller, registered_in, sampled, CoreTicked, ControllerTicked, ticked_with, core_ticked, controller_set}
use Rattle.control.specs.declared.budget_allocator.AllocationConfig.{AllocationConfig}
use Rattle.control.specs.declared.budget_allocator.BudgetAllocator.{BudgetAllocator}
use Rattle.control.specs.declared.budget_allocator.Shares.{Shares}
use Rattle.control.specs.declared.budget_allocator.WriterInfo.{WriterInfo}
use Rattle.control.specs.declared.budget_allocator.WriterTable.{WriterTable}
use Rattle.control.specs.declared.controller.CongestionController.{CongestionController}
use Rattle.station.specs.Station.{Station, joined, with_pacer, left_by, register_checks, register_leaves, registered_station, eagain_station, nacks_station, tos_station, rtt_station, budgeted_all, tick_leaves, ticked_by, ticked_station, rated_station, handed_station, sent_station}
use Rattle.tape.specs.Item.{words_of, item_at, takes, placed, is_end, stops, items_from, items_of}
use Rattle.tape.specs.Run.{Player, player_of, new_player, fields, updates, told_text, Line, line_of, updates_of, tick_told, rate_told, Step, silent, saying, ticked, rated, played, lines_of, text_of, tape_text}
use Rattle.tape.specs.Text.{decimal_by, fields_text, line_text}
use Rattle.tape.specs.declared.item.Item.{Item}
use Rattle.tape.specs.declared.item.Item.TheVariants.{End, Broken, Advance, Register, Eagain, Tos, Nacks, Rtt, Tick, HandIn, Send, SetRate}
use Rattle.tape.specs.declared.item.Placed.{Placed}
use Rattle.tape.specs.declared.text.Fields.{Fields}
use Rattle.tape.specs.declared.text.Fields.TheVariants.{Nothing}
use Rattle.tape.proofs.Items.{IsShortId, item_id}
use Rattle.tape.proofs.Texts.{short, short-end, short-updates, IsNarrow}

-- ---- the allocator's table

-- at most n writers, and every row is narrow, taken or not
pub record IsSmall (t : WriterTable) (n : ℕ) : Type 0 where
  pub few : t.count ≤ n
  pub narrow : All IsNarrow t.rows

narrow-blank : IsNarrow blank_writer
narrow-blank = (omega arith, omega arith, omega arith)

small_new : IsSmall new_table 0
small_new = record { few = omega arith; narrow = All-replicate IsNarrow 64 blank_writer narrow-blank }

writers_few : (t : WriterTable) (n : ℕ) → IsSmall t n → length (writers_of t) ≤ n
writers_few t n ok = rw length-take (omega (arith, ok.few))

writers_narrow : (t : WriterTable) (n : ℕ) → IsSmall t n → All IsNarrow (writers_of t)
writers_narrow t n ok = All-take IsNarrow (taken_of t.count) t.rows ok.narrow

-- a part of a rate is a number of 32 bits
scaled-most : (n : ℕ) (x : Float) → scaled n x < 2 ^ 32
unfolding scaled
scaled-most n x = to_unsigned-lt 32 (mul binary32 (of_int binary32 (pos n)) x)

-- and so is a budget
share_most : (budget : ℕ) (weight total : Float) → share_of budget weight total < 10 ^ 10
unfolding share_of
share_most budget weight total = omega (arith, scaled-most budget (div binary32 weight total))

-- the new budget, and the old one beside it
narrow_budget : (s : Shares) (w : WriterInfo) → IsNarrow w → IsNarrow (with_budget s w)
unfolding with_budget budget_for
narrow_budget s w h = (h.0, share_most _ _ _, h.1)

-- a rate shared out
small-reallocated :
    (a : BudgetAllocator) (c : AllocationConfig) (rate n : ℕ) → IsSmall a.table n → IsSmall (reallocated a c rate).table n
unfolding reallocated allotted_table
small-reallocated a c rate n ok =
    let t = a.table in
    let s = shares_of c rate (writers_of t) in
    record {
      few = ok.few;
      narrow =
          All-append IsNarrow (map (with_budget s) (writers_of t)) (drop (taken_of t.count) t.rows)
          (All-map IsNarrow (with_budget s) (writers_of t)
          (All-weaker IsNarrow (λ w. IsNarrow (with_budget s w)) (narrow_budget s) (writers_of t) (writers_narrow t n ok)))
          (All-drop IsNarrow (taken_of t.count) t.rows ok.narrow);
    }

narrow_lacking : (ws : List WriterInfo) (k : ℕ) → All IsNarrow ws → All IsNarrow (lacking ws k)
unfolding lacking
narrow_lacking [] k h = h
narrow_lacking (w ∷ ws) zero h = All-tail IsNarrow w ws h
narrow_lacking (w ∷ ws) (suc k) h =
    All-cons IsNarrow w (lacking ws k) (All-head IsNarrow w ws h) (narrow_lacking ws k (All-tail IsNarrow w ws h))

-- a writer taken out
small-without : (t : WriterTable) (id n : ℕ) → IsSmall t n → IsSmall (without t id) n
unfolding without without_row
small-without t id n ok =
    by_test (λ (u : WriterTable). IsSmall u n) (ltb (place_of t id) (taken_of t.count))
    (λ e.
    record {
      few = omega (arith, ok.few);
      narrow =
          narrow_lacking _ _
          (All-append IsNarrow t.rows (blank_writer ∷ []) ok.narrow (All-cons IsNarrow blank_writer [] narrow-blank (All-nil IsNarrow)));
    })
    (λ e. ok)

-- a writer put in
small-entered : (t : WriterTable) (w : WriterInfo) (n : ℕ) → IsNarrow w → IsSmall t n → IsSmall (entered t w) (n + 1)
unfolding entered with_row
small-entered t w n new ok =
    let k = place_for t w in
    by_test (λ (u : WriterTable). IsSmall u (n + 1)) (ltb (taken_of t.count) 64)
    (λ e.
    record {
      few = omega (arith, ok.few);
      narrow =
          narrow_lacking _ _
          (All-append IsNarrow (take k t.rows) (w ∷ drop k t.rows) (All-take IsNarrow k t.rows ok.narrow)
          (All-cons IsNarrow w (drop k t.rows) new (All-drop IsNarrow k t.rows ok.narrow)));
    })
    (λ e. record { few = omega (arith, ok.few); narrow = ok.narrow })

-- a writer with a short id; it has no budget yet
small-registered :
    (a : BudgetAllocator) (id : ℕ) (class : Priority) (n : ℕ) → id < 10 ^ 8 → IsSmall a.table n
    → IsSmall (registered a id class one).table (n + 1)
unfolding registered
small-registered a id class n short ok =
    small-entered (without a.table id) (new_writer id class one) n (short, omega arith, omega arith) (small-without a.table id n ok)

-- ---- the calls on a station

-- no more writers in the table than in the roster, which has four places
abbrev pub IsBounded : Station → Type 0
IsBounded s = IsSmall s.controller.allocator.table s.roster.count × (s.roster.count ≤ 4)

-- a call that is turned down leaves the station as it was
bounded-left :
    {T : Type 0} (v : Result Unit Refusal) (s : Station) (x : Left Station T) → IsBounded s → (v ≡ Ok tt → IsBounded x.state) → IsBounded (left_by v s x).state
unfolding left_by
bounded-left (Ok u) s x ok done = done refl
bounded-left (Err e) s x ok done = ok

module _ (s : Station) (time : ℕ) (ok : IsBounded s) where
  -- an accepted register found the table not full
  room : (id : ℕ) → verdict_of (register_checks s time id) ≡ Ok tt → s.roster.count < 4
  room id e = leb-false _ _ (none_where_accepted (register_checks s time id) e TableFull)

  bounded-registered : (id : ℕ) (class : Priority) → id < 10 ^ 8 → IsBounded (registered_station s time id class).state
  unfolding registered_station register_leaves registered_in joined
  bounded-registered id class short =
      bounded-left (verdict_of (register_checks s time id)) s _ ok
      (λ e.
      let free : s.roster.count < 4 = room id e in
      (small-registered s.controller.allocator id class s.roster.count short ok.0, omega arith))

  -- signals leave the table
  bounded-eagain : IsBounded (eagain_station s time).state
  unfolding eagain_station
  bounded-eagain = bounded-left _ s _ ok (λ e. ok)

  bounded-nacks : (count : ℕ) → IsBounded (nacks_station s time count).state
  unfolding nacks_station
  bounded-nacks count = bounded-left _ s _ ok (λ e. ok)

  bounded-tos : (tos : ℕ) → IsBounded (tos_station s time tos).state
  unfolding tos_station
  bounded-tos tos = bounded-left _ s _ ok (λ e. ok)

  bounded-rtt : (peer : ℕ) (rtt : Float) → IsBounded (rtt_station s time peer rtt).state
  unfolding rtt_station sampled
  bounded-rtt peer rtt =
      bounded-left _ s _ ok
      (λ e.
      by_test (λ (c : CongestionController). IsSmall c.allocator.table s.roster.count × (s.roster.count ≤ 4))
      s.config.controller.enabled (λ q. ok) (λ q. ok))

  -- a tick that changes the rate and a rate setting share it out
  small-shared : (rate : ℕ) → IsSmall (reallocated s.controller.allocator s.config.controller.allocation rate).table s.roster.count
  small-shared rate = small-reallocated s.controller.allocator s.config.controller.allocation rate s.roster.count ok.0

  bounded-leaves : (k : CoreTicked) → IsBounded (tick_leaves s time (ticked_with s.controller s.config.controller k)).state
  unfolding budgeted_all
  bounded-leaves k =
      by_test (λ (t : ControllerTicked). IsBounded (tick_leaves s time t).state) k.1
      (λ e. (small-shared k.0.rate_controller.current_rate, ok.1)) (λ e. ok)

  bounded-ticked : IsBounded (ticked_station s time).state
  unfolding ticked_by ticked_station
  bounded-ticked =
      bounded-left _ s _ ok
      (λ e. bounded-leaves (core_ticked s.controller.core s.config.controller time (any_inflated s.controller.tracker)))

  bounded-rated : (rate : ℕ) → IsBounded (rated_station s time rate).state
  unfolding rated_station controller_set budgeted_all
  bounded-rated rate = bounded-left _ s _ ok (λ e. (small-shared rate, ok.1))

  -- hand-ins and send attempts leave the table and the number of writers
  bounded-handed : (bytes i : ℕ) (c : Priority) (key : InstanceKey) (n : ℕ) → IsBounded (handed_station s bytes time i c key n).state
  unfolding handed_station with_pacer
  bounded-handed bytes i c key n = bounded-left _ s _ ok (λ e. ok)

  bounded-sent : (bytes i : ℕ) → IsBounded (sent_station s bytes time i).state
  unfolding sent_station with_pacer
  bounded-sent bytes i = bounded-left _ s _ ok (λ e. ok)

-- ---- one item

length_line : (l : Line) → length (text_of (l ∷ [])) ≡ length (line_text l.index l.answer (told_text l.told))
unfolding text_of
length_line l = ap length (append-nil (line_text l.index l.answer (told_text l.told)))

-- what it prints is short, and the station that it leaves is bounded
pub record IsSteady (x : Step) : Type 0 where
  pub brief : length (text_of x.lines) ≤ 168
  pub bounded : IsBounded x.player.station

steady_silent : (p : Player) → IsBounded p.station → IsSteady (silent p)
unfolding text_of
steady_silent p ok = record { brief = omega arith; bounded = ok }

steady_fields : (p : Player) (k answer : ℕ) (f : Fields) → IsBounded p.station → IsSteady (saying (line_of k answer (fields f)) p)
steady_fields p k answer f ok = record { brief = rw length_line (short k answer f); bounded = ok }

-- .. and one that may tell every writer's budgets
steady_updates : (p : Player) (k answer : ℕ) → IsBounded p.station → IsSteady (saying (line_of k answer (updates (updates_of p.station))) p)
steady_updates p k answer ok =
    let few : length (updates_of p.station) ≤ 4 = omega (arith, writers_few _ _ ok.0, ok.1) in
    record { brief = rw length_line (short-updates k answer (updates_of p.station) few (writers_narrow _ _ ok.0)); bounded = ok }

-- a tick and a rate setting
steady_ticked : (p : Player) (k : ℕ) (x : Left Station Bool) → IsBounded x.state → IsSteady (ticked p k x)
unfolding tick_told
steady_ticked p k x ok = go x.answer
  where
    go : (r : Result Bool Refusal) → IsSteady (saying (line_of k (result_number (λ b. accepted) r) (tick_told (updates_of x.state) r)) (player_of x.state p.clock p.pool))
    go (Ok true) = steady_updates (player_of x.state p.clock p.pool) k _ ok
    go (Ok false) = steady_fields (player_of x.state p.clock p.pool) k _ _ ok
    go (Err e) = steady_fields (player_of x.state p.clock p.pool) k _ _ ok

steady_rated : (p : Player) (k : ℕ) (x : Left Station Unit) → IsBounded x.state → IsSteady (rated p k x)
unfolding rate_told
steady_rated p k x ok = go x.answer
  where
    go : (r : Result Unit Refusal) → IsSteady (saying (line_of k (result_number none_number r) (rate_told (updates_of x.state) r)) (player_of x.state p.clock p.pool))
    go (Ok u) = steady_updates (player_of x.state p.clock p.pool) k _ ok
    go (Err e) = steady_fields (player_of x.state p.clock p.pool) k _ _ ok

steady_played : (bytes : List ℕ) (p : Player) (k : ℕ) (item : Item) → IsShortId item → IsBounded p.station → IsSteady (played bytes p k item)
unfolding played
steady_played bytes p k End s ok = steady_silent p ok
steady_played bytes p k Broken s ok = steady_fields p k (number_of KindUnknown) Nothing ok
steady_played bytes p k (Advance micros) s ok = steady_silent _ ok
steady_played bytes p k (Register c id) s ok = steady_fields _ k _ Nothing (bounded-registered p.station p.clock ok id c s)
steady_played bytes p k Eagain s ok = steady_fields _ k _ Nothing (bounded-eagain p.station p.clock ok)
steady_played bytes p k (Tos tos) s ok = steady_fields _ k _ _ (bounded-tos p.station p.clock ok tos)
steady_played bytes p k (Nacks count) s ok = steady_fields _ k _ Nothing (bounded-nacks p.station p.clock ok count)
steady_played bytes p k (Rtt peer bits) s ok = steady_fields _ k _ Nothing (bounded-rtt p.station p.clock ok peer (of_bits binary32 bits))
steady_played bytes p k Tick s ok = steady_ticked p k _ (bounded-ticked p.station p.clock ok)
steady_played bytes p k (HandIn i c n) s ok = steady_fields _ k _ Nothing (bounded-handed p.station p.clock ok _ i c _ n)
steady_played bytes p k (Send i) s ok = steady_fields _ k _ _ (bounded-sent p.station p.clock ok _ i)
steady_played bytes p k (SetRate rate) s ok = steady_rated p k _ (bounded-rated p.station p.clock ok rate)

-- ---- the whole tape

pub text_append : (a b : List Line) → text_of (a ++ b) ≡ text_of a ++ text_of b
unfolding text_of
text_append [] b = refl
text_append (l ∷ a) b = rw (text_append a b) (sym (append_assoc (line_text l.index l.answer (told_text l.told)) (text_of a) (text_of b)))

module _ (bytes : List ℕ) where
  -- how many bytes the items print
  abbrev printed : Player → List Placed → ℕ
  printed p items = length (text_of (lines_of bytes p items))

  printed-none : (p : Player) → printed p [] ≡ 0
  unfolding lines_of text_of
  printed-none p = refl

  printed-next :
      (p : Player) (k : ℕ) (item : Item) (items : List Placed)
      → printed p (placed k item ∷ items) ≡ length (text_of (played bytes p k item).lines) + printed (played bytes p k item).player items
  unfolding lines_of
  printed-next p k item items = simp (text_append, length-append)

  printed-end : (p : Player) (k : ℕ) → printed p (placed k Broken ∷ []) ≡ length (line_text k (number_of KindUnknown) (fields_text Nothing))
  unfolding lines_of played
  printed-end p k = length_line (line_of k (number_of KindUnknown) (fields Nothing))

  -- at most 168 bytes for each word left, and 23 for the end where it is missing
  printed-most : (left k pass : ℕ) (p : Player) → IsBounded p.station → printed p (items_from left bytes k pass) ≤ 168 * left + 23
  unfolding items_from
  printed-most zero k pass p ok = rw printed-end (omega (arith, short-end k))
  printed-most (suc left) k (suc pass) p ok = omega (arith, printed-most left (suc k) pass p ok)
  printed-most (suc left) k zero p ok =
      by_test Fits (stops item)
      (λ e. by_test Fits (is_end item) (λ q. rw printed-none (omega arith)) (λ q. rw (printed-next, printed-none) (omega (arith, step.brief))))
      (λ e. rw printed-next (omega (arith, step.brief, printed-most left (suc k) (takes item - 1) (played bytes p k item).player step.bounded)))
    where
      item : Item
      item = item_at bytes k

      step : IsSteady (played bytes p k item)
      step = steady_played bytes p k item (item_id bytes k) ok

      Fits : List Placed → Type 0
      Fits items = printed p items ≤ 168 * suc left + 23

  -- of no words the end is missing at index 0: four bytes
  printed-all : (words : ℕ) (p : Player) → IsBounded p.station → printed p (items_from words bytes 0 0) ≤ 5 + 192 * words
  unfolding items_from decimal_by fields_text line_text
  printed-all zero p ok = rw printed-end (omega arith)
  printed-all (suc words) p ok = omega (arith, printed-most (suc words) 0 0 p ok)

bounded_new : IsBounded new_player.station
unfolding new_controller
bounded_new = (small_new, omega arith)

-- "needs 24 + 192 times the tape's words as output bytes": so many are always enough
pub enough : (bytes : List ℕ) → length (tape_text bytes) ≤ 24 + 192 * words_of (length bytes)
unfolding tape_text items_of
enough bytes = rw length-append (omega (arith, printed-all bytes (words_of (length bytes)) new_player bounded_new))
