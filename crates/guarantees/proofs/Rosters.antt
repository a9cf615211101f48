-- The writers of a station, as its calls leave them: who has which place, and what stays in the others. Assumes nothing.
-- Stays: what Budgets, Paces, Sound and Waits cite of the places of a roster; std has the lists in it, and not who sits where.
use Prim.Native.Nat.{ℕ, ◌+◌, ◌≤◌, ◌<◌}
use mathlib.Core.List.{List, ◌++◌, map}
use mathlib.Core.Logic.{◌≢◌}
use mathlib.Core.Path.{◌≡◌, refl, sym, ap, subst, ◌∙◌}
use native.Mathlib.Decide.{ℕ_discrete}
use native.Mathlib.Omega.{arith}
use lib.ListN.{length, get_or, take, drop, get_or-append, length-set}
use lib.Seq.{get_or-set_same, get_or-set_other, get_or-take, length-take-le}
use Rattle.std.proofs.lemmas.List.{get_or-map, length-map}
use Rattle.control.proofs.Writers.{length_mapped}
use Rattle.control.specs.BudgetAllocator.{is_known}
use Rattle.control.specs.declared.budget_allocator.WriterTable.{WriterTable}
use Rattle.numeric.proofs.Choice.{by_test}
use Rattle.pacing.specs.WriterPacer.{Pacer}
use Rattle.pacing.specs.declared.writer_pacer.PacerConfig.{PacerConfig}
use Rattle.station.specs.Station.{Writer, Roster, writer_of, no_writer, writer_at, taken_of, joined, with_pacer, budgeted, budgeted_all}

-- four places, and no more writers than places
pub record Seated (r : Roster) : Type 0 where
  pub places : length r.writers ≡ 4
  pub fits : r.count ≤ 4

-- ---- another pacer in a place

writer-same : (r : Roster) (i : ℕ) (p : Pacer) → Seated r → i < r.count → writer_at (with_pacer r i p) i ≡ writer_of (writer_at r i).id p
unfolding with_pacer
writer-same r i p ok h = get_or-set_same r.writers i (writer_of (writer_at r i).id p) no_writer (omega (arith, ok.places, ok.fits))

pub pacer-same : (r : Roster) (i : ℕ) (p : Pacer) → Seated r → i < r.count → (writer_at (with_pacer r i p) i).pacer ≡ p
pacer-same r i p ok h = ap (λ (w : Writer). w.pacer) (writer-same r i p ok h)

pub pacer_other : (r : Roster) (i : ℕ) (p : Pacer) (j : ℕ) → j ≢ i → writer_at (with_pacer r i p) j ≡ writer_at r j
unfolding with_pacer
pacer_other r i p j ne = get_or-set_other r.writers i j (writer_of (writer_at r i).id p) no_writer ne

-- what holds of the writer in place i with the pacer, and of the others as they were, holds of all
pub by_seat :
    (P : ℕ → Writer → Type 0) (r : Roster) (i : ℕ) (p : Pacer) (j : ℕ) → Seated r → i < r.count → P i (writer_of (writer_at r i).id p)
    → (j ≢ i → P j (writer_at r j)) → P j (writer_at (with_pacer r i p) j)
by_seat P r i p j ok lo here there = go (ℕ_discrete j i)
  where
    go : Dec (j ≡ i) → P j (writer_at (with_pacer r i p) j)
    go (yes e) = subst (λ (k : ℕ). P k (writer_at (with_pacer r i p) k)) (sym e) (subst (P i) (sym (writer-same r i p ok lo)) here)
    go (no ne) = subst (P j) (sym (pacer_other r i p j ne)) (there ne)

-- its writer keeps the id
pub id_with : (r : Roster) (i : ℕ) (p : Pacer) (j : ℕ) → Seated r → i < r.count → (writer_at (with_pacer r i p) j).id ≡ (writer_at r j).id
id_with r i p j ok lo = by_seat (λ (k : ℕ) (w : Writer). w.id ≡ (writer_at r k).id) r i p j ok lo refl (λ ne. refl)

pub seated_with : (r : Roster) (i : ℕ) (p : Pacer) → Seated r → Seated (with_pacer r i p)
unfolding with_pacer
seated_with r i p ok = record { places = length-set r.writers i _ ∙ ok.places; fits = ok.fits }

-- ---- a newcomer

pub joined_new : (r : Roster) (w : Writer) → Seated r → r.count < 4 → writer_at (joined r w) r.count ≡ w
unfolding joined
joined_new r w ok h = get_or-set_same r.writers r.count w no_writer (omega (arith, ok.places))

pub joined_other : (r : Roster) (w : Writer) (j : ℕ) → j ≢ r.count → writer_at (joined r w) j ≡ writer_at r j
unfolding joined
joined_other r w j ne = get_or-set_other r.writers r.count j w no_writer ne

-- what holds of the newcomer in its place, and of the others as they were, holds of all
pub by_newcomer :
    (P : ℕ → Writer → Type 0) (r : Roster) (w : Writer) (i : ℕ) → Seated r → r.count < 4 → i < r.count + 1 → P r.count w
    → (i < r.count → P i (writer_at r i)) → P i (writer_at (joined r w) i)
by_newcomer P r w i ok room lo here there = go (ℕ_discrete i r.count)
  where
    go : Dec (i ≡ r.count) → P i (writer_at (joined r w) i)
    go (yes e) = subst (λ (j : ℕ). P j (writer_at (joined r w) j)) (sym e) (subst (P r.count) (sym (joined_new r w ok room)) here)
    go (no ne) = subst (P i) (sym (joined_other r w i ne)) (there (omega arith))

pub seated-joined : (r : Roster) (w : Writer) → Seated r → r.count < 4 → Seated (joined r w)
unfolding joined
seated-joined r w ok h = record { places = length-set r.writers r.count w ∙ ok.places; fits = omega arith }

-- ---- new budgets

mapped_at : {A : Type 0} (f : A → A) (l : List A) (n i : ℕ) (d : A) → i < n → n ≤ length l → get_or (map f (take n l) ++ drop n l) i d ≡ f (get_or l i d)
mapped_at f l n i d h k =
    let long : i < length (take n l) = omega (arith, length-take-le n l k) in
    get_or-append (map f (take n l)) (drop n l) d i (rw (length-map (take n l) f) long) ∙ get_or-map f (take n l) i d d long ∙ ap f (get_or-take n l i d h)

pub id_budgeted : (c : PacerConfig) (time : ℕ) (t : WriterTable) (w : Writer) → (budgeted c time t w).id ≡ w.id
unfolding budgeted
id_budgeted c time t w = by_test (λ (x : Writer). x.id ≡ w.id) (is_known t w.id) (λ e. refl) (λ e. refl)

pub budgeted_at :
    (c : PacerConfig) (time : ℕ) (t : WriterTable) (r : Roster) (i : ℕ) → Seated r → i < r.count
    → writer_at (budgeted_all c time t r) i ≡ budgeted c time t (writer_at r i)
unfolding budgeted_all
budgeted_at c time t r i ok h = mapped_at (budgeted c time t) r.writers (taken_of r) i no_writer (omega (arith, ok.fits)) (omega (arith, ok.places))

pub seated-budgeted : (c : PacerConfig) (time : ℕ) (t : WriterTable) (r : Roster) → Seated r → Seated (budgeted_all c time t r)
unfolding budgeted_all
seated-budgeted c time t r ok = record { places = length_mapped (budgeted c time t) (taken_of r) r.writers ∙ ok.places; fits = ok.fits }
