-- What a verdict means: a call is accepted exactly where no reason applies to it, and a reason that is given applies.
-- And checks one after the other: what goes before decides, or what comes after does. Assumes nothing.
-- Stays: laws of answers that docs/GUARANTEES.md, docs/COVERAGE.md and docs/DESIGN-PASS.md name, which pacing, tape, bowunte and guarantees cite; std has no reasons in an order.
use Rattle.std.proofs.Common.{◌≡◌, ℕ, true, false, cond, List, [], ◌∷◌, eqb, Result, Ok, Err, refl, ap, sym, ◌∙◌, arith}
use Rattle.std.proofs.lemmas.Bool.{cond_both}
use Rattle.config.specs.Refusal.{Check, when, applies, first_of, order, verdict_of, number_of, none_number, result_number, answer_of}
use Rattle.config.specs.declared.refusal.Refusal.{Refusal}
use Rattle.config.specs.declared.refusal.Refusal.TheVariants.{SettingsInvalid, SettingsBeyond, RecordTooLong, SampleBeyond, KindUnknown, RateBeyond, TimeBeyond, BufferTooShort, CallsUsedUp, TimeBack, Disabled, WriterUnknown, WriterKnown, TableFull}

abbrev pub Verdict : Type 0
Verdict = Result Unit Refusal

-- ---- accepted, and turned down

-- no reason applies
abbrev pub NoneApplies : List Check → Type 0
NoneApplies checks = (r : Refusal) → applies checks r ≡ false

abbrev NoneOf : List Refusal → List Check → Type 0
NoneOf [] checks = Unit {0}
NoneOf (r ∷ rs) checks = (applies checks r ≡ false) × NoneOf rs checks

accepted_none : (rs : List Refusal) (checks : List Check) → first_of rs checks ≡ Ok tt → NoneOf rs checks
accepted_none [] checks e = tt
accepted_none (r ∷ rs) checks e =
    cond_both (applies checks r) (Err r) (first_of rs checks) (λ (v : Verdict). v ≡ Ok tt → NoneOf (r ∷ rs) checks) (λ h p. absurd (cc)) (λ h p. (h, accepted_none rs checks p)) e

-- each reason stands in the order
in_order : (checks : List Check) → NoneOf order checks → NoneApplies checks
in_order checks h SettingsInvalid = h.0
in_order checks h SettingsBeyond = h.1.0
in_order checks h RecordTooLong = h.1.1.0
in_order checks h SampleBeyond = h.1.1.1.0
in_order checks h KindUnknown = h.1.1.1.1.0
in_order checks h RateBeyond = h.1.1.1.1.1.0
in_order checks h TimeBeyond = h.1.1.1.1.1.1.0
in_order checks h BufferTooShort = h.1.1.1.1.1.1.1.0
in_order checks h CallsUsedUp = h.1.1.1.1.1.1.1.1.0
in_order checks h TimeBack = h.1.1.1.1.1.1.1.1.1.0
in_order checks h Disabled = h.1.1.1.1.1.1.1.1.1.1.0
in_order checks h WriterUnknown = h.1.1.1.1.1.1.1.1.1.1.1.0
in_order checks h WriterKnown = h.1.1.1.1.1.1.1.1.1.1.1.1.0
in_order checks h TableFull = h.1.1.1.1.1.1.1.1.1.1.1.1.1.0

-- accepted exactly where no reason applies
-- Stays: docs/GUARANTEES.md names it; with the one after it, it says what an accepted call is.
pub accepted_where_none : (checks : List Check) → NoneApplies checks → verdict_of checks ≡ Ok tt
unfolding verdict_of
accepted_where_none checks h = go order
  where
    go : (rs : List Refusal) → first_of rs checks ≡ Ok tt
    go [] = refl
    go (r ∷ rs) = rw (h r) (go rs)

pub none_where_accepted : (checks : List Check) → verdict_of checks ≡ Ok tt → NoneApplies checks
unfolding verdict_of
none_where_accepted checks e = in_order checks (accepted_none order checks e)

-- a reason that is given applies
-- Stays: docs/GUARANTEES.md names it.
pub refusal_applies : (checks : List Check) (e : Refusal) → verdict_of checks ≡ Err e → applies checks e ≡ true
unfolding verdict_of
refusal_applies checks e p = go order p
  where
    go : (rs : List Refusal) → first_of rs checks ≡ Err e → applies checks e ≡ true
    go [] q = absurd (cc)
    go (r ∷ rs) q = cond_both (applies checks r) (Err r) (first_of rs checks) (λ (v : Verdict). v ≡ Err e → applies checks e ≡ true) (λ h k. cc) (λ h k. go rs k) q

-- ---- the same of numbers

abbrev reason_of : ℕ → Refusal
reason_of n =
    cond (eqb n 1) SettingsInvalid
    (cond (eqb n 2) SettingsBeyond
    (cond (eqb n 3) RecordTooLong
    (cond (eqb n 4) SampleBeyond
    (cond (eqb n 5) KindUnknown
    (cond (eqb n 6) RateBeyond
    (cond (eqb n 7) TimeBeyond
    (cond (eqb n 8) BufferTooShort
    (cond (eqb n 17) CallsUsedUp
    (cond (eqb n 11) TimeBack
    (cond (eqb n 13) Disabled
    (cond (eqb n 15) WriterUnknown
    (cond (eqb n 16) WriterKnown TableFull))))))))))))

numbered : (r : Refusal) → reason_of (number_of r) ≡ r
numbered SettingsInvalid = refl
numbered SettingsBeyond = refl
numbered RecordTooLong = refl
numbered SampleBeyond = refl
numbered KindUnknown = refl
numbered RateBeyond = refl
numbered TimeBeyond = refl
numbered BufferTooShort = refl
numbered CallsUsedUp = refl
numbered TimeBack = refl
numbered Disabled = refl
numbered WriterUnknown = refl
numbered WriterKnown = refl
numbered TableFull = refl

-- no two reasons have one number
-- Stays: docs/GUARANTEES.md names it.
pub number_tells : (r e : Refusal) → number_of r ≡ number_of e → r ≡ e
number_tells r e p = sym (numbered r) ∙ (ap reason_of p ∙ numbered e)

-- the number of a reason is not that of an accepted call
pub no_refusal_zero : (e : Refusal) → number_of e ≡ 0 → ⊥
no_refusal_zero e z = omega (arith, ap number_of (sym (numbered e) ∙ ap reason_of z))

-- nor that of a full urgent queue
pub no_refusal_twelve : (e : Refusal) → number_of e ≡ 12 → ⊥
no_refusal_twelve e z = omega (arith, ap number_of (sym (numbered e) ∙ ap reason_of z))

-- answered 0 exactly where the verdict is to accept
-- Stays: docs/DESIGN-PASS.md names it and the one after it: what the law of numbers said before verdicts.
pub zero_where_accepted : (checks : List Check) → verdict_of checks ≡ Ok tt → answer_of checks ≡ 0
zero_where_accepted checks e = ap (result_number none_number) e

-- Stays: as the one before it.
pub accepted_where_zero : (checks : List Check) → answer_of checks ≡ 0 → verdict_of checks ≡ Ok tt
accepted_where_zero checks z = go (verdict_of checks) z
  where
    go : (v : Verdict) → result_number none_number v ≡ 0 → v ≡ Ok tt
    go (Ok u) n = refl
    go (Err e) n = absurd (no_refusal_zero e n)

-- a call that is not answered 0 is turned down for a reason that applies, and answered by the number of that reason
-- Stays: docs/GUARANTEES.md names it.
pub answer_applies :
    (checks : List Check) → (answer_of checks ≡ 0 → ⊥)
    → (e : Refusal) × (verdict_of checks ≡ Err e) × (answer_of checks ≡ number_of e) × (applies checks e ≡ true)
answer_applies checks n = go (verdict_of checks) refl
  where
    go :
        (v : Verdict) → verdict_of checks ≡ v
        → (e : Refusal) × (verdict_of checks ≡ Err e) × (answer_of checks ≡ number_of e) × (applies checks e ≡ true)
    go (Ok u) p = absurd (n (zero_where_accepted checks p))
    go (Err e) p = (e, p, ap (result_number none_number) p, refusal_applies checks e p)

-- ---- one after the other

-- what one verdict leaves to the next
-- Stays: the three laws below say it.
abbrev pub then_of : Verdict → Verdict → Verdict
then_of (Ok u) rest = rest
then_of (Err e) rest = Err e

-- the first reason that applies, in the order of the list, or what follows the checks
-- Stays: docs/DESIGN-PASS.md names it, and the laws of it below.
abbrev pub chain_of : List Check → Verdict → Verdict
chain_of [] rest = rest
chain_of (when r b ∷ checks) rest = cond b (Err r) (chain_of checks rest)

-- what comes before decides, or what follows does
-- Stays: docs/DESIGN-PASS.md names it.
pub chain_then : (checks : List Check) (rest : Verdict) → chain_of checks rest ≡ then_of (chain_of checks (Ok tt)) rest
chain_then [] rest = refl
chain_then (when r true ∷ checks) rest = refl
chain_then (when r false ∷ checks) rest = chain_then checks rest

-- where none applies, what follows decides
-- Stays: docs/DESIGN-PASS.md names it.
pub chain_on : (checks : List Check) (rest : Verdict) → chain_of checks (Ok tt) ≡ Ok tt → chain_of checks rest ≡ rest
chain_on checks rest e = chain_then checks rest ∙ ap (λ (v : Verdict). then_of v rest) e

-- where one applies, what follows is not looked at
-- Stays: docs/DESIGN-PASS.md names it.
pub chain_stop : (checks : List Check) (rest : Verdict) (e : Refusal) → chain_of checks (Ok tt) ≡ Err e → chain_of checks rest ≡ Err e
chain_stop checks rest e p = chain_then checks rest ∙ ap (λ (v : Verdict). then_of v rest) p
