-- A module used alone: what a call on it leaves and answers. Definitions only.
use Rattle.std.specs.Prelude.{ℕ, Result, Ok, Err}
use Rattle.config.specs.Ledger.{opened, resumed}
use Rattle.config.specs.declared.alone.Alone.{Alone}
use Rattle.config.specs.declared.alone.Left.{Left}
use Rattle.config.specs.declared.ledger.Ledger.{Ledger}
use Rattle.config.specs.declared.refusal.Refusal.{Refusal}

abbrev pub alone_of : {M : Type 0} → Ledger → M → Alone M
alone_of l m = record { ledger = l; inner = m }

abbrev pub begun : {M : Type 0} → ℕ → M → Alone M
begun time m = alone_of (opened time) m

abbrev pub resumed_alone : {M : Type 0} → Alone M → ℕ → Alone M
resumed_alone a calls = alone_of (resumed a.ledger calls) a.inner

-- "The result is then zero and state and buffers are unchanged": no result, and all as it was
abbrev pub turned_down : {M T : Type 0} → Alone M → Refusal → Left (Alone M) T
turned_down a e = record { state = a; answer = Err e }

-- accepted: the state that the step left, under the ledger that counts the call, and what the step gave
abbrev pub taken : {M T : Type 0} → Ledger → M × T → Left (Alone M) T
taken l r = record { state = alone_of l r.0; answer = Ok r.1 }

-- what a call leaves and answers, from the verdict on it, the ledger after it and its step
abbrev pub answered : {M T : Type 0} → Alone M → Result Unit Refusal → Ledger → M × T → Left (Alone M) T
answered a (Err e) l r = turned_down a e
answered a (Ok u) l r = taken l r

-- what a making gives: the module with no call yet, or the reason
abbrev pub made_or : {M : Type 0} → Result Unit Refusal → ℕ → M → Result (Alone M) Refusal
made_or (Err e) time m = Err e
made_or (Ok u) time m = Ok (begun time m)
