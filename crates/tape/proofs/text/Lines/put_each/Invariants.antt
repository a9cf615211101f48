use Rattle.std.proofs.Common.{◌≡◌, drop}
use Rattle.tape.specs.Text.{added, each_text}
use Rattle.tape.proofs.text.Lines.put_each.Given as goal

-- what is left of the writers takes the lines where all of them take them
-- Stays: the check asks for the loop's invariant and finds none.
abbrev pub invariant-loop-writer : goal.invariant-loop-writer
invariant-loop-writer l = added l.self (each_text (drop l.writer-index l.writers)) ≡ added l.initial.self (each_text l.writers)
