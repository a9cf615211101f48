use Rattle.std.proofs.Common.{◌≡◌, length, take}
use Rattle.tape.specs.Text.{written, ended}
use Rattle.tape.proofs.text.put_at.Given as goal

-- the bytes so far stand there, and the place is behind them
-- Stays: the check asks for the loop's invariant and finds none.
abbrev pub invariant-loop-byte : goal.invariant-loop-byte
invariant-loop-byte l = record {
  put : l.bytes ≡ written l.initial.bytes l.at (take l.byte-index l.text);
  place : l.end ≡ ended (length l.initial.bytes) l.at (length (take l.byte-index l.text));
}
