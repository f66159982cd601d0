-- `bytes_from` meets its contract, piece by piece. Assumes nothing.
use Rattle.std.proofs.Common.{◌-◌, ◌≡◌, length}
use Rattle.assemble.specs.Messages.{bytes_from}
use Rattle.assemble.proofs.message.bytes_from.Given as goal

abbrev pub invariant-loop-byte : goal.invariant-loop-byte
invariant-loop-byte l = record {
  size : length l.message ≡ length l.initial.message;
  whole : bytes_from l.quoted (length l.initial.message) 0 l.initial.message l.line l.from
      ≡ bytes_from l.quoted (length l.initial.message - l.byte-index) l.byte-index l.message l.line l.at;
}
