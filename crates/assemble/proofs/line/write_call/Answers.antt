-- `write_call` meets its contract, by what became of the record. Assumes nothing.
use Rattle.std.proofs.Common.{arith}
use Rattle.assemble.proofs.Lines.{extended}
use Rattle.assemble.proofs.line.write_call.Goals as goal

pub returns-in_err-write_record : goal.returns-in_err-write_record
returns-in_err-write_record c = let e = extended _ _ _ _ _ _ c.write_record.ensures c.requires in grind arith

pub returns : goal.returns
returns c = let e = extended _ _ _ _ _ _ c.write_record.ensures c.requires in grind arith
