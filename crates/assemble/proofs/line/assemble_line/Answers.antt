-- `assemble_line` meets its contract, by its first word. Assumes nothing.
use Rattle.std.proofs.Common.{arith}
use Rattle.assemble.specs.declared.reason.Reason.TheVariants.{UnknownCall}
use Rattle.assemble.proofs.Lines.{bad-line, blank-line, nothing-there, unknown-call, known-call}
use Rattle.assemble.proofs.line.assemble_line.Goals as goal

pub returns-then-is_over : goal.returns-then-is_over
returns-then-is_over c = blank-line _ _ _ _ (grind (arith, nothing-there)) (grind arith)

pub returns-in_err-kind : goal.returns-in_err-kind
returns-in_err-kind c = bad-line _ _ _ _ UnknownCall (grind (arith, unknown-call)) (grind arith)

pub returns : goal.returns
returns c = grind (arith, known-call)
