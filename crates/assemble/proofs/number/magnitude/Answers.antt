-- `magnitude` meets its contract, digit by digit. Assumes nothing.
use Rattle.std.proofs.Common.{arith, length-drop, drop_of_length-le}
use Rattle.std.proofs.lemmas.Bool.Decides.{nat_tests}
use Rattle.assemble.proofs.Digits.{no-digits, digits-from, wrong-digit}
use Rattle.assemble.proofs.number.magnitude.Goals as goal

pub returns-then-is_empty : goal.returns-then-is_empty
returns-then-is_empty c = grind (arith, nat_tests, length-drop, no-digits)

pub returns-in_err-n : goal.returns-in_err-n
returns-in_err-n c = grind (arith, nat_tests, length-drop, digits-from, wrong-digit)

pub returns : goal.returns
returns c = grind (arith, nat_tests, length-drop, drop_of_length-le, digits-from)
