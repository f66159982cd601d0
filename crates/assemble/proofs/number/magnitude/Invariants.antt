-- `magnitude` meets its contract, digit by digit. Assumes nothing.
use Rattle.std.proofs.Common.{◌≡◌, drop, Some}
use mathlib.Core.List.{foldl}
use Rattle.assemble.specs.Numbers.{and_digit}
use Rattle.assemble.proofs.number.magnitude.Given as goal

abbrev pub invariant-loop-c : goal.invariant-loop-c
invariant-loop-c l = foldl and_digit (Some 0) l.digits ≡ foldl and_digit (Some l.n) (drop l.c-index l.digits)
