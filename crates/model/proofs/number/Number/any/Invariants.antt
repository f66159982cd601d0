-- The numbers that are left decide.
use Rattle.std.proofs.Common.{◌≡◌, ◌+◌}
use Rattle.model.specs.Lists.{any, up_to}
use Rattle.model.proofs.Rest.{numbers}
use Rattle.model.proofs.number.Number.any.Given as goal

abbrev pub invariant-loop-n : goal.invariant-loop-n
invariant-loop-n g l = any g.p (up_to g.K.Object.LAST) ≡ any g.p (numbers g.K.Object.LAST (l.n + 1))
