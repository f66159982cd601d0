-- `region_layout` meets its contract. The loop's invariant: the messages that are left decide. Assumes nothing.
use Rattle.model.specs.Sizes.{region_bytes}
use Rattle.model.specs.Valid.{layout}
use Rattle.areas.proofs.Messages.{Rest}
use Rattle.areas.proofs.layout.region_layout.Given as goal

abbrev pub invariant-loop : goal.invariant-loop
invariant-loop l = Rest (layout region_bytes l.maxmsz l.used l.r) region_bytes l.maxmsz l.rest l.left l.counter
