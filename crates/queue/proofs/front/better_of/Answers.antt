-- `better_of` meets its contract: the tests pick the better one. Assumes nothing.
use Prim.Native.Nat.{ℕ}
use mathlib.Core.List.{List}
use Rattle.model.specs.Kernel.{numbered}
use Rattle.model.specs.Words.{kernel}
use Rattle.queue.proofs.Standing.{better-none, better-yes, better-no}
use Rattle.queue.proofs.front.better_of.Goals as goal

abbrev now-current : List ℕ → List ℕ
now-current w = numbered (kernel w).tasks.current

pub returns-then-best-eq0 : goal.returns-then-best-eq0
returns-then-best-eq0 c = better-none (now-current c.args.state.now) c.args.best c.args.u c.if-best-eq0.true

pub returns-then-current : goal.returns-then-current
returns-then-current c = better-yes (now-current c.args.state.now) c.args.best c.args.u c.if-best-eq0.false _ _ c.current.ensures c.current-2.ensures c.if-current.true

pub returns-else-current : goal.returns-else-current
returns-else-current c = better-no (now-current c.args.state.now) c.args.best c.args.u c.if-best-eq0.false _ _ c.current.ensures c.current-2.ensures c.if-current.false
