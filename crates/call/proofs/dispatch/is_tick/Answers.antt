-- `is_tick` meets its contract: the other variants have other tags. Assumes nothing.
use mathlib.Core.Path.{sym, ap}
use Rattle.model.specs.Record.{kind_of}
use Rattle.call.specs.Steps.{is_tick}
use Rattle.call.proofs.Dispatching.{not-a-tick}
use Rattle.call.proofs.dispatch.is_tick.Goals as goal

pub returns-in-Tick : goal.returns-in-Tick
unfolding kind_of
returns-in-Tick c = sym (ap is_tick c.in-Tick.is)

pub returns-in_default : goal.returns-in_default
returns-in_default c = not-a-tick _ c.in_default.not-Tick
