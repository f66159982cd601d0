-- `refuse` meets its contract: where nobody runs, only a tick is allowed. Assumes nothing.
use mathlib.Core.Path.{◌∙◌, sym}
use Rattle.call.proofs.Dispatching.{nobody-refused, nobody-free, caller_runs}
use Rattle.state.proofs.WordLaws.{long}
use Rattle.call.proofs.dispatch.refuse.Goals as goal

pub returns-then-is_tick : goal.returns-then-is_tick
returns-then-is_tick c =
    nobody-free _ _ _ c.requires c.in_default.is (sym
    c.is_tick.ensures ∙ c.if-is_tick.true)

pub returns-in_default : goal.returns-in_default
returns-in_default c =
    nobody-refused _ _ _ c.requires c.in_default.is (sym
    c.is_tick.ensures ∙ c.if-is_tick.false)

pub refuse_made-requires : goal.refuse_made-requires
refuse_made-requires c =
    let r = caller_runs _ c.requires c.in-Some.is in
    record { caller_value = r.0; le_caller = r.1 }

pub returns : goal.returns
returns c = c.refuse_made.ensures
