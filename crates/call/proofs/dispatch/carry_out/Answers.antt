-- `carry_out` meets its contract: where nobody runs, an allowed call is a tick. Assumes nothing.
use Rattle.model.specs.Effect.{perform}
use Rattle.call.proofs.Dispatching.{made-carries, nobody-ticks, caller_runs, carries-for}
use Rattle.call.proofs.dispatch.carry_out.Goals as goal

pub returns-in_default : goal.returns-in_default
unfolding perform
returns-in_default c =
    made-carries (nobody-ticks _ _ _ c.requires.caller_value c.in_default.is c.requires.allowed.unrefused) _
    ((c.tick.ensures _).carries _)

pub perform_made-requires : goal.perform_made-requires
perform_made-requires c =
    let r = caller_runs _ c.requires.caller_value c.in-Some.is in
    record { allowed = c.requires.allowed; caller_value = r.0; le_caller = r.1 }

pub returns : goal.returns
returns c =
    carries-for (caller_runs _ c.requires.caller_value c.in-Some.is).0
    c.perform_made.ensures
