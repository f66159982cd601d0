-- `carried` meets its contract: the effect, the drain, and the next task to run. Assumes nothing.
use Rattle.call.proofs.Stepping.{step-bits, step-carries}
use Rattle.call.proofs.step.carried.Goals as goal

pub carry_out-answer-requires : goal.carry_out-answer-requires
carry_out-answer-requires c =
    record { allowed = record { words = c.requires.ready.words; sound = c.requires.ready.sound; unrefused = c.requires.message_value }; caller_value = c.requires.ready.runs }

pub next_to_run-runs-requires : goal.next_to_run-runs-requires
next_to_run-runs-requires c =
    let r = step-bits _ _ _ c.requires.ready c.requires.message_value c.carry_out-answer.ensures c.drain-end.ensures in
    r.1

pub returns : goal.returns
returns c =
    step-carries _ _ _ c.requires.ready c.requires.message_value c.carry_out-answer.ensures c.drain-end.ensures c.next_to_run-runs.ensures
    c.log_runs.ensures
