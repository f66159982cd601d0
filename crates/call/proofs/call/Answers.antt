-- `call` meets its contract: the log is too short or too long, the state is not valid, or the step is done. Assumes nothing.
use mathlib.Core.Bool.{not}
use mathlib.Core.Path.{ap}
use Rattle.act.specs.Held.{areas}
use Rattle.model.specs.Words.{sizes}
use Rattle.valid.proofs.Shown.{are_words}
use Rattle.call.proofs.Calling.{calls-untouched, calls-not-valid, calls-bits, calls-ready, calls-steps}
use Rattle.call.proofs.call.Goals as goal

pub returns-then-log-ne-LOG_BYTES : goal.returns-then-log-ne-LOG_BYTES
returns-then-log-ne-LOG_BYTES c = calls-untouched _ _ _ c.if-log-ne-LOG_BYTES.true

pub returns-then-not-is_valid : goal.returns-then-not-is_valid
returns-then-not-is_valid c =
    calls-not-valid _ _ _ c.if-log-ne-LOG_BYTES.false
    c.is_valid.ensures c.if-not-is_valid.true
    c.not_valid.ensures

pub returns-in_default : goal.returns-in_default
unfolding sizes
returns-in_default c = absurd (c.in_default.ensures.cases (are_words _ _ _ _ c.is_valid.ensures (ap not c.if-not-is_valid.false)))

pub next_to_run-runs-requires : goal.next_to_run-runs-requires
next_to_run-runs-requires c =
    let g = c.args in
    let r = calls-bits (areas g.state.now g.store.now g.outbox.now g.log.now) g.call g.message.now
    c.if-log-ne-LOG_BYTES.false c.is_valid.ensures c.if-not-is_valid.false in
    rw c.in-Some.ensures.cases.same r.1

pub valid_step-step-requires : goal.valid_step-step-requires
valid_step-step-requires c =
    let g = c.args in
    let same = c.in-Some.ensures.cases.same in
    rw same (calls-ready (areas g.state.now g.store.now g.outbox.now g.log.now) g.call g.message.now c.if-log-ne-LOG_BYTES.false
    c.is_valid.ensures c.if-not-is_valid.false (rw same at c.next_to_run-runs.ensures))

pub returns : goal.returns
returns c =
    calls-steps _ _ _ c.if-log-ne-LOG_BYTES.false c.is_valid.ensures c.if-not-is_valid.false
    (rw c.in-Some.ensures.cases.same at c.valid_step-step.ensures)
