-- `run_record` meets its contract: the lengths, the place and what is read there pick the case. Assumes nothing.
use Rattle.run.proofs.Running.{runs-no-area, runs-too-long, runs-end, runs-stop, runs-record}
use Rattle.run.proofs.run_record.Goals as goal

pub returns-then-log-ne-LOG_BYTES : goal.returns-then-log-ne-LOG_BYTES
returns-then-log-ne-LOG_BYTES c = runs-no-area _ _ _ c.if-log-ne-LOG_BYTES.true

pub returns-then-script-gt-SCRIPT_BYTES : goal.returns-then-script-gt-SCRIPT_BYTES
returns-then-script-gt-SCRIPT_BYTES c =
    rw c.over.ensures (runs-too-long _ _ _ c.if-log-ne-LOG_BYTES.false
    c.if-script-gt-SCRIPT_BYTES.true c.log_too_long.ensures)

pub returns-then-script-at : goal.returns-then-script-at
returns-then-script-at c = rw c.over-then-script-at.ensures (runs-end _ _ _ c.if-log-ne-LOG_BYTES.false c.if-script-gt-SCRIPT_BYTES.false c.if-script-at.true)

pub returns-in_default : goal.returns-in_default
returns-in_default c =
    rw c.over-in_default.ensures (runs-stop _ _ _ c.if-log-ne-LOG_BYTES.false
    c.if-script-gt-SCRIPT_BYTES.false
    c.if-script-at.false
    c.read_record.ensures c.in_default.is
    c.log_stop.ensures)

pub returns : goal.returns
returns c =
    runs-record _ _ _
    c.if-log-ne-LOG_BYTES.false
    c.if-script-gt-SCRIPT_BYTES.false
    c.if-script-at.false
    c.read_record.ensures
    c.in-Ok.is (rw
    c.message.ensures at
    c.call-called.ensures)
