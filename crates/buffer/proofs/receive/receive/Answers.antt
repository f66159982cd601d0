-- `receive` meets its contract, case by case. Assumes nothing.
use mir.Facts.{to_z-of_z}
use Rattle.buffer.proofs.Receiving.{receives-stored, receives-nothing, receives-sent}
use Rattle.buffer.proofs.receive.receive.Goals as goal

pub returns-then-used-ne0 : goal.returns-then-used-ne0
returns-then-used-ne0 c = receives-stored _ _ _ c.used.ensures c.if-used-ne0.true c.receive_stored.ensures

pub returns-in_default : goal.returns-in_default
returns-in_default c =
    receives-nothing _ _ _ c.used.ensures c.if-used-ne0.false c.word.ensures c.front-found.ensures c.in_default.is
    c.requires.caller_value (to_z-of_z c.ranges.timeout) c.wait_to_receive.ensures

pub returns : goal.returns
returns c =
    receives-sent _ _ _ c.used.ensures c.if-used-ne0.false c.word.ensures c.front-found.ensures c.in-Some.is
    c.receive_sent.ensures
