-- `rcv_mbf` meets its contract: the field names a buffer. Assumes nothing.
use mir.Facts.{to_z-of_z}
use Rattle.buffer.proofs.Receiving.{receive-named, receive-answerable, receives}
use Rattle.state.proofs.WordLaws.{long}
use Rattle.buffer.proofs.receive.rcv_mbf.Goals as goal

pub returns-in_default : goal.returns-in_default
returns-in_default c = absurd (receive-named _ (to_z-of_z c.ranges.buffer) c.from_field-found.ensures _ _ c.requires.timeout_value c.in_default.is)

pub receive-requires : goal.receive-requires
receive-requires c = record { caller_value = c.requires.caller_value; answerable = receive-answerable _ (to_z-of_z c.ranges.buffer) c.from_field-found.ensures c.in-Some.is c.requires.answerable }

pub returns : goal.returns
returns c = receives _ (to_z-of_z c.ranges.buffer) c.from_field-found.ensures c.in-Some.is _ (to_z-of_z c.ranges.timeout) c.receive.ensures
