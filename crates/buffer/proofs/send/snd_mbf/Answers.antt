-- `snd_mbf` meets its contract: the first bytes of what is handed over are the same with zeros behind it. Assumes nothing.
use native.Mathlib.Omega.{arith}
use mathlib.Core.Path.{◌∙◌, ap}
use lib.ListN.{take}
use mir.Facts.{to_z-of_z}
use Rattle.buffer.proofs.Sending.{send-named, counts-part, counts-short, counts-handed, counts, filled-handed, filled-part, sends}
use Rattle.state.proofs.WordLaws.{long}
use Rattle.buffer.proofs.send.snd_mbf.Goals as goal

pub returns-in_default : goal.returns-in_default
returns-in_default c = absurd (send-named _ (to_z-of_z c.ranges.buffer) c.from_field-found.ensures _ _ _ _ c.requires.message_value c.in_default.is)

pub slice_bounds-m-end : goal.slice_bounds-m-end
slice_bounds-m-end c = counts-part _ _ c.if-n-message.true

pub send-requires : goal.send-requires
send-requires c = record { caller_value = c.requires.caller_value; m_len_bound = counts-short c.min-n.result _ (omega (arith, c.min-n.ensures)) }

pub returns-then-n-message : goal.returns-then-n-message
returns-then-n-message c =
    sends _ (to_z-of_z c.ranges.buffer) c.from_field-found.ensures c.in-Some.is _ _
    (counts-handed c.min-n.result _ c.if-n-message.true (omega (arith, c.min-n.ensures))
    ∙ counts _ _ (to_z-of_z c.ranges.msgsz) c.natural.ensures c.min-n.ensures)
    (to_z-of_z c.ranges.timeout) c.send.ensures

pub slice_bounds-m-end-2 : goal.slice_bounds-m-end-2
slice_bounds-m-end-2 c =
    filled-part _ c.if-n-message.false (omega (arith, c.min-n.ensures))
    c.put.ensures

pub send-requires-2 : goal.send-requires-2
send-requires-2 c = record { caller_value = c.requires.caller_value; m_len_bound = counts-short c.min-n.result _ (omega (arith, c.min-n.ensures)) }

pub returns : goal.returns
returns c =
    sends _ (to_z-of_z c.ranges.buffer) c.from_field-found.ensures c.in-Some.is _ _
    (ap (take c.min-n.result) (filled-handed _ c.if-n-message.false (omega (arith, c.min-n.ensures)) c.put.ensures)
    ∙ counts _ _ (to_z-of_z c.ranges.msgsz) c.natural.ensures c.min-n.ensures)
    (to_z-of_z c.ranges.timeout) c.send-2.ensures
