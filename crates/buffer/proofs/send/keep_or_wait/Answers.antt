-- `keep_or_wait` meets its contract, case by case: what is storable fits. Assumes nothing.
use mathlib.Core.Path.{◌∙◌, sym}
use mir.Facts.{to_z-of_z}
use Rattle.buffer.proofs.Sending.{storable-fits, sends-kept, sends-waiting}
use Rattle.state.proofs.WordLaws.{long}
use Rattle.buffer.proofs.send.keep_or_wait.Goals as goal

pub keep-requires : goal.keep-requires
keep-requires c = (storable-fits _ _ _ (sym c.storable.ensures ∙ c.if-storable.true))

pub returns-then-storable : goal.returns-then-storable
returns-then-storable c = sends-kept _ _ _ _ c.requires.b_value c.storable.ensures c.if-storable.true c.keep.ensures

pub returns : goal.returns
returns c =
    sends-waiting _ _ _ _ c.requires.b_value c.storable.ensures c.if-storable.false c.requires.caller_value (to_z-of_z c.ranges.timeout)
    c.wait_to_send.ensures
