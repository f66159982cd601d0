-- `renew_bit` meets its contract: the word with that bit is stored. Assumes nothing.
use Rattle.ready.proofs.ReadyLaws.{bit-renewed}
use Rattle.ready.proofs.renew_bit.Goals as goal

pub returns : goal.returns
returns c =
    bit-renewed _ _ c.current-p.ensures c.any_ready_from-on.ensures c.bits-word.ensures
    c.with_priority.ensures c.set_bits.ensures
