-- `renew_bits` meets its contract: the word is stored. Assumes nothing.
use mathlib.Core.Path.{◌∙◌, ap}
use Rattle.model.specs.Kernel.{with_bitmap}
use Rattle.model.specs.Words.{kernel}
use Rattle.ready.proofs.renew_bits.Goals as goal

pub returns : goal.returns
returns c =
    let r = c.set_bits.ensures in
    record { length = r.length; kernel = r.kernel ∙ ap (with_bitmap (kernel c.args.state.now)) c.fresh_bits-word.ensures }
