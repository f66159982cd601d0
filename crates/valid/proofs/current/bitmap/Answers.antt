-- `bitmap` meets its contract: the word is compared with the one worked out. Assumes nothing.
use Rattle.valid.proofs.Currents.{bits-same}
use Rattle.state.proofs.WordLaws.{long}
use Rattle.valid.proofs.current.bitmap.Goals as goal

pub returns : goal.returns
returns c = search (long, bits-same)
