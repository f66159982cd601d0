-- `awaited` meets its contract: the place picks the kind of object. Assumes nothing.
use Rattle.valid.proofs.Objects.{awaits-mutex, awaits-block, awaits-buffer}
use Rattle.valid.proofs.wait.awaited.Goals as goal

pub returns-then-place-eq-LOCKING : goal.returns-then-place-eq-LOCKING
returns-then-place-eq-LOCKING c = search awaits-mutex

pub returns-then-place-eq-GETTING : goal.returns-then-place-eq-GETTING
returns-then-place-eq-GETTING c = search awaits-block

pub returns : goal.returns
returns c = search awaits-buffer
