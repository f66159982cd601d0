-- `refuse_cre_mbf` meets its contract: each test is a condition of the table, in its order. Assumes nothing.
use mir.Facts.{to_z-of_z}
use Rattle.buffer.proofs.Creating.{create-attribute, create-below, create-size, create-full, create-beyond, create-allowed}
use Rattle.buffer.proofs.create.refuse_cre_mbf.Goals as goal

pub returns-then-attribute-allowed : goal.returns-then-attribute-allowed
returns-then-attribute-allowed c = search (create-attribute, to_z-of_z)

pub returns-then-bufsz-lt0 : goal.returns-then-bufsz-lt0
returns-then-bufsz-lt0 c = search (create-below, to_z-of_z)

pub returns-then-outside : goal.returns-then-outside
returns-then-outside c = search (create-size, to_z-of_z)

pub returns-in_default : goal.returns-in_default
returns-in_default c = search (create-full, to_z-of_z)

pub returns-then-bufsz-gt-LARGEST_SIZE : goal.returns-then-bufsz-gt-LARGEST_SIZE
returns-then-bufsz-gt-LARGEST_SIZE c = search (create-beyond, to_z-of_z)

pub returns : goal.returns
returns c = search (create-allowed, to_z-of_z)
