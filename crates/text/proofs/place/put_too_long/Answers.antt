-- `put_too_long` meets its contract. Assumes nothing.
use Rattle.script.proofs.Appending.{wrote, wrote-more}
use Rattle.text.specs.Place.{too_long_text}
use Rattle.text.proofs.place.put_too_long.Goals as goal

pub returns : goal.returns
unfolding too_long_text
returns c = search (wrote-more, wrote)
