-- `put_unknown` meets its contract. Assumes nothing.
use Rattle.script.proofs.Appending.{wrote, wrote-more}
use Rattle.text.specs.Place.{unknown_text}
use Rattle.text.proofs.place.put_unknown.Goals as goal

pub returns : goal.returns
unfolding unknown_text
returns c = search (wrote-more, wrote)
