-- `located` meets its contract: a stored message, else the first sender's, else none. Assumes nothing.
use Rattle.valid.proofs.Shown.{is-stored, nobody-sends, is-sent}
use Rattle.valid.proofs.next.located.Goals as goal

pub returns-then-used-ne0 : goal.returns-then-used-ne0
returns-then-used-ne0 c = search is-stored

pub returns-in_default : goal.returns-in_default
returns-in_default c = search nobody-sends

pub returns : goal.returns
returns c = search is-sent
