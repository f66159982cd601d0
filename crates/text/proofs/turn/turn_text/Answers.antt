-- `turn_text` meets its contract: all of it fits. Assumes nothing.
use Rattle.text.proofs.Logs.{turn_is}
use Rattle.text.proofs.turn.turn_text.Goals as goal

pub returns : goal.returns
returns c = turn_is _ _ _ _ c.requires.text_len c.requires.log_len_bound c.put_place_line-next.ensures c.put_outcome.ensures
