-- `put_long_text` meets its contract, text by text. Assumes nothing.
use Rattle.assemble.proofs.Reporting.{long-text-put}
use Rattle.assemble.proofs.reason.put_long_text.Goals as goal

pub returns : goal.returns
returns c = long-text-put _ _ _ _ _ _ c.put_longer-next.ensures c.put.ensures c.requires
