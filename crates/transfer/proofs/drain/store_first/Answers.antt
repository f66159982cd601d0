-- `store_first` meets its contract: the sender's message fits, as it is no longer than was asked for. Assumes nothing.
use borrow.Author.Rules.{rules}
use Rattle.transfer.proofs.Serving.{sender-fits, stores-first}
use Rattle.transfer.proofs.drain.store_first.Goals as goal

pub store_message-requires : goal.store_message-requires
store_message-requires c = (search sender-fits)

pub returns : goal.returns
returns c =
    stores-first _ _ c.requires c.argument-n.ensures
    c.outbox_message-m.ensures c.store_message.ensures c.end_wait.ensures
