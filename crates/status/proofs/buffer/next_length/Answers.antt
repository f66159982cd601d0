-- `next_length` meets its contract: the length of what lies at the location, case by case. Assumes nothing.
use mathlib.Core.Path.{refl}
use mathlib.Core.List.{[]}
use Rattle.message.specs.NextMessage.{message_at}
use Rattle.message.specs.declared.next.Location.TheVariants.{Stored, Sent, Nowhere}
use Rattle.status.proofs.Messages.{length-fits, length-there}
use Rattle.status.proofs.buffer.next_length.Goals as goal

pub overflow_cast-result : goal.overflow_cast-result
unfolding message_at
overflow_cast-result c = length-fits (Stored _) _ [] c.store_oldest.ensures

pub overflow_cast-result-in-Sent : goal.overflow_cast-result-in-Sent
unfolding message_at
overflow_cast-result-in-Sent c = length-fits (Sent _ _) [] _ c.outbox_message.ensures

pub returns-in-Stored : goal.returns-in-Stored
unfolding message_at
returns-in-Stored c = length-there (Stored _) _ _ c.store_oldest.ensures _ _ c.located-at.ensures c.in-Stored.is

pub returns-in-Sent : goal.returns-in-Sent
unfolding message_at
returns-in-Sent c = length-there (Sent _ _) _ _ c.outbox_message.ensures _ _ c.located-at.ensures c.in-Sent.is

pub returns-in-Nowhere : goal.returns-in-Nowhere
unfolding message_at
returns-in-Nowhere c = length-there Nowhere _ _ {m = []} refl _ _ c.located-at.ensures c.in-Nowhere.is
