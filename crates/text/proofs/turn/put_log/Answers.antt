-- `put_log` meets its contract. The invariant: what is left is the rest of the log. Assumes nothing.
use borrow.Author.Rules.{rules}
use Rattle.text.proofs.Logs.{more-items, fewer, no-more-items}
use Rattle.text.proofs.turn.put_log.Goals as goal

pub loop-rest-smaller : goal.loop-rest-smaller
loop-rest-smaller c = fewer c.loop-rest.rest.now c.in-len1-up.len_at_least c.item_length.ensures c.min-length.ensures

pub loop-rest-preserved : goal.loop-rest-preserved
loop-rest-preserved c =
    let l = c.loop-rest in
    (more-items l.rest.now c.in-len1-up.len_at_least c.item_length.ensures c.min-length.ensures l.invariant.0 c.put_item_line-next.ensures, search rules)

pub returns : goal.returns
returns c = no-more-items c.loop-rest.rest.now c.in_default.len_below c.loop-rest.invariant.0
