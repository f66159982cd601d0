-- `put_quoted` meets its contract. The invariant: what is left is the bytes from a place on, and the quote. Assumes nothing.
use borrow.Author.Rules.{rules}
use Rattle.text.specs.Quoted.{trimmed}
use Rattle.text.proofs.Loops.{more_bytes, between-quotes}
use Rattle.text.proofs.quoted.put_quoted.Goals as goal

pub loop-b-preserved : goal.loop-b-preserved
loop-b-preserved c =
    let l = c.loop-b in
    let e = c.trimmed-b-items.ensures in
    (more_bytes (trimmed c.args.message.now) (rw e at c.loop-b-test.true) l.invariant.0 (rw e at c.put_byte-next.ensures), search rules)

pub returns : goal.returns
returns c = between-quotes c.args.message.now c.put-next.ensures (rw c.trimmed-b-items.ensures at c.loop-b-test.false) c.loop-b.invariant.0 c.put.ensures
