-- `drain` meets its contract. The loop's invariant: the buffers that are left do the rest. Assumes nothing.
use mathlib.Core.Path.{refl}
use borrow.Author.Rules.{rules}
use Rattle.model.specs.Sizes.{buffers}
use Rattle.act.proofs.Loop.{counted, counted-all, left-more, left-none}
use Rattle.transfer.specs.Serving.{served}
use Rattle.transfer.proofs.Serving.{left-drain}
use Rattle.transfer.proofs.Sending.{drain-nothing}
use mathlib.Core.Bool.{not}
use mathlib.Core.Path.{ap}
use Rattle.state.proofs.WordLaws.{long}
use Rattle.transfer.proofs.drain.drain.Goals as goal

pub returns-then-not-anyone_sends : goal.returns-then-not-anyone_sends
returns-then-not-anyone_sends c = drain-nothing _ _ c.anyone_sends.ensures (ap not c.if-not-anyone_sends.true)

pub loop-n-init : goal.loop-n-init
loop-n-init c = (left-drain, search rules, (long _ c.told-state), refl, refl, refl)

pub drain_numbered-next-requires : goal.drain_numbered-next-requires
drain_numbered-next-requires c = ((search rules, search rules))

pub loop-n-preserved : goal.loop-n-preserved
loop-n-preserved c =
    let l = c.loop-n in
    let left = left-more served (counted buffers l.n (search rules)) l.invariant.0 c.drain_numbered-next.ensures in
    (left, search (long, rules), search (long, rules), search (long, rules), search (long, rules), search (long, rules))

pub returns : goal.returns
returns c = let l = c.loop-n in left-none served (counted-all buffers l.n (search rules)) l.invariant.0
