-- `drain_buffer` meets its contract. The loop's invariant: the turns that are left do the rest. Assumes nothing.
use Prim.Native.Nat.{◌-◌}
use mathlib.Core.Path.{refl}
use borrow.Author.Rules.{rules}
use Rattle.model.specs.Sizes.{tasks}
use Rattle.search.proofs.Senders.{first-none}
use Rattle.act.proofs.Loop.{left-all}
use Rattle.transfer.proofs.Serving.{first-sender, serve-next, serve-none, serve-end}
use Rattle.state.proofs.WordLaws.{long}
use Rattle.transfer.proofs.drain.drain_buffer.Goals as goal

pub loop-init : goal.loop-init
loop-init c = (left-all, search rules, (long _ c.told-state), refl, refl, refl)

pub returns-in_default : goal.returns-in_default
returns-in_default c = let l = c.loop in serve-none _ (tasks - l.counter) l.invariant.0 (search first-none)

pub store_first-next-requires : goal.store_first-next-requires
store_first-next-requires c = (search first-sender)

pub loop-preserved : goal.loop-preserved
loop-preserved c =
    let l = c.loop in
    let sender = first-sender _ _ c.first_fitting-found.ensures c.in-Some.is in
    let left = serve-next _ l.counter (search rules) l.invariant.0 sender.fits c.store_first-next.ensures in
    (left, search (long, rules), search (long, rules), search (long, rules), search (long, rules), search (long, rules))

pub returns : goal.returns
returns c = let l = c.loop in serve-end _ (tasks - l.counter) (search rules) l.invariant.0
