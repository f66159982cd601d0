-- `tick_all` meets its contract: what is left are the tasks from the next one on. Assumes nothing.
use native.Mathlib.Omega.{arith}
use mathlib.Core.Path.{◌∙◌, sym}
use borrow.Author.Rules.{rules}
use Rattle.model.specs.Sizes.{tasks}
use Rattle.time.proofs.Ticking.{ticking}
use Rattle.act.proofs.Loop.{counted, counted-all, in-log-more, in-log-none}
use Rattle.state.proofs.WordLaws.{long}
use Rattle.time.proofs.tick_all.Goals as goal

pub loop-n-init : goal.loop-n-init
loop-n-init c = (ticking (long _ c.told-state), omega arith)

pub tick_numbered-next-requires : goal.tick_numbered-next-requires
tick_numbered-next-requires c = let i = c.loop-n.invariant in ((search rules, search rules))

pub loop-n-preserved : goal.loop-n-preserved
loop-n-preserved c =
    let i = c.loop-n.invariant in
    let k = c.tick_numbered-next.auto in (
      in-log-more _ (counted tasks c.loop-n.n (search rules)) i.0
          (long _ c.tick_numbered-next.array_long ∙ sym i.0.words) k.outbox k.log c.tick_numbered-next.ensures,
      search rules,
    )

pub returns : goal.returns
returns c = in-log-none _ (counted-all tasks c.loop-n.n (search rules)) c.loop-n.invariant.0
