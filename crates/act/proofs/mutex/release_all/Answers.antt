-- `release_all` meets its contract: what is left are the mutexes from the next one on. Assumes nothing.
use native.Mathlib.Omega.{arith}
use mathlib.Core.Path.{◌∙◌, sym}
use borrow.Author.Rules.{rules}
use Rattle.model.specs.Sizes.{mutexes}
use Rattle.act.proofs.Releasing.{releasing}
use Rattle.act.proofs.Loop.{counted, counted-all, in-log-more, in-log-none}
use Rattle.state.proofs.WordLaws.{long}
use Rattle.act.proofs.mutex.release_all.Goals as goal

pub loop-n-init : goal.loop-n-init
loop-n-init c = (releasing _ (long _ c.told-state), omega arith)

pub release_held-next-requires : goal.release_held-next-requires
release_held-next-requires c = let i = c.loop-n.invariant in ((search rules, search rules))

pub loop-n-preserved : goal.loop-n-preserved
loop-n-preserved c =
    let i = c.loop-n.invariant in
    let k = c.release_held-next.auto in (
      in-log-more _ (counted mutexes c.loop-n.n
          c.loop-n-test.true) i.0 (long _ c.release_held-next.array_long ∙ sym i.0.words) k.outbox k.log
          c.release_held-next.ensures,
      search rules,
    )

pub returns : goal.returns
returns c = in-log-none _ (counted-all mutexes c.loop-n.n (search rules)) c.loop-n.invariant.0
