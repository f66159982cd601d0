-- `free_all` meets its contract: what is left are the blocks from the next one on. Assumes nothing.
use native.Mathlib.Omega.{arith}
use borrow.Author.Rules.{rules}
use Rattle.pool.proofs.Deleting.{frees_all, frees-more, frees-done}
use Rattle.state.proofs.WordLaws.{long}
use Rattle.pool.proofs.delete.free_all.Goals as goal

pub loop-n-init : goal.loop-n-init
loop-n-init c = (search (long, frees_all), omega arith)

pub loop-n-preserved : goal.loop-n-preserved
loop-n-preserved c = (search (frees-more), search rules)

pub returns : goal.returns
returns c = search (frees-done, rules)
