-- `make_fresh` meets its contract: six stores in zeros make the words of the fresh kernel, which antt computes. Assumes nothing.
use Rattle.model.specs.Kernel.{fresh}
use Rattle.model.specs.Words.{sizes, words, fields}
use Rattle.state.proofs.FreshLaws.{made}
use Rattle.state.proofs.WordLaws.{long}
use Rattle.std.proofs.Common.{rules}
use Rattle.state.proofs.make_fresh.Goals as goal

pub returns-clause-fresh : goal.returns-clause-fresh
unfolding sizes words fields fresh
returns-clause-fresh c = rw (c.put-6.ensures, c.put-5.ensures, c.put-4.ensures, c.put-3.ensures, c.put-2.ensures, c.put.ensures)

pub returns-clause-filled : goal.returns-clause-filled
returns-clause-filled c = made _ _ (long _ (search rules)) (returns-clause-fresh c)
