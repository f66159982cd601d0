-- `fresh` meets its contract: the length picks the case. Assumes nothing.
use Rattle.model.specs.Words.{sizes}
use Rattle.state.proofs.FreshLaws.{left_alone, made}
use Rattle.state.proofs.WordLaws.{long}
use Rattle.std.proofs.Common.{rules}
use Rattle.state.proofs.fresh.Goals as goal

pub returns-in_default : goal.returns-in_default
unfolding sizes
returns-in_default c = left_alone _ c.in_default.ensures.cases

pub returns : goal.returns
returns c = made _ _ (long _ (search rules)) c.make_fresh.ensures.fresh
