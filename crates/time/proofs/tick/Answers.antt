-- `tick` meets its contract. Assumes nothing.
use Rattle.time.proofs.Ticking.{ticks-all}
use Rattle.state.proofs.WordLaws.{long}
use Rattle.time.proofs.tick.Goals as goal

pub returns : goal.returns
returns c =
    λ caller. ticks-all caller
    (long _ c.told-state)
    c.log_answer-waits.ensures
    c.tick_all.ensures
