-- `turn_of` meets its contract, by whether all was written and then by the variant. Assumes nothing.
use Rattle.run.proofs.Turning.{turn-unwritten, turn-written}
use Rattle.run.proofs.turn.turn_of.Goals as goal

pub returns-then-not-written : goal.returns-then-not-written
returns-then-not-written c = turn-unwritten c.args.progress c.if-not-written.true

pub returns-in-Answered : goal.returns-in-Answered
returns-in-Answered c = turn-written c.if-not-written.false c.in-Answered.is

pub returns-in-Over : goal.returns-in-Over
returns-in-Over c = turn-written c.if-not-written.false c.in-Over.is

pub returns-in-NoArea : goal.returns-in-NoArea
returns-in-NoArea c = turn-written c.if-not-written.false c.in-NoArea.is
