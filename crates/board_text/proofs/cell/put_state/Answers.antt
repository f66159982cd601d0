-- `put_state` meets its contract, arm by arm. Assumes nothing.
use borrow.Author.Rules.{rules}
use Rattle.text.proofs.Naming.{arm, last_arm}
use Rattle.board_text.specs.Cell.{states, state_name}
use Rattle.board_text.proofs.cell.put_state.Goals as goal

pub returns-in-1 : goal.returns-in-1
unfolding state_name
returns-in-1 c = arm states c.in-1.is c.put.ensures

pub returns-in-2 : goal.returns-in-2
unfolding state_name
returns-in-2 c = arm states c.in-2.is c.put-in-2.ensures

pub returns-in-4 : goal.returns-in-4
unfolding state_name
returns-in-4 c = arm states c.in-4.is c.put-in-4.ensures

pub returns-in-16 : goal.returns-in-16
unfolding state_name
returns-in-16 c = arm states c.in-16.is c.put-in-16.ensures

pub returns-in_default : goal.returns-in_default
unfolding state_name
returns-in_default c = last_arm states c.args.state _ _ (search rules)
