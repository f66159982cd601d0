-- `put_object` meets its contract, arm by arm. Assumes nothing.
use borrow.Author.Rules.{rules}
use Rattle.text.proofs.Naming.{arm, last_arm}
use Rattle.board_text.specs.Cell.{objects, object_name}
use Rattle.board_text.proofs.cell.put_object.Goals as goal

pub returns-in-16 : goal.returns-in-16
unfolding object_name
returns-in-16 c = arm objects c.in-16.is c.put.ensures

pub returns-in-32 : goal.returns-in-32
unfolding object_name
returns-in-32 c = arm objects c.in-32.is c.put-in-32.ensures

pub returns-in-48 : goal.returns-in-48
unfolding object_name
returns-in-48 c = arm objects c.in-48.is c.put-in-48.ensures

pub returns-in_default : goal.returns-in_default
unfolding object_name
returns-in_default c = last_arm objects c.args.kind _ _ (search rules)
