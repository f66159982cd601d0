-- `set_to_base` meets its contract: a number in range names its task. Assumes nothing.
use borrow.Author.Rules.{rules}
use mathlib.Core.Path.{◌∙◌, sym}
use Rattle.model.specs.Sizes.{tasks}
use Rattle.model.proofs.NumberLaws.{Names, task-there, task-none}
use Rattle.model.specs.Words.{kernel}
use Rattle.priority.proofs.OwnLaws.{inside, base-is}
use Rattle.priority.proofs.set_to_base.Goals as goal

pub returns-in_default : goal.returns-in_default
returns-in_default c = inside (search rules) (search rules) (task-none _ (sym c.from_word.ensures ∙ c.in_default.is))

pub returns : goal.returns
returns c =
    let is-task : Names tasks c.args.n c.in-Some.t.0 = task-there _ _ (sym c.from_word.ensures ∙ c.in-Some.is) in
    rw (c.base-p.ensures, (is-task).0, base-is (kernel c.args.state.now) _ (is-task).1) at c.set_current.ensures
