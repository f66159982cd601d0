-- `trimmed` meets its contract. The invariant: what lies behind the rest is zeros. Assumes nothing.
use mathlib.Core.Path.{◌∙◌}
use borrow.Author.Rules.{rules}
use Rattle.text.proofs.Trimming.{zero-goes, byte-stays, none_left}
use Rattle.text.proofs.quoted.trimmed.Goals as goal

pub loop-rest-preserved : goal.loop-rest-preserved
loop-rest-preserved c = zero-goes c.loop-rest.rest.now c.in-0.len_at_least (search rules) ∙ c.loop-rest.invariant

pub returns-in_default : goal.returns-in_default
returns-in_default c = none_left c.loop-rest.rest.now c.in_default.len_below ∙ c.loop-rest.invariant

pub returns-in_default-2 : goal.returns-in_default-2
returns-in_default-2 c = byte-stays c.loop-rest.rest.now c.in_default.len_at_least (search rules) ∙ c.loop-rest.invariant
