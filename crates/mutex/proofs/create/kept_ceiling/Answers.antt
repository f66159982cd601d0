-- `kept_ceiling` meets its contract: the attribute picks the case. Assumes nothing.
use mathlib.Core.Path.{◌∙◌}
use mir.Facts.{to_z-of_z}
use borrow.Author.Tests.{eq-eqb, ne_eqb}
use Rattle.model.specs.Facts.{ceilinged}
use Rattle.mutex.proofs.create.kept_ceiling.Goals as goal

pub returns-then-attribute-eq-CEILINGED : goal.returns-then-attribute-eq-CEILINGED
returns-then-attribute-eq-CEILINGED c = c.natural.ensures ∙ rw (to_z-of_z c.ranges.ceiling, eq-eqb c.args.attribute ceilinged c.if-attribute-eq-CEILINGED.true)

pub returns-else-attribute-eq-CEILINGED : goal.returns-else-attribute-eq-CEILINGED
returns-else-attribute-eq-CEILINGED c = rw (ne_eqb c.args.attribute ceilinged c.if-attribute-eq-CEILINGED.false)
