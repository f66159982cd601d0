-- `fields_from` meets its contract, field by field. Assumes nothing.
use Rattle.std.proofs.Common.{arith, pos}
use Rattle.std.proofs.lemmas.List.{set-get_or}
use Rattle.std.proofs.lemmas.Grind.{common_steps}
use Rattle.std.proofs.lemmas.Int.{to_z-of_z}
use Rattle.assemble.proofs.Fielding.{field-goes, field-stops}
use Rattle.assemble.proofs.field.fields_from.Goals as goal

pub returns-in_err-value : goal.returns-in_err-value
returns-in_err-value c = rw (set-get_or c.loop-value.values c.loop-value.value-index (pos 0)) (grind (arith, field-stops))

pub loop-value-preserved : goal.loop-value-preserved
loop-value-preserved c = grind (arith, common_steps, to_z-of_z, field-goes)
