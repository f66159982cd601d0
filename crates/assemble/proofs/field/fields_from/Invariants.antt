-- `fields_from` meets its contract, field by field. Assumes nothing.
use Rattle.std.proofs.Common.{◌-◌, ◌≡◌, length}
use Rattle.assemble.specs.Fields.{fields_from}
use Rattle.assemble.proofs.field.fields_from.Given as goal

abbrev pub invariant-loop-value : goal.invariant-loop-value
invariant-loop-value l = record {
  size : length l.values ≡ length l.initial.values;
  whole : fields_from (length l.initial.values) 0 l.initial.values l.names l.from l.line l.start
      ≡ fields_from (length l.initial.values - l.value-index) l.value-index l.values l.names l.t l.line l.at;
}
