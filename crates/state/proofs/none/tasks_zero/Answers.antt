-- `tasks_zero` meets its contract: entry 0 of each list is read. Assumes nothing.
use native.Mathlib.Omega.{arith}
use mathlib.Core.Path.{◌∙◌}
use Rattle.model.specs.Sizes.{tasks}
use Rattle.model.specs.Valid.{task_lists}
use Rattle.model.specs.Words.{kernel, sizes, fields, from_fields}
use Rattle.state.proofs.WordLaws.{sized, size_of}
use Rattle.model.specs.Field as field
use Rattle.state.proofs.Zero.{told, entry_zero}
use Rattle.state.proofs.none.tasks_zero.Goals as goal

pub zero-requires : goal.zero-requires
unfolding sizes
zero-requires c = omega arith

pub zero-requires-2 : goal.zero-requires-2
unfolding sizes
zero-requires-2 c = omega arith

pub zero-requires-3 : goal.zero-requires-3
unfolding sizes
zero-requires-3 c = omega arith

pub zero-requires-4 : goal.zero-requires-4
unfolding sizes
zero-requires-4 c = omega arith

pub zero-requires-5 : goal.zero-requires-5
unfolding sizes
zero-requires-5 c = omega arith

pub zero-requires-6 : goal.zero-requires-6
unfolding sizes
zero-requires-6 c = omega arith

pub zero-requires-7 : goal.zero-requires-7
unfolding sizes
zero-requires-7 c = omega arith

pub returns : goal.returns
unfolding kernel sizes fields from_fields
returns c =
    let w = c.args.state.now in
    let long = size_of (kernel w) (sized w c.told-state) in
    rw (c.zero-7.ensures ∙ entry_zero w field.left, c.zero-6.ensures ∙ entry_zero w field.current, c.zero-5.ensures ∙ entry_zero w field.base, c.zero-4.ensures ∙ entry_zero w field.initial, c.zero-3.ensures ∙ entry_zero w field.argument, c.zero-2.ensures ∙ entry_zero w field.object, c.zero.ensures ∙ entry_zero w field.place) (told tasks (task_lists (kernel w)) (long field.place, (long field.object, (long field.argument, (long field.initial, (long field.base, (long field.current, (long field.left, tt))))))))
