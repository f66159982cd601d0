-- `pools_zero` meets its contract: entry 0 of each list is read. Assumes nothing.
use native.Mathlib.Omega.{arith}
use mathlib.Core.Path.{◌∙◌}
use Rattle.model.specs.Sizes.{pools}
use Rattle.model.specs.Valid.{pool_lists}
use Rattle.model.specs.Words.{kernel, sizes, fields, from_fields}
use Rattle.state.proofs.WordLaws.{sized, size_of}
use Rattle.model.specs.Field as field
use Rattle.state.proofs.Zero.{told, entry_zero}
use Rattle.state.proofs.none.pools_zero.Goals as goal

pub zero-requires : goal.zero-requires
unfolding sizes
zero-requires c = omega arith

pub zero-requires-2 : goal.zero-requires-2
unfolding sizes
zero-requires-2 c = omega arith

pub zero-requires-3 : goal.zero-requires-3
unfolding sizes
zero-requires-3 c = omega arith

pub zero-requires-4 : goal.zero-requires-4
unfolding sizes
zero-requires-4 c = omega arith

pub returns : goal.returns
unfolding kernel sizes fields from_fields
returns c =
    let w = c.args.state.now in
    let long = size_of (kernel w) (sized w c.told-state) in
    rw (c.zero-4.ensures ∙ entry_zero w field.size, c.zero-3.ensures ∙ entry_zero w field.count, c.zero-2.ensures ∙ entry_zero w field.pool_attribute, c.zero.ensures ∙ entry_zero w field.pool_exists) (told pools (pool_lists (kernel w)) (long field.pool_exists, (long field.pool_attribute, (long field.count, (long field.size, tt)))))
