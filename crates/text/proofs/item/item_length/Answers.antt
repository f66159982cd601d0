-- `item_length` meets its contract, arm by arm. Assumes nothing.
use mathlib.Core.Path.{sym, ap}
use Rattle.text.specs.Item.{Form, item_bytes}
use Rattle.text.proofs.Naming.{no-form}
use Rattle.text.proofs.item.item_length.Goals as goal

pub returns-in-128 : goal.returns-in-128
unfolding item_bytes
returns-in-128 c = rw c.in-128.is

pub returns-in-129 : goal.returns-in-129
unfolding item_bytes
returns-in-129 c = rw c.in-129.is

pub returns-in-130 : goal.returns-in-130
unfolding item_bytes
returns-in-130 c = rw c.in-130.is

pub returns-in-131 : goal.returns-in-131
unfolding item_bytes
returns-in-131 c = rw c.in-131.is

pub returns-in-132 : goal.returns-in-132
unfolding item_bytes
returns-in-132 c = rw c.in-132.is

pub returns-in-133 : goal.returns-in-133
unfolding item_bytes
returns-in-133 c = rw c.in-133.is

pub returns-in-143 : goal.returns-in-143
unfolding item_bytes
returns-in-143 c = rw c.in-143.is

pub returns-in_default : goal.returns-in_default
unfolding item_bytes
returns-in_default c = sym (ap (λ (f : Form). f.bytes) (no-form _ c.in_default.in_default-own.rest))
