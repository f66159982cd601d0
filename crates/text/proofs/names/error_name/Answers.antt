-- `error_name` meets its contract, arm by arm. Assumes nothing.
use Rattle.text.specs.Names.{errors, error_name}
use Rattle.text.proofs.Naming.{no-name}
use Rattle.text.proofs.names.error_name.Goals as goal

pub returns-in-5 : goal.returns-in-5
unfolding error_name
returns-in-5 c = rw c.in-5.is

pub returns-in-11 : goal.returns-in-11
unfolding error_name
returns-in-11 c = rw c.in-11.is

pub returns-in-17 : goal.returns-in-17
unfolding error_name
returns-in-17 c = rw c.in-17.is

pub returns-in-18 : goal.returns-in-18
unfolding error_name
returns-in-18 c = rw c.in-18.is

pub returns-in-25 : goal.returns-in-25
unfolding error_name
returns-in-25 c = rw c.in-25.is

pub returns-in-28 : goal.returns-in-28
unfolding error_name
returns-in-28 c = rw c.in-28.is

pub returns-in-33 : goal.returns-in-33
unfolding error_name
returns-in-33 c = rw c.in-33.is

pub returns-in-34 : goal.returns-in-34
unfolding error_name
returns-in-34 c = rw c.in-34.is

pub returns-in-41 : goal.returns-in-41
unfolding error_name
returns-in-41 c = rw c.in-41.is

pub returns-in-42 : goal.returns-in-42
unfolding error_name
returns-in-42 c = rw c.in-42.is

pub returns-in-50 : goal.returns-in-50
unfolding error_name
returns-in-50 c = rw c.in-50.is

pub returns-in-51 : goal.returns-in-51
unfolding error_name
returns-in-51 c = rw c.in-51.is

pub returns-in_default : goal.returns-in_default
unfolding error_name
returns-in_default c = no-name errors _ c.in_default.in_default-own.rest
