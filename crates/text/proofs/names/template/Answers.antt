-- `template` meets its contract, arm by arm. Assumes nothing.
use Rattle.text.specs.Names.{templates, template}
use Rattle.text.proofs.Naming.{no-name}
use Rattle.text.proofs.names.template.Goals as goal

pub returns-in-1 : goal.returns-in-1
unfolding template
returns-in-1 c = rw c.in-1.is

pub returns-in-2 : goal.returns-in-2
unfolding template
returns-in-2 c = rw c.in-2.is

pub returns-in-3 : goal.returns-in-3
unfolding template
returns-in-3 c = rw c.in-3.is

pub returns-in-4 : goal.returns-in-4
unfolding template
returns-in-4 c = rw c.in-4.is

pub returns-in-5 : goal.returns-in-5
unfolding template
returns-in-5 c = rw c.in-5.is

pub returns-in-6 : goal.returns-in-6
unfolding template
returns-in-6 c = rw c.in-6.is

pub returns-in-16 : goal.returns-in-16
unfolding template
returns-in-16 c = rw c.in-16.is

pub returns-in-17 : goal.returns-in-17
unfolding template
returns-in-17 c = rw c.in-17.is

pub returns-in-18 : goal.returns-in-18
unfolding template
returns-in-18 c = rw c.in-18.is

pub returns-in-19 : goal.returns-in-19
unfolding template
returns-in-19 c = rw c.in-19.is

pub returns-in-32 : goal.returns-in-32
unfolding template
returns-in-32 c = rw c.in-32.is

pub returns-in-33 : goal.returns-in-33
unfolding template
returns-in-33 c = rw c.in-33.is

pub returns-in-34 : goal.returns-in-34
unfolding template
returns-in-34 c = rw c.in-34.is

pub returns-in-35 : goal.returns-in-35
unfolding template
returns-in-35 c = rw c.in-35.is

pub returns-in-48 : goal.returns-in-48
unfolding template
returns-in-48 c = rw c.in-48.is

pub returns-in-49 : goal.returns-in-49
unfolding template
returns-in-49 c = rw c.in-49.is

pub returns-in-50 : goal.returns-in-50
unfolding template
returns-in-50 c = rw c.in-50.is

pub returns-in-51 : goal.returns-in-51
unfolding template
returns-in-51 c = rw c.in-51.is

pub returns-in-64 : goal.returns-in-64
unfolding template
returns-in-64 c = rw c.in-64.is

pub returns-in_default : goal.returns-in_default
unfolding template
returns-in_default c = no-name templates _ c.in_default.in_default-own.rest
