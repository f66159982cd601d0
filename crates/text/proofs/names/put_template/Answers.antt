-- `put_template` meets its contract: no template has more bytes. Assumes nothing.
use Rattle.text.proofs.Fitting.{template-short}
use Rattle.text.proofs.names.put_template.Goals as goal

pub returns-clause-text : goal.returns-clause-text
returns-clause-text c = rw c.template.ensures at c.put.ensures

pub returns-clause-short : goal.returns-clause-short
returns-clause-short c = template-short c.args.kind
