-- What is asked of each task.
use Rattle.std.specs.Prelude.{eqb}
use Rattle.model.specs.Lists.{◌!◌}
use Rattle.model.specs.Facts.{sending}
use Rattle.model.specs.Words.{kernel}
use Rattle.search.proofs.sender.anyone_sends.Given as goal

abbrev pub ghost-any : goal.ghost-any
ghost-any a = λ t. eqb ((kernel a.test.0.now).tasks.place ! t) sending
