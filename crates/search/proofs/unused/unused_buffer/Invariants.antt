-- What is asked of each number.
use Rattle.std.specs.Prelude.{eqb}
use Rattle.model.specs.Lists.{◌!◌}
use Rattle.model.specs.Words.{kernel}
use Rattle.search.proofs.unused.unused_buffer.Given as goal

abbrev pub ghost-first : goal.ghost-first
ghost-first a = λ n. eqb ((kernel a.test.0.now).buffers.exists ! n) 0
