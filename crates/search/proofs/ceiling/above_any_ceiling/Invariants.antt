-- What is asked of each mutex.
use Rattle.std.specs.Prelude.{eqb, ltb, ◌&&◌, ◌||◌}
use Rattle.model.specs.Lists.{◌!◌}
use Rattle.model.specs.Facts.{ceilinged}
use Rattle.model.specs.Words.{kernel}
use Rattle.search.proofs.ceiling.above_any_ceiling.Given as goal

abbrev pub ghost-any : goal.ghost-any
ghost-any a = λ n.
    let x = (kernel a.test.0.now).mutexes in
    eqb (x.attribute ! n) ceilinged && (eqb (x.holder ! n) a.test.2.0 || eqb a.test.3 n) && ltb a.test.1 (x.ceiling ! n)
