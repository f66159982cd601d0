-- `pass_on` meets its contract: a number in range names its task, which waits for a mutex or not. Assumes nothing.
use Rattle.state.proofs.WordLaws.{long}
use borrow.Author.Rules.{rules}
use native.Mathlib.Omega.{arith}
use mathlib.Core.Path.{◌≡◌, ◌∙◌, sym}
use Rattle.model.specs.Sizes.{tasks, mutexes}
use Rattle.model.specs.Kernel.{facts}
use Rattle.model.specs.Number.{word_number, maybe_mutex}
use Rattle.model.proofs.NumberLaws.{Names, task-there, task-none, mutex-there, mutex-none}
use Rattle.model.specs.Words.{kernel}
use Rattle.priority.specs.Walk.{mutex_awaited}
use Rattle.priority.proofs.OwnLaws.{inside}
use Rattle.priority.proofs.WordLaws.{unchanged, onto}
use Rattle.priority.proofs.WalkLaws.{passed-nowhere, passed_to}
use Rattle.priority.proofs.pass_on.Goals as goal

pub returns-in_default : goal.returns-in_default
returns-in_default c = inside (search rules) (search rules) (task-none _ (sym c.from_word.ensures ∙ c.in_default.is))

pub awaited_mutex-requires : goal.awaited_mutex-requires
awaited_mutex-requires c =
    let is-task : Names tasks c.args.n c.in-Some.t.0 = task-there _ _ (sym c.from_word.ensures ∙ c.in-Some.is) in
    let names = is-task in (omega (arith, names.0, names.1))

pub returns-in_default-awaited_mutex : goal.returns-in_default-awaited_mutex
returns-in_default-awaited_mutex c =
    let is-task : Names tasks c.args.n c.in-Some.t.0 = task-there _ _ (sym c.from_word.ensures ∙ c.in-Some.is) in
    let awaits : let a = c.args in c.awaited_mutex.result ≡ maybe_mutex (word_number (mutex_awaited (facts (kernel a.state.now)) a.n) mutexes) = rw (is-task).0 at c.awaited_mutex.ensures in
    let size = (long _ c.told-state) in
    onto (unchanged size) (passed-nowhere _ size _ (mutex-none _ (sym (awaits) ∙ c.in_default-awaited_mutex.is)))

pub raise_mutex-requires : goal.raise_mutex-requires
raise_mutex-requires c =
    let is-task : Names tasks c.args.n c.in-Some.t.0 = task-there _ _ (sym c.from_word.ensures ∙ c.in-Some.is) in
    let awaits : let a = c.args in c.awaited_mutex.result ≡ maybe_mutex (word_number (mutex_awaited (facts (kernel a.state.now)) a.n) mutexes) = rw (is-task).0 at c.awaited_mutex.ensures in
    let is-mutex : let a = c.args in Names mutexes (mutex_awaited (facts (kernel a.state.now)) a.n) c.in-Some-awaited_mutex.m.0 = mutex-there _ _ (sym (awaits) ∙ c.in-Some-awaited_mutex.is) in
    let names = is-mutex in
    (omega (arith, names.0, names.1))

pub returns : goal.returns
returns c =
    let is-task : Names tasks c.args.n c.in-Some.t.0 = task-there _ _ (sym c.from_word.ensures ∙ c.in-Some.is) in
    let awaits : let a = c.args in c.awaited_mutex.result ≡ maybe_mutex (word_number (mutex_awaited (facts (kernel a.state.now)) a.n) mutexes) = rw (is-task).0 at c.awaited_mutex.ensures in
    let is-mutex : let a = c.args in Names mutexes (mutex_awaited (facts (kernel a.state.now)) a.n) c.in-Some-awaited_mutex.m.0 = mutex-there _ _ (sym (awaits) ∙ c.in-Some-awaited_mutex.is) in
    let same = (is-task).0 in
    onto c.raise_mutex.ensures (passed_to _ (long _ c.told-state) _ (is-mutex) (cc))
