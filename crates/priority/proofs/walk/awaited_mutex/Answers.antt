-- `awaited_mutex` meets its contract: the test picks a case. Assumes nothing.
use native.Mathlib.Omega.{arith}
use Prim.Native.Nat.{ℕ}
use mathlib.Core.Path.{◌∙◌, sym, ap}
use Rattle.model.specs.Sizes.{mutexes}
use Rattle.model.specs.Number.{word_number, maybe_mutex}
use Rattle.model.specs.Words.{kernel}
use Rattle.priority.proofs.WalkLaws.{locks, locks-not}
use Rattle.priority.proofs.walk.awaited_mutex.Goals as goal

pub returns-then-place-eq-LOCKING : goal.returns-then-place-eq-LOCKING
returns-then-place-eq-LOCKING c =
    let object = locks (kernel c.args.state.now) _ (omega arith) (sym c.place.ensures ∙ c.if-place-eq-LOCKING.true) in
    c.from_word.ensures ∙ ap (λ (n : ℕ). maybe_mutex (word_number n mutexes)) (c.object.ensures ∙ object)

pub returns-else-place-eq-LOCKING : goal.returns-else-place-eq-LOCKING
returns-else-place-eq-LOCKING c = locks-not (kernel c.args.state.now) _ (omega arith) (λ q. c.if-place-eq-LOCKING.false (c.place.ensures ∙ q))
