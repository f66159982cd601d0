-- `verdict` meets its contract: what is read from the front of the area is what was stored there. Assumes nothing.
use Prim.Native.Nat.{ℕ}
use native.Mathlib.Omega.{arith}
use mathlib.Core.List.{List}
use mathlib.Core.Path.{◌∙◌, ap}
use Rattle.verdicts.proofs.WordLaws.{front}
use Rattle.model.specs.Lent.{is_valid}
use Rattle.verdicts.proofs.words.verdict.Goals as goal

pub returns : goal.returns
returns c =
    let a = c.args in
    let e = front a.n a.area.now _ a.bytes.now (omega arith) c.fill.ensures in
    c.is_valid.ensures ∙ ap (λ (w : List ℕ). is_valid w a.store.now a.outbox.now) e
