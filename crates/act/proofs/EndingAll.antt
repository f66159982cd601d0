-- Several waits end, in the order of the code's steps. Assumes nothing.
use Rattle.std.specs.Prelude.{Option, Some}
use Prim.Native.Nat.{ℕ}
use mathlib.Core.Path.{◌≡◌, ◌∙◌, sym}
use mathlib.Core.List.{List}
use lib.ListN.{length}
use lib.IntN.{ℤ}
use Rattle.model.specs.Sizes.{tasks}
use Rattle.model.specs.Number.{word_number, maybe_task, TaskNumber}
use Rattle.model.specs.World.{Nothing}
use Rattle.model.specs.Act.{end_wait, end_waits}
use Rattle.model.specs.Words.{word_count}
use Rattle.model.proofs.NumberLaws.{task-there}
use Rattle.act.specs.Held.{DoesInLog}
use Rattle.act.proofs.Loop.{LeftInLog, over, in-log-all}

pub ends-numbered : (n : ℕ) (c : ℤ) {f : Option TaskNumber} {t : TaskNumber} {b : ℤ} {s o log s' o' log' : List ℕ} {at next : ℕ}
    → f ≡ maybe_task (word_number n tasks) → f ≡ Some t → b ≡ c → DoesInLog (λ w. end_wait w t.0 b Nothing) s o log at s' o' log' next
    → DoesInLog (λ w. end_wait w n c Nothing) s o log at s' o' log' next
ends-numbered n c f-is e g d = let z = (task-there n _ (sym f-is ∙ e)).0 in rw (z, g) at d

pub ending : (ts : List ℕ) (c : ℤ) {s o log : List ℕ} {at : ℕ} → length s ≡ word_count
    → LeftInLog (λ w. end_waits w ts c) (over (λ t w. end_wait w t c Nothing) ts) s o log at s o log at
unfolding end_waits
ending ts c h = in-log-all h
