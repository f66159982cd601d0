-- tick, in the order of the code's steps.
use Rattle.std.specs.Prelude.{Option, Some}
use Prim.Native.Nat.{ℕ}
use mathlib.Core.Path.{◌≡◌, ◌∙◌, sym}
use mathlib.Core.List.{List}
use lib.ListN.{length}
use Rattle.model.specs.Sizes.{tasks}
use Rattle.model.specs.Lists.{up_to}
use Rattle.model.specs.Code.{E_OK}
use Rattle.model.specs.Number.{word_number, maybe_task, TaskNumber}
use Rattle.model.specs.declared.call.Answer.TheVariants.{Code}
use Rattle.model.specs.World.{Nothing}
use Rattle.model.specs.Effect.{tick_task, tick}
use Rattle.model.specs.Log.{answer_bytes}
use Rattle.model.specs.Words.{word_count}
use Rattle.model.proofs.NumberLaws.{task-there}
use Rattle.script.specs.Place.{Appends}
use Rattle.act.specs.Held.{DoesInLog}
use Rattle.act.proofs.Loop.{LeftInLog, over, in-log-all}
use Rattle.reply.specs.Replies.{CarriesInLog}
use Rattle.reply.proofs.Replying.{answer-alone, carried-in-log}
use Rattle.time.specs.Ticks.{ticks}

pub ticks-numbered : (n : ℕ) {found : Option TaskNumber} {t : TaskNumber} {s o log s' o' log' : List ℕ} {at next : ℕ} → found ≡ maybe_task (word_number n tasks)
    → found ≡ Some t → DoesInLog (λ w. tick_task w t.0) s o log at s' o' log' next → DoesInLog (λ w. tick_task w n) s o log at s' o' log' next
ticks-numbered n made some d = rw (task-there n _ (sym made ∙ some)).0 at d

pub ticking : {s o log : List ℕ} {at : ℕ} → length s ≡ word_count → LeftInLog ticks (over (λ t w. tick_task w t) (up_to tasks)) s o log at s o log at
unfolding ticks
ticking h = in-log-all h

pub ticks-all : (caller : ℕ) {s o log l1 s' o' log' : List ℕ} {at p next : ℕ} → length s ≡ word_count → Appends log at (answer_bytes (Code E_OK)) l1 p
    → DoesInLog ticks s o l1 p s' o' log' next → CarriesInLog caller tick s o log at s' o' log' (record { answer = Code E_OK; next = next })
unfolding tick ticks
ticks-all caller h g d = carried-in-log caller (Code E_OK) Nothing ticks h (answer-alone caller (Code E_OK) g) d
