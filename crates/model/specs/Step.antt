-- One call, from any lent state and areas: not valid, refused, or carried out.
use Rattle.std.specs.Prelude.{ℕ, true, false, List, [], ℤ}
use Rattle.std.proofs.Math.Option.{none, some}
use Rattle.model.specs.declared.call.Call.{Call}
use Rattle.model.specs.declared.call.Answer.{Answer}
use Rattle.model.specs.declared.call.Answer.TheVariants.{Code}
use Rattle.model.specs.Sizes.{store_bytes, outbox_bytes}
use Rattle.model.specs.Lists.{zeros}
use Rattle.model.specs.Code.{E_SYS}
use Rattle.model.specs.Kernel.{fresh}
use Rattle.model.specs.World.{Lent, Delivery, Nothing, Ended, begun, lent_of, running}
use Rattle.model.specs.Refusal.{first_refusal, refusals}
use Rattle.model.specs.Effect.{Done, effect}
use Rattle.model.specs.Valid.{valid}

-- "Fresh bench: [..] both areas zero."
unfoldable pub fresh_lent : Lent
fresh_lent = record { kernel = fresh; store = zeros store_bytes; outbox = zeros outbox_bytes }

-- What is determined of a call: the answer and what it delivers, the ended waits in order with what they deliver, the task
-- that runs next (0 for none), the state and both areas.
pub record Outcome : Type 0 where
  pub answer : Answer
  pub delivery : Delivery
  pub ended : List Ended
  pub runs : ℕ
  pub lent : Lent

-- "Each answer in this table leaves state and areas untouched."
unfoldable pub refused : Lent → ℤ → ℕ → Outcome
refused x c runs = record { answer = Code c; delivery = Nothing; ended = []; runs = runs; lent = x }

unfoldable pub carried_out : Done → Outcome
carried_out d =
    record {
      answer = d.answer;
      delivery = d.delivery;
      ended = d.world.ended;
      runs = running d.world.kernel;
      lent = lent_of d.world;
    }

-- a call on a valid state: the first refusal that applies, or the effect
unfoldable pub valid_step : Lent → Call → List ℕ → Outcome
valid_step x c bytes =
    elim (first_refusal (refusals x.kernel c bytes))
    [ none ↦ carried_out (effect (begun x) c bytes) | some e ↦ refused x e (running x.kernel) ]

-- Order 1: "state not sound, or an area not exactly" `store_bytes` or `outbox_bytes` long; no task runs then
unfoldable pub step : Lent → Call → List ℕ → Outcome
step x c bytes = elim (valid x) [ true ↦ valid_step x c bytes | false ↦ refused x E_SYS 0 ]

-- what has to unfold for the definitions of this file to compute
unfoldable pub compute_step : Unit {0}
unfolding fresh_lent refused carried_out valid_step step
compute_step = tt
