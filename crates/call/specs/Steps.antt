-- What a call on a valid state asks and gives.
use Rattle.std.specs.Prelude.{Option}
use Rattle.std.specs.Prelude.{◌≡◌, Bool, true, List, ℕ, length, eqb}
use Rattle.std.proofs.Math.Option.{none}
use Rattle.model.specs.declared.call.Call.{Call}
use Rattle.model.specs.declared.call.Call.TheVariants.{Tick}
use Rattle.model.specs.Sizes.{log_bytes}
use Rattle.model.specs.Number.{maybe_task, TaskNumber}
use Rattle.model.specs.World.{running}
use Rattle.model.specs.Record.{kind_of}
use Rattle.model.specs.Refusal.{first_refusal, refusals}
use Rattle.model.specs.Valid.{valid}
use Rattle.model.specs.Words.{word_count, kernel}
use Rattle.model.specs.Step.{valid_step}
use Rattle.model.specs.Lent.{Areas, Returned, lent, returned}
use Rattle.call.specs.declared.step.Step.{Step}

-- The state is valid, the areas have their lengths, and the task that runs is handed over.
pub record Ready (a : Areas) (caller : Option TaskNumber) : Type 0 where
  pub words : length a.words ≡ word_count
  pub log : length a.log ≡ log_bytes
  pub sound : valid (lent a.words a.store a.outbox) ≡ true
  pub runs : caller ≡ maybe_task (running (kernel a.words))

-- what a step and the areas after it come to
abbrev pub stepped : Step → Areas → Returned
stepped r b = record { answer = r.answer; written = r.written; areas = b }

-- The answer, the bytes written and every area are those of the definitions' step on a valid state, and so is the task that runs next.
pub record Steps (a : Areas) (c : Call) (bytes : List ℕ) (b : Areas) (r : Step) : Type 0 where
  pub left : stepped r b ≡ returned a (valid_step (lent a.words a.store a.outbox) c bytes)
  pub runs-next : r.runs ≡ maybe_task (valid_step (lent a.words a.store a.outbox) c bytes).runs

-- A call that nothing refuses, on a valid state.
pub record Allowed (a : Areas) (c : Call) (bytes : List ℕ) : Type 0 where
  pub words : length a.words ≡ word_count
  pub sound : valid (lent a.words a.store a.outbox) ≡ true
  pub unrefused : first_refusal (refusals (kernel a.words) c bytes) ≡ none

-- "the call is not tick", by its kind
abbrev pub is_tick : Call → Bool
is_tick c = eqb (kind_of c) (kind_of Tick)
