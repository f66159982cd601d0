-- The public call, in the order of the code's steps.
use Rattle.std.specs.Prelude.{Option}
use Prim.Native.Nat.{ℕ}
use native.Mathlib.Omega.{arith}
use mathlib.Core.Path.{◌≡◌, ◌∙◌, sym}
use mathlib.Core.Logic.{◌≢◌}
use mathlib.Core.Bool.{Bool, true, false, and-eq-true_iff}
use mathlib.Core.List.{List}
use lib.ListN.{length}
use lib.Dec.{eqb}
use borrow.Author.Tests.{eqb-true}
use Rattle.model.specs.declared.call.Call.{Call}
use Rattle.model.specs.declared.call.Answer.TheVariants.{Code}
use Rattle.model.specs.Sizes.{log_bytes}
use Rattle.model.specs.Code.{E_SYS}
use Rattle.model.specs.Number.{maybe_task, TaskNumber}
use Rattle.model.specs.World.{running}
use Rattle.model.specs.Valid.{Bitmap, valid}
use Rattle.model.specs.Step.{refused}
use Rattle.model.specs.Log.{answer_bytes, delivery_bytes, runs_bytes, outcome_log}
use Rattle.model.specs.Words.{word_count, kernel}
use Rattle.model.specs.Lent.{Areas, lent, is_valid, with_log, untouched, not_valid, lent_step}
use Rattle.model.proofs.ByCase.{lent-untouched, lent-not-valid, lent-valid}
use Rattle.valid.specs.Agree.{valid-agrees}
use Rattle.script.proofs.Appending.{front}
use Rattle.act.specs.Held.{areas}
use Rattle.call.specs.declared.Called.{Called}
use Rattle.call.specs.declared.step.Step.{Step}
use Rattle.call.specs.Steps.{Ready, Steps}
use Rattle.call.specs.Calls.{called, NotValid}

module _ (a : Areas) (c : Call) (bytes : List ℕ) where
  pub calls-untouched : length a.log ≢ log_bytes → called (record { answer = Code E_SYS; written = 0 }) a ≡ lent_step a c bytes
  unfolding untouched
  calls-untouched n = sym (lent-untouched a c bytes n)

  module _ (size : length a.log ≡ log_bytes) {v : Bool} (v-is : v ≡ is_valid a.words a.store a.outbox) where
    pub calls-not-valid : {log : List ℕ} {r : Called} → v ≡ false → NotValid a.log log r
        → called r (areas a.words a.store a.outbox log) ≡ lent_step a c bytes
    unfolding not_valid with_log refused outcome_log answer_bytes delivery_bytes runs_bytes
    calls-not-valid {log} {r} e n =
        let f = front a.log _ log r.written (rw size (omega arith)) (n.bytes.all (rw size (omega arith))) in
        (λ i. record {
          answer = n.answer i;
          written = f.1 i;
          areas = record { words = a.words; store = a.store; outbox = a.outbox; log = f.0 i };
        }) ∙ sym (lent-not-valid a c bytes size (sym v-is ∙ e))

    module _ (sound : v ≡ true) where
      parts : (eqb (length a.words) word_count ≡ true) × (valid (lent a.words a.store a.outbox) ≡ true)
      unfolding is_valid
      parts = (and-eq-true_iff _ _).0 (sym v-is ∙ sound)

      calls-words : length a.words ≡ word_count
      calls-words = eqb-true _ _ parts.0

      pub calls-bits : (length a.words ≡ word_count) × Bitmap (kernel a.words)
      calls-bits = (calls-words, ((valid-agrees (lent a.words a.store a.outbox)).0 parts.1).is_bitmap)

      pub calls-ready : {runs : Option TaskNumber} → runs ≡ maybe_task (running (kernel a.words)) → Ready a runs
      calls-ready e = record { words = calls-words; log = size; sound = parts.1; runs = e }

      pub calls-steps : {b : Areas} {r : Step} → Steps a c bytes b r → called (record { answer = r.answer; written = r.written }) b ≡ lent_step a c bytes
      calls-steps t = t.left ∙ sym (lent-valid a c bytes size (sym v-is ∙ sound))
