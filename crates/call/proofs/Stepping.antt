-- A call on a valid state, in the order of the code's steps.
use Rattle.std.specs.Prelude.{Option}
use Prim.Native.Nat.{ℕ, zero, suc, ◌≤◌}
use native.Mathlib.Omega.{arith}
use mathlib.Core.Path.{◌≡◌, ◌∙◌, refl, sym, ap, subst}
use mathlib.Core.List.{List, ◌++◌, append-nil}
use mathlib.Core.Option.{none, some}
use lib.ListN.{length}
use lib.IntN.{ℤ}
use borrow.Author.Tests.{ne_eqb}
use Rattle.model.specs.declared.call.Call.{Call}
use Rattle.model.specs.declared.call.Answer.TheVariants.{Code}
use Rattle.model.specs.Number.{maybe_task, task_word, TaskNumber, maybe_number}
use Rattle.model.specs.World.{Lent, begun, running}
use Rattle.model.specs.Act.{drain}
use Rattle.model.specs.Refusal.{first_refusal, refusals}
use Rattle.model.specs.Effect.{perform, effect}
use Rattle.model.specs.Step.{Outcome, refused, carried_out, valid_step}
use Rattle.model.specs.Log.{answer_bytes, delivery_bytes, runs_bytes, outcome_log}
use Rattle.model.specs.Valid.{Bitmap}
use Rattle.model.specs.Words.{word_count, kernel, words}
use Rattle.model.specs.Lent.{Areas, lent, with_log, returned}
use Rattle.model.proofs.ByCase.{step-refused, step-done, step-valid}
use Rattle.state.proofs.WordLaws.{represented, words-kernel}
use Rattle.script.specs.Place.{Appends, Wrote}
use Rattle.script.proofs.Appending.{wrote, wrote-more, front}
use Rattle.ready.proofs.KeptLaws.{calls-keep-bits}
use Rattle.valid.specs.Agree.{valid-agrees}
use Rattle.log_bound.proofs.Theorems.{record-log-fits}
use Rattle.act.specs.Held.{ended_log, Does}
use Rattle.reply.specs.declared.Reply.{Reply}
use Rattle.reply.specs.Replies.{Carries}
use Rattle.call.specs.declared.step.Step.{Step}
use Rattle.call.specs.Steps.{Ready, Steps}

-- the number of a task that was made from one
word_made : (n : ℕ) → task_word (maybe_task n) ≡ n
unfolding maybe_number
word_made zero = refl
word_made (suc n) = rw (ne_eqb (suc n) 0 (λ z. absurd (omega arith)))

module _ (a : Areas) (c : Call) (bytes : List ℕ) {caller : Option TaskNumber} (ready : Ready a caller) where
  x : Lent
  x = lent a.words a.store a.outbox

  -- the whole log fits
  room : (o : Outcome) → valid_step x c bytes ≡ o → length (outcome_log (running (kernel a.words)) o) ≤ length a.log
  unfolding x
  room o e = rw (ready.log, ← e, ← step-valid x c bytes ready.sound) (record-log-fits (running (kernel a.words)) x c bytes)

  -- an outcome whose words, areas and log are there is what is left
  leaves : (o : Outcome) (r : Step) (b : Areas) → valid_step x c bytes ≡ o → r.answer ≡ o.answer → r.runs ≡ maybe_task o.runs
      → b.words ≡ words o.lent.kernel → b.store ≡ o.lent.store → b.outbox ≡ o.lent.outbox
      → Wrote a.log 0 (outcome_log (running (kernel a.words)) o) b.log r.written → Steps a c bytes b r
  unfolding x returned with_log
  leaves o r b e answer runs s store outbox log =
      let f = front a.log _ b.log r.written (room o e) (log.all (omega (arith, room o e))) in
      record {
        left = rw e (λ i. record {
          answer = answer i;
          written = f.1 i;
          areas = record { words = s i; store = store i; outbox = outbox i; log = f.0 i };
        });
        runs-next = rw e runs;
      }

  -- it is refused: the answer, and the task that runs, which is the caller
  pub step-refuses : {e : ℤ} {l1 l2 : List ℕ} {p next : ℕ} → first_refusal (refusals (kernel a.words) c bytes) ≡ some e
      → Appends a.log 0 (answer_bytes (Code e)) l1 p → Appends l1 p (runs_bytes (task_word caller)) l2 next
      → Steps a c bytes (record { words = a.words; store = a.store; outbox = a.outbox; log = l2 })
      (record { answer = Code e; written = next; runs = caller })
  unfolding x refused outcome_log delivery_bytes
  step-refuses {e} {l2 = l2} {next = next} r g h =
      leaves (refused x e (running (kernel a.words))) _ _ (step-refused x c bytes r) refl ready.runs (sym (words-kernel a.words ready.words))
      refl refl
      (rw (append-nil (answer_bytes (Code e)), append-nil (answer_bytes (Code e)))
      (subst (λ (t : ℕ). Wrote a.log 0 (answer_bytes (Code e) ++ runs_bytes t) l2 next)
      (ap task_word ready.runs ∙ word_made (running (kernel a.words))) (wrote-more (wrote g) (wrote h))))

  -- what is there once it is carried out: as many words, and the bits are right, so the next task can be looked for
  pub step-bits : {r : Reply} {b d : Areas} {at : ℕ} → first_refusal (refusals (kernel a.words) c bytes) ≡ none
      → Carries (running (kernel a.words)) (λ w. perform w c bytes) a 0 b r → Does drain b r.next d at → (length d.words ≡ word_count) × Bitmap (kernel d.words)
  unfolding x effect
  step-bits e f g =
      let v = (g.holds _ _ f.holds).state in
      (v.length, subst Bitmap (sym v.kernel) (calls-keep-bits (begun x) c bytes ((valid-agrees x).0 ready.sound).is_bitmap e))

  -- it is carried out: its own log, the drain's, and the task that runs then
  pub step-carries : {r : Reply} {b d : Areas} {at : ℕ} {runs : Option TaskNumber} {log : List ℕ} {next : ℕ} → first_refusal (refusals (kernel a.words) c bytes) ≡ none
      → Carries (running (kernel a.words)) (λ w. perform w c bytes) a 0 b r → Does drain b r.next d at
      → runs ≡ maybe_task (running (kernel d.words)) → Appends d.log at (runs_bytes (task_word runs)) log next
      → Steps a c bytes (record { words = d.words; store = d.store; outbox = d.outbox; log = log })
      (record { answer = r.answer; written = next; runs = runs })
  unfolding x carried_out effect outcome_log ended_log
  step-carries {r} {b} {d} {at} {runs} {log} {next} e f g runs-is h =
      let v = g.holds _ _ f.holds in
      let k = v.state.kernel in
      let y = perform (begun x) c bytes in
      let log-so-far = answer_bytes y.answer ++ delivery_bytes (running (kernel a.words)) y.delivery ++ ended_log (drain y.world).ended in
      leaves (carried_out (effect (begun x) c bytes)) _ _ (step-done x c bytes e) f.answer (runs-is ∙ rw k) (represented v.state) v.store v.outbox
      (subst (λ (t : ℕ). Wrote a.log 0 (log-so-far ++ runs_bytes t) log next)
      (ap task_word runs-is ∙ word_made (running (kernel d.words)) ∙ ap running k) (wrote-more v.log (wrote h)))
