-- ext_tsk and ter_tsk, in the order of the code's steps.
use Rattle.std.proofs.Math.Option.{some}
use Rattle.std.specs.Prelude.{None, Option, Some}
use Rattle.model.proofs.Terms.{ℕ, ◌≡◌, ◌∙◌, refl, ◌≢◌, true, false, ◌||◌, none, List, [], ◌∷◌, length, ℤ, eqb, tasks, ◌!◌, E_OK, E_ID, E_OBJ, E_NOEXS, number, dormant, Kernel, running, Nothing, become_dormant, bad_number, no_such, ter_tsk_refusals, Refusal, refuse, first_refusal, ext_tsk, ter_tsk, kernel, word_count, answer_bytes}
use Rattle.model.specs.Number.{field_number, maybe_task, TaskNumber}
use Rattle.model.specs.declared.call.Answer.TheVariants.{Code, Exits}
use Rattle.model.proofs.NumberLaws.{task_kind}
use Rattle.script.specs.Place.{Appends}
use Rattle.act.specs.Held.{DoesInLog}
use Rattle.reply.specs.Replies.{CarriesInLog}
use Rattle.reply.proofs.Refusing.{refused-here, refused-later, numbered, never-unnumbered, number-refused, missing-refused, there-later}
use Rattle.reply.proofs.Replying.{answer-alone, carried-in-log, in-log-as}

module _ (k : Kernel) (task : ℤ) {b : ℤ} (b-is : b ≡ task) {found : Option TaskNumber} (from : found ≡ maybe_task (field_number b tasks)) where
  made : found ≡ maybe_task (field_number task tasks)
  made = rw b-is at from

  abbrev asleep : Refusal
  asleep = refuse 8 E_OBJ (eqb (k.tasks.place ! number task) dormant || eqb (number task) (running k))

  pub end-numberless : found ≡ None → some E_ID ≡ first_refusal (ter_tsk_refusals k task)
  unfolding ter_tsk_refusals
  end-numberless e = number-refused task_kind task made (no_such k.tasks.place task ∷ asleep ∷ []) e

  module _ {t : TaskNumber} (is-some : found ≡ Some t) {x : ℕ} (x-is : x ≡ k.tasks.place ! t.0) where
    pub end-missing : x ≡ 0 → some E_NOEXS ≡ first_refusal (ter_tsk_refusals k task)
    unfolding ter_tsk_refusals
    end-missing e = missing-refused task_kind task made k.tasks.place (asleep ∷ []) is-some x-is e

    module _ (there : x ≢ 0) {u v caller : ℕ} (u-is : u ≡ t.0) (v-is : v ≡ caller) (runs : caller ≡ running k) where
      applies : asleep.applies ≡ eqb x dormant || eqb u v
      applies = rw ((numbered task_kind task made is-some).1, ← x-is, ← runs, ← v-is, ← u-is)

      pub end-asleep : eqb x dormant || eqb u v ≡ true → some E_OBJ ≡ first_refusal (ter_tsk_refusals k task)
      unfolding ter_tsk_refusals
      end-asleep e =
          there-later task_kind task made k.tasks.place (asleep ∷ []) is-some x-is there (refused-here asleep [] (applies ∙ e))

      pub end-allowed : eqb x dormant || eqb u v ≡ false → none ≡ first_refusal (ter_tsk_refusals k task)
      unfolding ter_tsk_refusals
      end-allowed e =
          there-later task_kind task made k.tasks.place (asleep ∷ []) is-some x-is there (refused-later asleep [] (applies ∙ e) refl)

  pub end-named : first_refusal (ter_tsk_refusals k task) ≡ none → found ≡ None → ⊥
  unfolding ter_tsk_refusals bad_number
  end-named e g = never-unnumbered task_kind task made (ter_tsk_refusals k task) 0 e refl g

module _ (caller : ℕ) {s o log l1 s' o' log' : List ℕ} {at p next : ℕ} (h : length s ≡ word_count) where
  pub terminates : (task : ℤ) {b : ℤ} → b ≡ task → {found : Option TaskNumber} {t : TaskNumber} → found ≡ maybe_task (field_number b tasks) → found ≡ Some t
      → Appends log at (answer_bytes (Code E_OK)) l1 p → DoesInLog (λ w. become_dormant w t.0) s o l1 p s' o' log' next
      → CarriesInLog caller (λ w. ter_tsk w (number task)) s o log at s' o' log' (record { answer = Code E_OK; next = next })
  unfolding ter_tsk
  terminates task b-is from is-some g d =
      carried-in-log caller (Code E_OK) Nothing (λ w. become_dormant w (number task)) h (answer-alone caller (Code E_OK) g)
      (rw (numbered task_kind task (rw b-is at from) is-some).1 d)

  pub exits : caller ≡ running (kernel s) → Appends log at (answer_bytes Exits) l1 p → DoesInLog (λ w. become_dormant w caller) s o l1 p s' o' log' next
      → CarriesInLog caller ext_tsk s o log at s' o' log' (record { answer = Exits; next = next })
  unfolding ext_tsk
  exits runs g d =
      in-log-as caller (λ store. rw (← runs))
      (carried-in-log caller Exits Nothing (λ w. become_dormant w caller) h (answer-alone caller Exits g) d)
