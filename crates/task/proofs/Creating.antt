-- cre_tsk, del_tsk and sta_tsk, in the order of the code's steps.
use Rattle.std.proofs.Math.Option.{some}
use Rattle.std.specs.Prelude.{None, Option, Some}
use Rattle.model.proofs.Terms.{ℕ, ◌≡◌, ◌∙◌, refl, sym, ◌≢◌, Bool, true, false, not, none, List, [], ◌∷◌, length, ℤ, pos, eqb, eq-eqb, ne_eqb, tasks, priorities, ◌!◌, E_OK, E_PAR, E_ID, E_LIMIT, E_OBJ, E_NOEXS, number, absent, dormant, ready_queue, Kernel, Nothing, arrive, unused, bad_number, no_such, none_free, cre_tsk_refusals, dormant_refusals, Refusal, refuse, first_refusal, outside, cre_tsk, del_tsk, sta_tsk, kernel, word_count, answer_bytes}
use Rattle.model.specs.Number.{field_number, maybe_task, TaskNumber}
use Rattle.model.specs.declared.call.Answer.{Answer}
use Rattle.model.specs.declared.call.Answer.TheVariants.{Code}
use Rattle.model.proofs.NumberLaws.{task_kind}
use Rattle.state.specs.Words.{Represents}
use Rattle.script.specs.Place.{Appends}
use Rattle.reply.specs.Replies.{CarriesInWords}
use Rattle.reply.proofs.Refusing.{refused-here, refused-later, numbered, never-unnumbered, number-refused, missing-refused, there-later}
use Rattle.reply.proofs.Replying.{answer-alone, carried-in-words, changes-kernel}
use Rattle.reply.proofs.Conditions.{field-refused, field-later}
use Rattle.reply.proofs.Creations.{full-refused, unused-later, never-full, creates}
use Rattle.task.specs.Rows.{task_row}

-- ---- cre_tsk

module _ (k : Kernel) (priority : ℤ) {b : ℤ} (b-is : b ≡ priority) {r : Bool} (r-is : r ≡ outside (pos 1) (pos priorities) b) where
  abbrev full : Refusal
  full = none_free k.tasks.place tasks

  pub create-outside : r ≡ true → some E_PAR ≡ first_refusal (cre_tsk_refusals k priority)
  unfolding cre_tsk_refusals
  create-outside e = field-refused (pos 1) (pos priorities) priority b-is r-is (full ∷ []) e

  module _ (inside : r ≡ false) {found : Option TaskNumber} (made : found ≡ maybe_task (unused k.tasks.place tasks)) where
    pub create-full : found ≡ None → some E_LIMIT ≡ first_refusal (cre_tsk_refusals k priority)
    unfolding cre_tsk_refusals
    create-full e =
        field-later (pos 1) (pos priorities) priority b-is r-is (full ∷ []) inside (full-refused task_kind k.tasks.place made [] e)

    pub create-allowed : {t : TaskNumber} → found ≡ Some t → none ≡ first_refusal (cre_tsk_refusals k priority)
    unfolding cre_tsk_refusals
    create-allowed e =
        field-later (pos 1) (pos priorities) priority b-is r-is (full ∷ []) inside (unused-later task_kind k.tasks.place made [] e refl)

pub create-room : (k : Kernel) (priority : ℤ) {found : Option TaskNumber} → found ≡ maybe_task (unused k.tasks.place tasks)
    → first_refusal (cre_tsk_refusals k priority) ≡ none → found ≡ None → ⊥
unfolding cre_tsk_refusals none_free
create-room k priority made e g = never-full task_kind k.tasks.place made (cre_tsk_refusals k priority) 1 e refl g

pub creates-task : (caller : ℕ) (priority : ℤ) {b : ℤ} → b ≡ priority → {s s' log l1 : List ℕ} {at next : ℕ} → length s ≡ word_count
    → {found : Option TaskNumber} {t : TaskNumber} {u p : ℕ} {answer : Answer} → found ≡ maybe_task (unused (kernel s).tasks.place tasks) → found ≡ Some t
    → u ≡ t.0 → answer ≡ Code (pos u) → p ≡ number b → Represents s' (task_row (kernel s) t.0 dormant p) → Appends log at (answer_bytes answer) l1 next
    → CarriesInWords caller (λ w. cre_tsk w (number priority)) s log at s' l1 (record { answer = answer; next = next })
unfolding cre_tsk
creates-task caller priority b-is h made is-some u-is a-is p-is r g =
    creates task_kind (λ k. k.tasks.place) (λ k n. task_row k n dormant (number priority)) caller h made is-some u-is a-is g (rw (p-is, b-is) at r)

-- ---- del_tsk, and what sta_tsk asks

module _ (k : Kernel) (task : ℤ) {b : ℤ} (b-is : b ≡ task) {found : Option TaskNumber} (from : found ≡ maybe_task (field_number b tasks)) where
  made : found ≡ maybe_task (field_number task tasks)
  made = rw b-is at from

  abbrev awake : Refusal
  awake = refuse 8 E_OBJ (not (eqb (k.tasks.place ! number task) dormant))

  pub dormant-numberless : found ≡ None → some E_ID ≡ first_refusal (dormant_refusals k task)
  unfolding dormant_refusals
  dormant-numberless e = number-refused task_kind task made (no_such k.tasks.place task ∷ awake ∷ []) e

  module _ {t : TaskNumber} (is-some : found ≡ Some t) {x : ℕ} (x-is : x ≡ k.tasks.place ! t.0) where
    pub dormant-missing : x ≡ 0 → some E_NOEXS ≡ first_refusal (dormant_refusals k task)
    unfolding dormant_refusals
    dormant-missing e = missing-refused task_kind task made k.tasks.place (awake ∷ []) is-some x-is e

    module _ (there : x ≢ 0) where
      is-task : number task ≡ t.0
      is-task = (numbered task_kind task made is-some).1

      pub dormant-awake : x ≢ dormant → some E_OBJ ≡ first_refusal (dormant_refusals k task)
      unfolding dormant_refusals
      dormant-awake e =
          there-later task_kind task made k.tasks.place (awake ∷ []) is-some x-is there
          (refused-here awake [] (rw (is-task, ne_eqb (k.tasks.place ! t.0) dormant (λ q. e (x-is ∙ q)))))

      pub dormant-allowed : x ≡ dormant → none ≡ first_refusal (dormant_refusals k task)
      unfolding dormant_refusals
      dormant-allowed e =
          there-later task_kind task made k.tasks.place (awake ∷ []) is-some x-is there
          (refused-later awake [] (rw (is-task, eq-eqb (k.tasks.place ! t.0) dormant (sym x-is ∙ e))) refl)

  pub dormant-named : first_refusal (dormant_refusals k task) ≡ none → found ≡ None → ⊥
  unfolding dormant_refusals bad_number
  dormant-named e g = never-unnumbered task_kind task made (dormant_refusals k task) 0 e refl g

module _ (caller : ℕ) (task : ℤ) {b : ℤ} (b-is : b ≡ task) {s s' log l1 : List ℕ} {at next : ℕ} (h : length s ≡ word_count)
    {found : Option TaskNumber} {t : TaskNumber} (from : found ≡ maybe_task (field_number b tasks)) (is-some : found ≡ Some t) where
  pub deletes : Represents s' (task_row (kernel s) t.0 absent 0) → Appends log at (answer_bytes (Code E_OK)) l1 next
      → CarriesInWords caller (λ w. del_tsk w (number task)) s log at s' l1 (record { answer = Code E_OK; next = next })
  unfolding del_tsk
  deletes r g =
      carried-in-words caller (Code E_OK) Nothing _ h (answer-alone caller (Code E_OK) g)
      (changes-kernel (λ k. task_row k (number task) absent 0) (rw (numbered task_kind task (rw b-is at from) is-some).1 r))

  pub starts : Represents s' (arrive (kernel s) t.0 ready_queue) → Appends log at (answer_bytes (Code E_OK)) l1 next
      → CarriesInWords caller (λ w. sta_tsk w (number task)) s log at s' l1 (record { answer = Code E_OK; next = next })
  unfolding sta_tsk
  starts r g =
      carried-in-words caller (Code E_OK) Nothing _ h (answer-alone caller (Code E_OK) g)
      (changes-kernel (λ k. arrive k (number task) ready_queue) (rw (numbered task_kind task (rw b-is at from) is-some).1 r))
