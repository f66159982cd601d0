-- chg_pri, in the order of the code's steps.
use Rattle.std.proofs.Math.Option.{some, Option}
use Rattle.std.specs.Prelude as code
use Rattle.std.specs.Prelude.{None, Some}
use Rattle.model.proofs.Terms.{ℕ, zero, suc, ◌≤◌, arith, ◌≡◌, ◌∙◌, refl, sym, ap, ◌≢◌, Bool, true, false, cond, none, List, [], ◌∷◌, length, ℤ, pos, eqb, eq-eqb, ne_eqb, tasks, priorities, mutexes, ◌!◌, up_to, any, E_OK, E_PAR, E_ID, E_ILUSE, E_NOEXS, number, absent, with_base, Kernel, running, recompute, Nothing, chosen_task, chosen_base, above_ceiling, chg_pri_refusals, Refusal, refuse, first_refusal, outside, rejoin, chg_pri, From, kernel, word_count, answer_bytes}
use Rattle.model.specs.Number.{word_number, maybe_task, TaskNumber}
use Rattle.model.specs.declared.call.Answer.TheVariants.{Code}
use Rattle.model.proofs.NumberLaws.{task_kind, named, never-unnamed}
use Rattle.model.proofs.RefusalLaws.{none-applies, in-range-from-zero}
use Rattle.queue.proofs.Members.{running-stood}
use Rattle.state.specs.Words.{Represents}
use Rattle.script.specs.Place.{Appends}
use Rattle.reply.specs.Replies.{CarriesInWords}
use Rattle.reply.proofs.Refusing.{refused-here, refused-later}
use Rattle.reply.proofs.Replying.{answer-alone, carried-in-words, in-words-as, changes-kernel}
use Rattle.reply.proofs.Conditions.{field-refused, field-later}

-- ---- which task and which base are meant

module _ (k : Kernel) (field : ℤ) {b : ℤ} (b-is : b ≡ field) {n : ℕ} (n-is : n ≡ number b) where
  is_number : n ≡ number field
  is_number = n-is ∙ ap number b-is

  pub task-caller : {u caller : ℕ} {found : code.Option TaskNumber} → n ≡ 0 → u ≡ caller → caller ≡ running k → found ≡ maybe_task (word_number u tasks)
      → found ≡ maybe_task (word_number (chosen_task k field) tasks)
  unfolding chosen_task
  task-caller z u-is runs e = e ∙ rw (eq-eqb (number field) 0 (sym is_number ∙ z), ← runs, ← u-is)

  pub task-other : {found : code.Option TaskNumber} → n ≢ 0 → found ≡ maybe_task (word_number n tasks) → found ≡ maybe_task (word_number (chosen_task k field) tasks)
  unfolding chosen_task
  task-other z e = e ∙ rw (ne_eqb (number field) 0 (λ q. z (is_number ∙ q)), ← is_number)

  pub base-initial : (t : ℕ) {r : ℕ} → n ≡ 0 → r ≡ k.tasks.initial ! t → r ≡ chosen_base k t field
  unfolding chosen_base
  base-initial t z e = e ∙ rw (eq-eqb (number field) 0 (sym is_number ∙ z))

  pub base-field : (t : ℕ) → n ≢ 0 → n ≡ chosen_base k t field
  unfolding chosen_base
  base-field t z = rw (ne_eqb (number field) 0 (λ q. z (is_number ∙ q))) is_number

-- a task is chosen, where the field is in its range and a task runs
module _ (k : Kernel) (task : ℤ) (runs : running k ≢ 0) where
  chosen-from : outside (pos 0) (pos tasks) task ≡ false → From 1 tasks (chosen_task k task)
  unfolding chosen_task
  chosen-from inside = go (number task) (in-range-from-zero tasks task inside)
    where
      go : (n : ℕ) → n ≤ tasks → From 1 tasks (cond (eqb n 0) (running k) n)
      go zero h = let s = running-stood k runs in (s.low, s.high)
      go (suc n) h = rw (ne_eqb (suc n) 0 (λ z. absurd (omega arith))) (omega arith, h)

  module _ {found : code.Option TaskNumber} (found-is : found ≡ maybe_task (word_number (chosen_task k task) tasks)) where
    pub chosen-some : outside (pos 0) (pos tasks) task ≡ false → found ≡ None → ⊥
    chosen-some inside e = let r = chosen-from inside in never-unnamed task_kind found-is r.0 r.1 e

    pub change-named : (priority : ℤ) → first_refusal (chg_pri_refusals k task priority) ≡ none → found ≡ None → ⊥
    unfolding chg_pri_refusals
    change-named priority e g = chosen-some (none-applies (chg_pri_refusals k task priority) e 1) g

-- ---- the refusals

module _ (k : Kernel) (task priority : ℤ) where
  abbrev numberless : Refusal
  numberless = refuse 5 E_ID (outside (pos 0) (pos tasks) task)

  abbrev missing : Refusal
  missing = refuse 6 E_NOEXS (eqb (k.tasks.place ! chosen_task k task) absent)

  abbrev above : Refusal
  above = refuse 8 E_ILUSE (any (above_ceiling k (chosen_base k (chosen_task k task) priority) (chosen_task k task)) (up_to mutexes))

  module _ {b : ℤ} (b-is : b ≡ priority) {r : Bool} (r-is : r ≡ outside (pos 0) (pos priorities) b) where
    pub change-outside : r ≡ true → some E_PAR ≡ first_refusal (chg_pri_refusals k task priority)
    unfolding chg_pri_refusals
    change-outside e = field-refused (pos 0) (pos priorities) priority b-is r-is (numberless ∷ missing ∷ above ∷ []) e

    module _ (inside : r ≡ false) {a : ℤ} (a-is : a ≡ task) {q : Bool} (q-is : q ≡ outside (pos 0) (pos tasks) a) where
      after-range : {v : Option ℤ} → v ≡ first_refusal (numberless ∷ missing ∷ above ∷ [])
          → v ≡ first_refusal (chg_pri_refusals k task priority)
      unfolding chg_pri_refusals
      after-range f = field-later (pos 0) (pos priorities) priority b-is r-is (numberless ∷ missing ∷ above ∷ []) inside f

      pub change-numberless : q ≡ true → some E_ID ≡ first_refusal (chg_pri_refusals k task priority)
      change-numberless e = after-range (refused-here numberless (missing ∷ above ∷ []) (rw a-is at (sym q-is ∙ e)))

      module _ (numbered : q ≡ false) where
        later : {v : Option ℤ} → v ≡ first_refusal (missing ∷ above ∷ []) → v ≡ first_refusal (chg_pri_refusals k task priority)
        later f = after-range (refused-later numberless (missing ∷ above ∷ []) (rw a-is at (sym q-is ∙ numbered)) f)

        module _ {found : code.Option TaskNumber} (from : found ≡ maybe_task (word_number (chosen_task k a) tasks)) where
          made : found ≡ maybe_task (word_number (chosen_task k task) tasks)
          made = rw a-is at from

          pub change-never : {v : Option ℤ} {caller : ℕ} → caller ≡ running k → 1 ≤ caller → found ≡ None
              → v ≡ first_refusal (chg_pri_refusals k task priority)
          change-never runs low e =
              absurd (chosen-some k task (λ z. let n = runs ∙ z in omega arith) made (rw a-is at (sym q-is ∙ numbered)) e)

          module _ {t : TaskNumber} (is-some : found ≡ Some t) {x : ℕ} (x-is : x ≡ k.tasks.place ! t.0) where
            is-task : chosen_task k task ≡ t.0
            is-task = sym (named task_kind made is-some).0

            pub change-missing : x ≡ absent → some E_NOEXS ≡ first_refusal (chg_pri_refusals k task priority)
            change-missing e = later (refused-here missing (above ∷ []) (rw is-task (eq-eqb (k.tasks.place ! t.0) absent (sym x-is ∙ e))))

            module _ (there : x ≢ absent) {base : ℕ} {o : Bool} (base-is : base ≡ chosen_base k t.0 b)
                (over : o ≡ any (above_ceiling k base t.0) (up_to mutexes)) where
              above-is : above.applies ≡ o
              above-is = rw (is-task, ← b-is, ← base-is) (sym over)

              present : missing.applies ≡ false
              present = rw is-task (ne_eqb (k.tasks.place ! t.0) absent (λ p. there (x-is ∙ p)))

              pub change-above : o ≡ true → some E_ILUSE ≡ first_refusal (chg_pri_refusals k task priority)
              change-above e =
                  later (refused-later missing (above ∷ []) present (refused-here above [] (above-is ∙ e)))

              pub change-allowed : o ≡ false → none ≡ first_refusal (chg_pri_refusals k task priority)
              change-allowed e =
                  later (refused-later missing (above ∷ []) present (refused-later above [] (above-is ∙ e) refl))

-- ---- what it does

pub base-changed : (t base : ℕ) (s : List ℕ) {s1 s2 s' : List ℕ} → Represents s1 (with_base (kernel s) t base) → Represents s2 (recompute (kernel s1))
    → Represents s' (rejoin (kernel s2) t) → Represents s' (rejoin (recompute (with_base (kernel s) t base)) t)
base-changed t base s a b c = record { length = c.length; kernel = c.kernel ∙ rw (b.kernel, a.kernel) }

pub changes : (caller : ℕ) (task priority : ℤ) {s s' log l1 : List ℕ} {at next : ℕ} → length s ≡ word_count → {found : code.Option TaskNumber} {t : TaskNumber} {base : ℕ}
    → found ≡ maybe_task (word_number (chosen_task (kernel s) task) tasks) → found ≡ Some t → base ≡ chosen_base (kernel s) t.0 priority
    → Represents s' (rejoin (recompute (with_base (kernel s) t.0 base)) t.0) → Appends log at (answer_bytes (Code E_OK)) l1 next
    → CarriesInWords caller (λ w. chg_pri w (chosen_task w.kernel task) priority) s log at s' l1 (record { answer = Code E_OK; next = next })
unfolding chg_pri
changes caller task priority h {t = t} {base} made is-some base-is r g =
    in-words-as caller (λ store o. rw (sym (named task_kind made is-some).0, base-is))
    (carried-in-words caller (Code E_OK) Nothing _ h (answer-alone caller (Code E_OK) g)
    (changes-kernel (λ k. rejoin (recompute (with_base k t.0 base)) t.0) r))
