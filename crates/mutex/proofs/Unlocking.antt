-- unl_mtx, in the order of the code's steps.
use Rattle.std.proofs.Math.Option.{some}
use Rattle.std.specs.Prelude.{None, Option, Some}
use Rattle.model.proofs.Terms.{ℕ, ◌≡◌, ◌∙◌, refl, sym, ◌≢◌, not, none, List, [], ◌∷◌, length, ℤ, eqb, eq-eqb, ne_eqb, mutexes, ◌!◌, E_OK, E_ID, E_ILUSE, E_NOEXS, number, Kernel, running, Nothing, release, bad_number, no_such, unl_mtx_refusals, Refusal, refuse, first_refusal, unl_mtx, word_count, answer_bytes}
use Rattle.model.specs.Number.{field_number, maybe_mutex, MutexNumber}
use Rattle.model.specs.declared.call.Answer.TheVariants.{Code}
use Rattle.model.proofs.NumberLaws.{mutex_kind}
use Rattle.script.specs.Place.{Appends}
use Rattle.act.specs.Held.{DoesInLog}
use Rattle.reply.specs.Replies.{CarriesInLog}
use Rattle.reply.proofs.Refusing.{refused-here, refused-later, numbered, never-unnumbered, number-refused, missing-refused, there-later}
use Rattle.reply.proofs.Replying.{answer-alone, carried-in-log}

module _ (k : Kernel) (mutex : ℤ) {b : ℤ} (b-is : b ≡ mutex) {found : Option MutexNumber} (from : found ≡ maybe_mutex (field_number b mutexes)) where
  made : found ≡ maybe_mutex (field_number mutex mutexes)
  made = rw b-is at from

  abbrev unheld : Refusal
  unheld = refuse 8 E_ILUSE (not (eqb (k.mutexes.holder ! number mutex) (running k)))

  pub unlock-numberless : found ≡ None → some E_ID ≡ first_refusal (unl_mtx_refusals k mutex)
  unfolding unl_mtx_refusals
  unlock-numberless e = number-refused mutex_kind mutex made (no_such k.mutexes.exists mutex ∷ unheld ∷ []) e

  module _ {m : MutexNumber} (is-some : found ≡ Some m) {x : ℕ} (x-is : x ≡ k.mutexes.exists ! m.0) where
    pub unlock-missing : x ≡ 0 → some E_NOEXS ≡ first_refusal (unl_mtx_refusals k mutex)
    unfolding unl_mtx_refusals
    unlock-missing e = missing-refused mutex_kind mutex made k.mutexes.exists (unheld ∷ []) is-some x-is e

    module _ (there : x ≢ 0) {holder t caller : ℕ} (h-is : holder ≡ k.mutexes.holder ! m.0) (t-is : t ≡ caller) (runs : caller ≡ running k) where
      is-mutex : number mutex ≡ m.0
      is-mutex = (numbered mutex_kind mutex made is-some).1

      pub unlock-unheld : holder ≢ t → some E_ILUSE ≡ first_refusal (unl_mtx_refusals k mutex)
      unfolding unl_mtx_refusals
      unlock-unheld e =
          there-later mutex_kind mutex made k.mutexes.exists (unheld ∷ []) is-some x-is there
          (refused-here unheld [] (rw (is-mutex, ne_eqb (k.mutexes.holder ! m.0) (running k) (λ q. e (h-is ∙ q ∙ sym runs ∙ sym t-is)))))

      pub unlock-allowed : holder ≡ t → none ≡ first_refusal (unl_mtx_refusals k mutex)
      unfolding unl_mtx_refusals
      unlock-allowed e =
          there-later mutex_kind mutex made k.mutexes.exists (unheld ∷ []) is-some x-is there
          (refused-later unheld [] (rw (is-mutex, eq-eqb (k.mutexes.holder ! m.0) (running k) (sym h-is ∙ e ∙ t-is ∙ runs))) refl)

  -- and what it does
  pub unlock-named : first_refusal (unl_mtx_refusals k mutex) ≡ none → found ≡ None → ⊥
  unfolding unl_mtx_refusals bad_number
  unlock-named e g = never-unnumbered mutex_kind mutex made (unl_mtx_refusals k mutex) 0 e refl g

pub unlocks : (mutex : ℤ) {b : ℤ} → b ≡ mutex → {found : Option MutexNumber} {m : MutexNumber} → found ≡ maybe_mutex (field_number b mutexes) → found ≡ Some m
    → (caller : ℕ) {s o log l1 s' o' log' : List ℕ} {at p next : ℕ} → length s ≡ word_count → Appends log at (answer_bytes (Code E_OK)) l1 p
    → DoesInLog (λ w. release w m.0) s o l1 p s' o' log' next
    → CarriesInLog caller (λ w. unl_mtx w (number mutex)) s o log at s' o' log' (record { answer = Code E_OK; next = next })
unfolding unl_mtx
unlocks mutex b-is from is-some caller h a d =
    carried-in-log caller (Code E_OK) Nothing (λ w. release w (number mutex)) h (answer-alone caller (Code E_OK) a)
    (rw (numbered mutex_kind mutex (rw b-is at from) is-some).1 d)
