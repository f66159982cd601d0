-- loc_mtx, in the order of the code's steps. Assumes nothing.
use Rattle.std.proofs.Math.Option.{some, Option}
use Rattle.std.specs.Prelude as code
use Rattle.std.specs.Prelude.{None, Some}
use Rattle.model.proofs.Terms.{ℕ, ◌≤◌, arith, ◌≡◌, ◌∙◌, refl, sym, ap, ◌≢◌, Bool, true, false, ◌&&◌, not, none, List, [], ◌∷◌, length, ℤ, eqb, ltb, eq-eqb, ne_eqb, ◌!◌, tasks, mutexes, E_OK, E_PAR, E_ID, E_NOEXS, E_ILUSE, E_TMOUT, number, queue, locking, inherits, ceilinged, Kernel, with_holder, Nothing, with_kernel, running, recompute, settled, millis, wait, Refusal, refuse, first_refusal, bad_timeout, bad_number, no_such, no_time, lock_waits, loc_mtx_refusals, loc_mtx, kernel, word_count, answer_bytes, Each, Priorities, Bitmap, Locking}
use Rattle.model.specs.Number.{field_number, maybe_mutex, MutexNumber}
use Rattle.model.specs.declared.call.Answer.TheVariants.{Code, Waits}
use Rattle.model.proofs.NumberLaws.{mutex_kind}
use Rattle.model.proofs.ByCase.{lock-waits, lock-free}
use Rattle.state.specs.Words.{Represents}
use Rattle.script.specs.Place.{Appends}
use Rattle.queue.proofs.Members.{running-stood}
use Rattle.priority.proofs.SettledLaws.{holder-settled, wait-settled}
use Rattle.act.specs.Held.{DoesInWords}
use Rattle.act.specs.Ends.{wait_begun}
use Rattle.act.proofs.Ending.{waits-locking}
use Rattle.reply.specs.Replies.{CarriesInWords}
use Rattle.reply.proofs.Refusing.{refused-here, refused-later, numbered, never-unnumbered, number-refused, missing-refused, there-later}
use Rattle.reply.proofs.Replying.{answer-alone, carried-in-words, in-words-as, changes-kernel}
use Rattle.reply.proofs.Conditions.{timeout-refused, timeout-later, time-refused, time-later}

-- the fields are those that the condition is about
pub above-read : {a own top x y z : ℕ} → a ≡ x → own ≡ y → top ≡ z → eqb a ceilinged && ltb own top ≡ eqb x ceilinged && ltb y z
above-read e f g = rw (e, f, g)

-- it waits where the mutex has a holder
module _ (k : Kernel) (m : ℕ) {h : ℕ} (h-is : h ≡ k.mutexes.holder ! m) where
  waits-held : h ≢ 0 → lock_waits k m ≡ true
  unfolding lock_waits
  waits-held e = rw (ne_eqb (k.mutexes.holder ! m) 0 (λ q. e (h-is ∙ q)))

  waits-free : h ≡ 0 → lock_waits k m ≡ false
  unfolding lock_waits
  waits-free e = rw (eq-eqb (k.mutexes.holder ! m) 0 (sym h-is ∙ e))

module _ (k : Kernel) (mutex timeout : ℤ) {u : ℤ} (u-is : u ≡ timeout) {short : Bool} (short-is : short ≡ (bad_timeout u).applies) where
  abbrev held : Refusal
  held = refuse 8 E_ILUSE (eqb (k.mutexes.holder ! number mutex) (running k))

  abbrev above : Refusal
  above =
      refuse 8 E_ILUSE (eqb (k.mutexes.attribute ! number mutex) ceilinged && ltb (k.tasks.base ! running k) (k.mutexes.ceiling ! number mutex))

  abbrev late : Refusal
  late = no_time timeout (lock_waits k (number mutex))

  abbrev rest : List Refusal
  rest = held ∷ above ∷ late ∷ []

  abbrev named : List Refusal
  named = bad_number mutexes mutex ∷ no_such k.mutexes.exists mutex ∷ rest

  pub lock-timeout : short ≡ true → some E_PAR ≡ first_refusal (loc_mtx_refusals k mutex timeout)
  unfolding loc_mtx_refusals
  lock-timeout e = timeout-refused timeout u-is short-is named e

  module _ (long : short ≡ false) {b : ℤ} (b-is : b ≡ mutex) {found : code.Option MutexNumber} (from : found ≡ maybe_mutex (field_number b mutexes)) where
    made : found ≡ maybe_mutex (field_number mutex mutexes)
    made = rw b-is at from

    pub lock-numberless : found ≡ None → some E_ID ≡ first_refusal (loc_mtx_refusals k mutex timeout)
    unfolding loc_mtx_refusals
    lock-numberless e =
        timeout-later timeout u-is short-is named long (number-refused mutex_kind mutex made (no_such k.mutexes.exists mutex ∷ rest) e)

    module _ {m : MutexNumber} (is-some : found ≡ Some m) {x : ℕ} (x-is : x ≡ k.mutexes.exists ! m.0) where
      pub lock-missing : x ≡ 0 → some E_NOEXS ≡ first_refusal (loc_mtx_refusals k mutex timeout)
      unfolding loc_mtx_refusals
      lock-missing e =
          timeout-later timeout u-is short-is named long (missing-refused mutex_kind mutex made k.mutexes.exists rest is-some x-is e)

      module _ (there : x ≢ 0) {h t caller : ℕ} (h-is : h ≡ k.mutexes.holder ! m.0) (t-is : t ≡ caller) (runs : caller ≡ running k) where
        is-mutex : number mutex ≡ m.0
        is-mutex = (numbered mutex_kind mutex made is-some).1

        later : {v : Option ℤ} → v ≡ first_refusal rest → v ≡ first_refusal (loc_mtx_refusals k mutex timeout)
        unfolding loc_mtx_refusals
        later f =
            timeout-later timeout u-is short-is named long (there-later mutex_kind mutex made k.mutexes.exists rest is-some x-is there f)

        pub lock-held : h ≡ t → some E_ILUSE ≡ first_refusal (loc_mtx_refusals k mutex timeout)
        lock-held e =
            later
            (refused-here held (above ∷ late ∷ []) (rw is-mutex (eq-eqb (k.mutexes.holder ! m.0) (running k) (sym h-is ∙ e ∙ t-is ∙ runs))))

        module _ (other : h ≢ t) {high : Bool}
            (high_is : high ≡ eqb (k.mutexes.attribute ! m.0) ceilinged && ltb (k.tasks.base ! caller) (k.mutexes.ceiling ! m.0)) where
          not-held : held.applies ≡ false
          not-held = rw is-mutex (ne_eqb (k.mutexes.holder ! m.0) (running k) (λ q. other (h-is ∙ q ∙ sym runs ∙ sym t-is)))

          above-is : above.applies ≡ high
          above-is = rw (is-mutex, ← runs) (sym high_is)

          pub lock-above : high ≡ true → some E_ILUSE ≡ first_refusal (loc_mtx_refusals k mutex timeout)
          lock-above e = later (refused-later held (above ∷ late ∷ []) not-held (refused-here above (late ∷ []) (above-is ∙ e)))

          module _ (below : high ≡ false) {r : Bool} (r-is : r ≡ (no_time u (not (eqb h 0))).applies) where
            waits-is : not (eqb h 0) ≡ lock_waits k (number mutex)
            unfolding lock_waits
            waits-is = rw (is-mutex, h-is)

            lately : {v : Option ℤ} → v ≡ first_refusal (late ∷ []) → v ≡ first_refusal (loc_mtx_refusals k mutex timeout)
            lately f = later (refused-later held (above ∷ late ∷ []) not-held (refused-later above (late ∷ []) (above-is ∙ below) f))

            pub lock-late : r ≡ true → some E_TMOUT ≡ first_refusal (loc_mtx_refusals k mutex timeout)
            lock-late e = lately (time-refused timeout (lock_waits k (number mutex)) u-is waits-is r-is [] e)

            pub lock-allowed : r ≡ false → none ≡ first_refusal (loc_mtx_refusals k mutex timeout)
            lock-allowed e = lately (time-later timeout (lock_waits k (number mutex)) u-is waits-is r-is [] e refl)

-- and what it does: a free mutex is taken, with a ceiling or without,
module _ (s : List ℕ) (m : ℕ) {s1 : List ℕ} {t u : ℕ} (u-is : u ≡ t) (taken : Represents s1 (with_holder (kernel s) m u)) where
  pub takes : {s' : List ℕ} → Represents s' (recompute (kernel s1)) → Represents s' (recompute (with_holder (kernel s) m t))
  takes r = record { length = r.length; kernel = cc }

  pub takes-quiet : length s ≡ word_count → Priorities (kernel s) → Bitmap (kernel s) → Each tasks (Locking (kernel s)) → (kernel s).mutexes.holder ! m ≡ 0
      → {a : ℕ} → a ≡ (kernel s).mutexes.attribute ! m → a ≢ ceilinged → Represents s1 (recompute (with_holder (kernel s) m t))
  unfolding Locking
  takes-quiet h settled right waits free a-is d =
      takes (holder-settled s h settled right m u a-is d (λ x low high p o. (waits x low high p).1 (ap (λ (n : ℕ). (kernel s).mutexes.holder ! n) o ∙ free)) taken)

-- or the caller waits, for one that inherits or not
module _ (s : List ℕ) (m t : ℕ) (timeout : ℤ) {n : ℕ} (n-is : n ≡ m) {s1 : List ℕ} (begun : Represents s1 (wait_begun (kernel s) t (queue locking n) 0 timeout)) where
  pub awaits : {s' : List ℕ} → Represents s' (recompute (kernel s1)) → DoesInWords (λ w. wait w t (queue locking m) 0 timeout) s s'
  awaits r = waits-locking t locking m 0 timeout s (rw n-is at begun) refl r

  pub awaits-quiet : length s ≡ word_count → t ≡ running (kernel s) → Priorities (kernel s) → Bitmap (kernel s) → {a : ℕ} → a ≡ (kernel s).mutexes.attribute ! m → a ≢ inherits
      → DoesInWords (λ w. wait w t (queue locking m) 0 timeout) s s1
  unfolding wait_begun
  awaits-quiet h runs settled right a-is d = awaits (wait-settled s h settled right m t a-is d stands 0 (millis timeout) (rw n-is at begun))
    where
      stands : t ≢ 0 → (t ≤ tasks) × ((kernel s).tasks.place ! t ≢ locking)
      stands z =
          let f = running-stood (kernel s) (λ e. z (runs ∙ e)) in
          let place = ap (λ (x : ℕ). (kernel s).tasks.place ! x) runs ∙ f.place in
          (omega (arith, runs, f.high), λ (p : (kernel s).tasks.place ! t ≡ locking). omega (arith, sym p ∙ place))

-- the call
module _ (mutex timeout : ℤ) {b : ℤ} (b-is : b ≡ mutex) {found : code.Option MutexNumber} (from : found ≡ maybe_mutex (field_number b mutexes)) where
  named-mutex : found ≡ maybe_mutex (field_number mutex mutexes)
  named-mutex = rw b-is at from

  pub lock-named : (k : Kernel) → first_refusal (loc_mtx_refusals k mutex timeout) ≡ none → found ≡ None → ⊥
  unfolding loc_mtx_refusals bad_number
  lock-named k e g = never-unnumbered mutex_kind mutex named-mutex (loc_mtx_refusals k mutex timeout) 1 e refl g

  module _ {m : MutexNumber} (is-some : found ≡ Some m) where
    number_is : number mutex ≡ m.0
    number_is = (numbered mutex_kind mutex named-mutex is-some).1

    module _ {caller h : ℕ} {s log l1 : List ℕ} {at p : ℕ} (size : length s ≡ word_count) (runs : caller ≡ running (kernel s))
        (h-is : h ≡ (kernel s).mutexes.holder ! m.0) where
      pub locks-waiting : h ≢ 0 → Appends log at (answer_bytes Waits) l1 p → {u : ℤ} → u ≡ timeout → {s' : List ℕ}
          → DoesInWords (λ w. wait w caller (queue locking m.0) 0 u) s s'
          → CarriesInWords caller (λ w. loc_mtx w (number mutex) timeout) s log at s' l1 (record { answer = Waits; next = p })
      locks-waiting e a u-is d =
          in-words-as caller (λ store outbox. lock-waits _ (number mutex) timeout (rw number_is (waits-held (kernel s) m.0 h-is e)) ∙ rw (number_is, ← runs))
          (carried-in-words caller Waits Nothing _ size (answer-alone caller Waits a) (rw u-is at d))

      pub locks-free : h ≡ 0 → Appends log at (answer_bytes (Code E_OK)) l1 p → {s' : List ℕ} → Represents s' (recompute (with_holder (kernel s) m.0 caller))
          → CarriesInWords caller (λ w. loc_mtx w (number mutex) timeout) s log at s' l1 (record { answer = Code E_OK; next = p })
      unfolding settled with_kernel
      locks-free e a x =
          in-words-as caller (λ store outbox. lock-free _ (number mutex) timeout (rw number_is (waits-free (kernel s) m.0 h-is e)) ∙ rw (number_is, ← runs))
          (carried-in-words caller (Code E_OK) Nothing _ size (answer-alone caller (Code E_OK) a)
          (changes-kernel (λ k. recompute (with_holder k m.0 caller)) x))
