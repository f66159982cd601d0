-- get_mpf, in the order of the code's steps. Assumes nothing.
use Rattle.std.proofs.Math.Option.{some, Option}
use Rattle.std.specs.Prelude as code
use Rattle.std.specs.Prelude.{None, Some}
use Rattle.model.proofs.Terms.{ℕ, ◌≡◌, ◌∙◌, refl, sym, ◌≢◌, Bool, true, false, none, List, [], ◌∷◌, length, ℤ, eqb, ◌!◌, pools, E_OK, E_PAR, E_ID, E_NOEXS, E_TMOUT, number, queue, getting, Kernel, with_taken, slot, Nothing, Block, running, wait, Refusal, first_refusal, bad_timeout, bad_number, no_such, no_time, free_block, get_mpf_refusals, get_mpf, kernel, word_count, answer_bytes, delivery_bytes}
use Rattle.model.specs.Number.{field_number, maybe_pool, PoolNumber}
use Rattle.model.specs.declared.call.Answer.TheVariants.{Code, Waits}
use Rattle.model.proofs.NumberLaws.{pool_kind}
use Rattle.model.proofs.ByCase.{get-waits, get-block}
use Rattle.state.specs.Words.{Represents}
use Rattle.script.specs.Place.{Appends}
use Rattle.script.proofs.Appending.{wrote, wrote-more}
use Rattle.act.specs.Held.{DoesInWords}
use Rattle.reply.specs.Replies.{CarriesInWords}
use Rattle.reply.proofs.Refusing.{numbered, never-unnumbered, number-refused, missing-refused, there-later}
use Rattle.reply.proofs.Replying.{changes-kernel, answer-alone, carried-in-words, in-words-as}
use Rattle.reply.proofs.Conditions.{timeout-refused, timeout-later, time-refused, time-later}

module _ (k : Kernel) (pool timeout : ℤ) {u : ℤ} (u-is : u ≡ timeout) {short : Bool} (short-is : short ≡ (bad_timeout u).applies) where
  abbrev late : Refusal
  late = no_time timeout (eqb (free_block k (number pool)) 0)

  abbrev named : List Refusal
  named = bad_number pools pool ∷ no_such k.pools.exists pool ∷ late ∷ []

  pub get-timeout : short ≡ true → some E_PAR ≡ first_refusal (get_mpf_refusals k pool timeout)
  unfolding get_mpf_refusals
  get-timeout e = timeout-refused timeout u-is short-is named e

  module _ (long : short ≡ false) {b : ℤ} (b-is : b ≡ pool) {found : code.Option PoolNumber} (from : found ≡ maybe_pool (field_number b pools)) where
    made : found ≡ maybe_pool (field_number pool pools)
    made = rw b-is at from

    after-timeout : {v : Option ℤ} → v ≡ first_refusal named → v ≡ first_refusal (get_mpf_refusals k pool timeout)
    unfolding get_mpf_refusals
    after-timeout f = timeout-later timeout u-is short-is named long f

    pub get-numberless : found ≡ None → some E_ID ≡ first_refusal (get_mpf_refusals k pool timeout)
    get-numberless e = after-timeout (number-refused pool_kind pool made (no_such k.pools.exists pool ∷ late ∷ []) e)

    module _ {p : PoolNumber} (is-some : found ≡ Some p) {x : ℕ} (x-is : x ≡ k.pools.exists ! p.0) where
      pub get-missing : x ≡ 0 → some E_NOEXS ≡ first_refusal (get_mpf_refusals k pool timeout)
      get-missing e = after-timeout (missing-refused pool_kind pool made k.pools.exists (late ∷ []) is-some x-is e)

      module _ (there : x ≢ 0) {block : ℕ} (block-is : block ≡ free_block k p.0) {r : Bool} (r-is : r ≡ (no_time u (eqb block 0)).applies) where
        waits-is : eqb block 0 ≡ eqb (free_block k (number pool)) 0
        waits-is = rw ((numbered pool_kind pool made is-some).1, block-is)

        lately : {v : Option ℤ} → v ≡ first_refusal (late ∷ []) → v ≡ first_refusal (get_mpf_refusals k pool timeout)
        lately f = after-timeout (there-later pool_kind pool made k.pools.exists (late ∷ []) is-some x-is there f)

        pub get-late : r ≡ true → some E_TMOUT ≡ first_refusal (get_mpf_refusals k pool timeout)
        get-late e = lately (time-refused timeout (eqb (free_block k (number pool)) 0) u-is waits-is r-is [] e)

        pub get-allowed : r ≡ false → none ≡ first_refusal (get_mpf_refusals k pool timeout)
        get-allowed e = lately (time-later timeout (eqb (free_block k (number pool)) 0) u-is waits-is r-is [] e refl)

-- and what it does
module _ (pool timeout : ℤ) {b : ℤ} (b-is : b ≡ pool) {found : code.Option PoolNumber} (from : found ≡ maybe_pool (field_number b pools)) where
  named-pool : found ≡ maybe_pool (field_number pool pools)
  named-pool = rw b-is at from

  pub get-named : (k : Kernel) → first_refusal (get_mpf_refusals k pool timeout) ≡ none → found ≡ None → ⊥
  unfolding get_mpf_refusals bad_number
  get-named k e g = never-unnumbered pool_kind pool named-pool (get_mpf_refusals k pool timeout) 1 e refl g

  module _ {p : PoolNumber} (is-some : found ≡ Some p) where
    number_is : number pool ≡ p.0
    number_is = (numbered pool_kind pool named-pool is-some).1

    module _ {caller block : ℕ} {s log l1 : List ℕ} {at m : ℕ} (size : length s ≡ word_count) (runs : caller ≡ running (kernel s))
        (block-is : block ≡ free_block (kernel s) p.0) where
      pub gets-waiting : block ≡ 0 → Appends log at (answer_bytes Waits) l1 m → {n : ℕ} → n ≡ p.0 → {u : ℤ} → u ≡ timeout → {s' : List ℕ}
          → DoesInWords (λ w. wait w caller (queue getting n) 0 u) s s'
          → CarriesInWords caller (λ w. get_mpf w (number pool) timeout) s log at s' l1 (record { answer = Waits; next = m })
      gets-waiting e a n-is u-is d =
          in-words-as caller (λ store outbox. get-waits _ (number pool) timeout (rw number_is (sym block-is ∙ e)) ∙ rw (number_is, ← runs))
          (carried-in-words caller Waits Nothing _ size (answer-alone caller Waits a) (rw (n-is, u-is) at d))

      pub gets-block : block ≢ 0 → Appends log at (answer_bytes (Code E_OK)) l1 m → {l2 : List ℕ} {next : ℕ}
          → Appends l1 m (delivery_bytes caller (Block block)) l2 next → {s' : List ℕ} → Represents s' (with_taken (kernel s) (slot p.0 block) 1)
          → CarriesInWords caller (λ w. get_mpf w (number pool) timeout) s log at s' l2 (record { answer = Code E_OK; next = next })
      gets-block e a l r =
          in-words-as caller (λ store outbox. get-block _ (number pool) timeout (rw number_is (sym block-is)) e ∙ rw number_is)
          (carried-in-words caller (Code E_OK) (Block block) _ size (wrote-more (wrote a) (wrote l)) (changes-kernel (λ k. with_taken k (slot p.0 block) 1) r))
