-- rel_mpf, in the order of the code's steps. Assumes nothing.
use Rattle.std.proofs.Math.Option.{some}
use Rattle.std.specs.Prelude.{None, Option, Some}
use Rattle.model.proofs.Terms.{ℕ, ◌≡◌, ◌∙◌, refl, sym, ◌≢◌, Bool, true, false, not, none, List, [], ◌∷◌, length, ℤ, ◌!◌, pools, E_OK, E_PAR, E_ID, E_NOEXS, number, queue, getting, Kernel, with_taken, slot, Nothing, Block, queue_front, end_wait, Refusal, refuse, first_refusal, bad_number, no_such, handed_out, rel_mpf_refusals, rel_mpf, kernel, word_count, answer_bytes}
use Rattle.model.specs.Number.{field_number, maybe_task, maybe_pool, PoolNumber, TaskNumber}
use Rattle.model.specs.declared.call.Answer.TheVariants.{Code}
use Rattle.model.proofs.NumberLaws.{pool_kind, task-is, task-is-none}
use Rattle.model.proofs.ByCase.{return-free, return-next}
use Rattle.state.specs.Words.{Represents}
use Rattle.script.specs.Place.{Appends}
use Rattle.act.specs.Held.{areas, DoesInLog}
use Rattle.act.proofs.Doing.{world, does, with-kernel}
use Rattle.reply.specs.Replies.{CarriesInLog}
use Rattle.reply.proofs.Refusing.{refused-here, refused-later, numbered, never-unnumbered, number-refused, missing-refused, there-later}
use Rattle.reply.proofs.Replying.{answer-alone, carried-in-log}

module _ (k : Kernel) (pool block : ℤ) {b : ℤ} (b-is : b ≡ pool) {found : Option PoolNumber} (from : found ≡ maybe_pool (field_number b pools)) where
  made : found ≡ maybe_pool (field_number pool pools)
  made = rw b-is at from

  abbrev kept : Refusal
  kept = refuse 7 E_PAR (not (handed_out k (number pool) block))

  pub return-numberless : found ≡ None → some E_ID ≡ first_refusal (rel_mpf_refusals k pool block)
  unfolding rel_mpf_refusals
  return-numberless e = number-refused pool_kind pool made (no_such k.pools.exists pool ∷ kept ∷ []) e

  module _ {p : PoolNumber} (is-some : found ≡ Some p) {x : ℕ} (x-is : x ≡ k.pools.exists ! p.0) where
    pub return-missing : x ≡ 0 → some E_NOEXS ≡ first_refusal (rel_mpf_refusals k pool block)
    unfolding rel_mpf_refusals
    return-missing e = missing-refused pool_kind pool made k.pools.exists (kept ∷ []) is-some x-is e

    module _ (there : x ≢ 0) {c : ℤ} (c-is : c ≡ block) {out : Bool} (out-is : out ≡ handed_out k p.0 c) where
      kept-is : kept.applies ≡ not out
      kept-is = rw ((numbered pool_kind pool made is-some).1, ← c-is, out-is)

      pub return_kept : not out ≡ true → some E_PAR ≡ first_refusal (rel_mpf_refusals k pool block)
      unfolding rel_mpf_refusals
      return_kept e = there-later pool_kind pool made k.pools.exists (kept ∷ []) is-some x-is there (refused-here kept [] (kept-is ∙ e))

      pub return-allowed : not out ≡ false → none ≡ first_refusal (rel_mpf_refusals k pool block)
      unfolding rel_mpf_refusals
      return-allowed e = there-later pool_kind pool made k.pools.exists (kept ∷ []) is-some x-is there (refused-later kept [] (kept-is ∙ e) refl)

  pub return_named : first_refusal (rel_mpf_refusals k pool block) ≡ none → found ≡ None → ⊥
  unfolding rel_mpf_refusals bad_number
  return_named e g = never-unnumbered pool_kind pool made (rel_mpf_refusals k pool block) 0 e refl g

-- and what it does: nobody waits, or the first waiter gets the block
module _ (b : ℕ) {p n : ℕ} {f : Option TaskNumber} {s o log : List ℕ} {at : ℕ} (e : n ≡ p) (f-is : f ≡ maybe_task (queue_front (kernel s) (queue getting n))) where
  pub gives-free : f ≡ None → {s' : List ℕ} → Represents s' (with_taken (kernel s) (slot p b) 0)
      → DoesInLog (λ w. (rel_mpf w p b).world) s o log at s' o log at
  gives-free g r =
      record {
        does = λ store. does λ l es h.
            rw (return-free (world (areas s store o log) es) p b (rw e at (task-is-none _ (sym f-is ∙ g)))) (with-kernel h r);
      }

  pub gives-next : {t : TaskNumber} → f ≡ Some t → {s' o' log' : List ℕ} {next : ℕ}
      → DoesInLog (λ w. end_wait w t.0 E_OK (Block b)) s o log at s' o' log' next → DoesInLog (λ w. (rel_mpf w p b).world) s o log at s' o' log' next
  gives-next {t} g d =
      let z = task-is _ t (sym f-is ∙ g) in
      record {
        does = λ store. does λ l es h.
            rw (return-next (world (areas s store o log) es) p b (rw e at (sym z.0)) (λ q. z.1 (sym z.0 ∙ q))) ((d.does store).holds l _ h);
      }

pub returns-block : (pool block : ℤ) {b c : ℤ} → b ≡ pool → c ≡ block → {found : Option PoolNumber} {p : PoolNumber} → found ≡ maybe_pool (field_number b pools)
    → found ≡ Some p → (caller : ℕ) {s o log l1 s' o' log' : List ℕ} {at m next x : ℕ} → length s ≡ word_count
    → Appends log at (answer_bytes (Code E_OK)) l1 m → x ≡ number c → DoesInLog (λ w. (rel_mpf w p.0 x).world) s o l1 m s' o' log' next
    → CarriesInLog caller (λ w. rel_mpf w (number pool) (number block)) s o log at s' o' log' (record { answer = Code E_OK; next = next })
unfolding rel_mpf
returns-block pool block b-is c-is from is-some caller h a x-is d =
    carried-in-log caller (Code E_OK) Nothing (λ w. (rel_mpf w (number pool) (number block)).world) h (answer-alone caller (Code E_OK) a)
    (rw ((numbered pool_kind pool (rw b-is at from) is-some).1, ← c-is, ← x-is) d)
