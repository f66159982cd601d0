-- The step on lent words is the step on the kernel that they hold, where the words are a state's. Assumes nothing.
use mathlib.Core.Path.{◌≡◌, ◌∙◌, refl}
use mathlib.Core.Bool.{Bool, true, false}
use mathlib.Core.List.{List}
use lib.ListN.{length}
use borrow.Author.Tests.{eq-eqb}
use Rattle.model.specs.declared.call.Call.{Call}
use Rattle.model.specs.Sizes.{log_bytes}
use Prim.Native.Nat.{ℕ}
use Rattle.model.specs.Code.{E_SYS}
use Rattle.model.specs.Valid.{valid}
use Rattle.model.specs.Step.{refused, step}
use Rattle.model.specs.Log.{delivery_bytes, outcome_log}
use Rattle.model.specs.Words.{word_count}
use Rattle.model.specs.Lent.{Areas, lent, is_valid, not_valid, returned, lent_step}
use Rattle.model.proofs.ByCase.{lent-valid, lent-not-valid, step-valid, step-not-valid}
use Rattle.state.proofs.WordLaws.{words-kernel}

module _ (a : Areas) (c : Call) (bytes : List ℕ) (long : length a.words ≡ word_count) (log : length a.log ≡ log_bytes) where
  by-valid : is_valid a.words a.store a.outbox ≡ valid (lent a.words a.store a.outbox)
  unfolding is_valid
  by-valid = rw (eq-eqb _ _ long)

  -- a refusal for order 1 leaves the words
  not-valid-returned : not_valid a ≡ returned a (refused (lent a.words a.store a.outbox) E_SYS 0)
  unfolding not_valid returned refused outcome_log delivery_bytes
  not-valid-returned = rw (words-kernel a.words long)

  pub lent-step : lent_step a c bytes ≡ returned a (step (lent a.words a.store a.outbox) c bytes)
  lent-step = go (valid (lent a.words a.store a.outbox)) refl
    where
      go : (b : Bool) → valid (lent a.words a.store a.outbox) ≡ b → lent_step a c bytes ≡ returned a (step (lent a.words a.store a.outbox) c bytes)
      go true e = lent-valid a c bytes log (by-valid ∙ e) ∙ rw (step-valid (lent a.words a.store a.outbox) c bytes e)
      go false e =
          lent-not-valid a c bytes log (by-valid ∙ e) ∙ not-valid-returned ∙ rw (step-not-valid (lent a.words a.store a.outbox) c bytes e)
