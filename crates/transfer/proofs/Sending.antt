-- Where nobody sends a drain does nothing, on every state. Assumes nothing.
use Prim.Native.Nat.{ℕ}
use native.Mathlib.Decide.{ℕ_discrete}
use native.Mathlib.Omega.{arith}
use mathlib.Core.Path.{◌≡◌, ◌∙◌, refl, sym}
use mathlib.Core.Bool.{Bool, true, false, not, true≢false}
use mathlib.Core.List.{List}
use lib.Dec.{eqb}
use borrow.Author.Tests.{eq-eqb, not-true}
use Rattle.model.specs.Sizes.{tasks, buffers}
use Rattle.model.specs.Lists.{◌!◌, any, up_to}
use Rattle.model.specs.Facts.{queue, sending}
use Rattle.model.specs.World.{World, queue_front}
use Rattle.model.specs.Lent.{Areas}
use Rattle.model.specs.Act.{first_fits, store_first, drain}
use Rattle.model.specs.Words.{kernel}
use Rattle.model.proofs.ListLaws.{some-passes, member-count_from}
use Rattle.model.proofs.Folds.{numbers_keep}
use Rattle.model.proofs.ByCase.{serve-stop}
use Rattle.queue.proofs.Members.{front-stood}
use Rattle.act.specs.Held.{Does}
use Rattle.act.proofs.Doing.{world}
use Rattle.act.proofs.Loop.{stays}
use Rattle.transfer.specs.Serving.{served}

abbrev sends : List ℕ → ℕ → Bool
sends place t = eqb (place ! t) sending

-- ---- nobody sends

module _ (w : World) (nobody : any (sends w.kernel.tasks.place) (up_to tasks) ≡ false) where
  no-sender : (b : ℕ) → queue_front w.kernel (queue sending b) ≡ 0
  no-sender b = go (ℕ_discrete (queue_front w.kernel (queue sending b)) 0)
    where
      go : Dec (queue_front w.kernel (queue sending b) ≡ 0) → queue_front w.kernel (queue sending b) ≡ 0
      go (yes e) = e
      go (no d) =
          let s = front-stood w.kernel (queue sending b) d in
          let m = member-count_from 1 tasks (queue_front w.kernel (queue sending b)) s.low (omega (arith, s.high)) in
          absurd (true≢false (sym (some-passes (sends w.kernel.tasks.place) _ (up_to tasks) (eq-eqb _ _ s.place) m) ∙ nobody))

  serves-nobody : (b : ℕ) → served b w ≡ w
  serves-nobody b = serve-stop (λ u. first_fits u.kernel b) (λ u. store_first u b) w tasks (unfold first_fits in rw (no-sender b))

  drains-nobody : drain w ≡ w
  unfolding drain
  drains-nobody = numbers_keep (λ n v. v ≡ w) (λ v b. served b v) buffers (λ n v low high e. rw e (serves-nobody n)) w refl

pub drain-nothing : (a : Areas) (at : ℕ) {r : Bool} → r ≡ any (sends (kernel a.words).tasks.place) (up_to tasks) → not r ≡ true → Does drain a at a at
drain-nothing a at e n = stays a at (λ es. drains-nobody (world a es) (sym e ∙ not-true _ n))
