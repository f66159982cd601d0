-- What is the same for every kind of object: nobody waits for one that is not there; and where one is deleted, waits end.
use mathlib.Core.Logic.{⊎_elim}
use Rattle.model.proofs.Terms.{ℕ, ◌≤◌, arith, ◌≡◌, ◌∙◌, sym, ◌≢◌, true, false≢true, List, ◌++◌, tasks, ◌!◌, member, Queue, ready, locking, Kernel, World, queue_order, Each}
use Rattle.model.proofs.ListLaws.{member-append}
use Rattle.queue.proofs.Members.{of-queue, queue-has}
use Rattle.invariant.specs.Invariant.{Steady}
use Rattle.invariant.proofs.Ends.{Started, Left}

-- by the list of which objects are there
pub nobody-awaits : (k : Kernel) (exists : List ℕ) (place n : ℕ) → exists ! n ≡ 0 → Each tasks (λ u. k.tasks.place ! u ≡ place → exists ! (k.tasks.object ! u) ≡ 1)
    → Each tasks (λ u. k.tasks.place ! u ≡ place → k.tasks.object ! u ≢ n)
nobody-awaits k exists place n e there u i j p o = let h : exists ! n ≡ 1 = rw o at (there u i j p) in omega arith

-- an object's queue: all there are started, and once their waits have ended nobody is left
module _ {w : World} (s : Steady 0 w) (q : Queue) (waiting : locking ≤ q.place) where
  pub all-started : (u : ℕ) → member u (queue_order w.kernel q) ≡ true → Started w.kernel u
  all-started u m = let f = of-queue w.kernel q u m in record { low = f.low; high = f.high; started = omega (arith, f.place) }

  pub nobody-left : {ts : List ℕ} {v : World} → Left ts w v → ((u : ℕ) → member u (queue_order w.kernel q) ≡ true → member u ts ≡ true)
      → Each tasks (λ u. v.kernel.tasks.place ! u ≡ q.place → v.kernel.tasks.object ! u ≢ q.object)
  nobody-left {v} left among u i j p o =
      let r = left.stays u (λ (z : v.kernel.tasks.place ! u ≡ ready). omega arith) in
      false≢true (sym r.not-among ∙ among u (queue-has w.kernel s.invariant.of_tasks.listing q (omega arith) u i j (r.place ∙ p) (r.object ∙ o)))

pub both-started : {w : World} → Steady 0 w → (q r : Queue) → locking ≤ q.place → locking ≤ r.place
    → (u : ℕ) → member u (queue_order w.kernel q ++ queue_order w.kernel r) ≡ true → Started w.kernel u
both-started {w} s q r a b u m = ⊎_elim (all-started s q a u) (all-started s r b u) (member-append u (queue_order w.kernel q) (queue_order w.kernel r) m)
