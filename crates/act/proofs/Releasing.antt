-- A mutex is given up, and all that a task holds, in the order of the code's steps. Assumes nothing.
use Rattle.std.specs.Prelude.{None, Option, Some}
use Prim.Native.Nat.{ℕ}
use native.Mathlib.Omega.{arith}
use mathlib.Core.Path.{◌≡◌, ◌∙◌, refl, sym}
use mathlib.Core.List.{List}
use lib.ListN.{length}
use mathlib.Core.Logic.{◌≢◌}
use borrow.Author.Tests.{eq-eqb, ne_eqb}
use Rattle.model.specs.Sizes.{mutexes}
use Rattle.model.specs.Lists.{◌!◌, up_to}
use Rattle.model.specs.Code.{E_OK}
use Rattle.model.specs.Number.{word_number, maybe_task, maybe_mutex, MutexNumber, TaskNumber}
use Rattle.model.specs.Facts.{queue, locking, ceilinged}
use Rattle.model.specs.Kernel.{with_holder}
use Rattle.model.specs.World.{Nothing, with_kernel, queue_front, recompute}
use Rattle.model.specs.Act.{settled, end_wait, release, release_all}
use Rattle.model.specs.Valid.{Arrivals, Priorities, Bitmap}
use Rattle.model.specs.Words.{word_count, kernel}
use Rattle.model.proofs.NumberLaws.{task-is, task-is-none, mutex-there}
use Rattle.model.proofs.ByCase.{release-free, release-next}
use Rattle.state.specs.Words.{Represents}
use Rattle.state.proofs.WordLaws.{places-long, arrivals-long}
use Rattle.queue.proofs.Listing.{listing-from}
use Rattle.queue.proofs.Members.{nobody-there}
use Rattle.priority.proofs.SettledLaws.{holder-settled}
use Rattle.act.specs.Held.{areas, DoesInLog}
use Rattle.act.specs.Ends.{release_held}
use Rattle.act.proofs.Doing.{world, does, with-kernel}
use Rattle.act.proofs.Loop.{LeftInLog, over, in-log-all, stays}

module _ {m n : ℕ} {f : Option TaskNumber} {s s1 o log : List ℕ} {at : ℕ} (e : n ≡ m) (f-is : f ≡ maybe_task (queue_front (kernel s) (queue locking n))) where
  pub releases-free : f ≡ None → Represents s1 (with_holder (kernel s) m 0) → {s' : List ℕ} → Represents s' (recompute (kernel s1))
      → DoesInLog (λ w. release w m) s o log at s' o log at
  unfolding settled with_kernel
  releases-free g a b =
      record {
        does = λ store. does λ l es h.
            rw (release-free (world (areas s store o log) es) m (rw e at (task-is-none _ (sym f-is ∙ g))))
            (record { state = rw a.kernel at b; store = refl; outbox = refl; log = h.log });
      }

  -- no priority changes, where they are settled and all that wait are listed
  pub releases-quiet : length s ≡ word_count → Priorities (kernel s) → Bitmap (kernel s) → Arrivals (kernel s) → f ≡ None → {a : ℕ} → a ≡ (kernel s).mutexes.attribute ! m
      → a ≢ ceilinged → Represents s1 (with_holder (kernel s) m 0) → DoesInLog (λ w. release w m) s o log at s1 o log at
  releases-quiet h settled right arrivals g a-is d r =
      let listing = listing-from (kernel s) (places-long s h) (arrivals-long s h) arrivals in
      releases-free g r
      (holder-settled s h settled right m 0 a-is d (nobody-there (kernel s) listing (queue locking m) (omega arith) (rw e at (task-is-none _ (sym f-is ∙ g)))) r)

  pub releases-next : {t : TaskNumber} {u : ℕ} → f ≡ Some t → u ≡ t.0 → Represents s1 (with_holder (kernel s) m u)
      → {s' o' log' : List ℕ} {next : ℕ} → DoesInLog (λ w. end_wait w t.0 E_OK Nothing) s1 o log at s' o' log' next
      → DoesInLog (λ w. release w m) s o log at s' o' log' next
  releases-next {t} g u-is a d =
      let z = task-is _ t (sym f-is ∙ g) in
      record {
        does = λ store. does λ l es h.
            rw (release-next (world (areas s store o log) es) m (rw e at (sym z.0)) (λ r. z.1 (sym z.0 ∙ r)))
            ((d.does store).holds l _ (with-kernel h (rw u-is at a)));
      }

module _ (t n : ℕ) {f : Option MutexNumber} {m : MutexNumber} {holder u : ℕ} {s o log : List ℕ} {at : ℕ} (f-is : f ≡ maybe_mutex (word_number n mutexes))
    (f-mutex : f ≡ Some m) (h-is : holder ≡ (kernel s).mutexes.holder ! m.0) (u-is : u ≡ t) where
  pub held-not : holder ≢ u → DoesInLog (release_held t n) s o log at s o log at
  unfolding release_held
  held-not g =
      let same = (mutex-there n m (sym f-is ∙ f-mutex)).0 in
      record {
        does = λ store. stays (areas s store o log) at (λ es. rw (ne_eqb _ t (λ q. g (h-is ∙ rw same (q ∙ sym u-is)))));
      }

  pub held-released : holder ≡ u → {s' o' log' : List ℕ} {next : ℕ} → DoesInLog (λ w. release w m.0) s o log at s' o' log' next
      → DoesInLog (release_held t n) s o log at s' o' log' next
  unfolding release_held
  held-released g d =
      let same = (mutex-there n m (sym f-is ∙ f-mutex)).0 in
      record {
        does = λ store. does λ l es h.
            rw (eq-eqb ((kernel s).mutexes.holder ! n) t (rw same at (sym h-is ∙ g ∙ u-is))) (rw same at ((d.does store).holds l _ h));
      }

-- all that a task holds, one after the other
pub releasing : (t : ℕ) {s o log : List ℕ} {at : ℕ} → length s ≡ word_count
    → LeftInLog (λ w. release_all w t) (over (release_held t) (up_to mutexes)) s o log at s o log at
unfolding release_all release_held
releasing t h = in-log-all h
