-- What befalls one task, in the order of the code's steps: it becomes dormant, it joins its queue anew, a millisecond of its wait passes. Assumes nothing.
use Prim.Native.Nat.{ℕ, ◌-◌, pred}
use native.Mathlib.Omega.{arith}
use mathlib.Core.Path.{◌≡◌, ◌∙◌, refl, sym}
use mathlib.Core.Bool.{Bool, true, false, ◌&&◌}
use mathlib.Core.List.{List}
use mathlib.Core.Logic.{◌≢◌}
use lib.ListN.{length}
use lib.Dec.{eqb}
use Rattle.model.specs.Sizes.{endless}
use Rattle.model.specs.Lists.{◌!◌}
use Rattle.model.specs.Code.{E_TMOUT}
use Rattle.model.specs.Facts.{queue, dormant}
use Rattle.model.specs.Queue.{by_priority}
use Rattle.model.specs.Kernel.{with_arrivals, with_place, with_base, with_left, departed, arrived, facts}
use Rattle.model.specs.World.{Nothing, with_kernel, with_outbox, recompute}
use Rattle.model.specs.Act.{settled, leave, end_wait, release_all, become_dormant}
use Rattle.model.specs.Effect.{arrives_anew, rejoin, tick_task}
use Rattle.model.specs.Words.{word_count, kernel}
use Rattle.model.proofs.ByCase.{tick-none, tick-endless, tick-last, tick-more}
use Rattle.state.specs.Words.{Represents}
use Rattle.act.specs.Held.{areas, DoesInLog}
use Rattle.act.specs.Ends.{Leaves, retired, Retires}
use Rattle.act.proofs.Doing.{world, does, with-kernel}
use Rattle.act.proofs.Loop.{stays}

module _ {t p : ℕ} {s s1 s2 s3 s4 s5 o o1 : List ℕ} where
  pub retires : Leaves t s o s1 o1 → Represents s2 (with_arrivals (kernel s1) (departed t (kernel s1).arrivals))
      → Represents s3 (with_place (kernel s2) t dormant) → p ≡ (kernel s3).tasks.initial ! t → Represents s4 (with_base (kernel s3) t p)
      → Represents s5 (recompute (kernel s4)) → Retires t s o s5 o1
  unfolding retired
  retires l a b e c r = record { state = record { length = r.length; kernel = cc }; outbox = l.outbox }

module _ (t : ℕ) {s s1 s' o o1 o' log log' : List ℕ} {at next : ℕ} where
  pub becomes-dormant : Retires t s o s1 o1 → DoesInLog (λ w. release_all w t) s1 o1 log at s' o' log' next
      → DoesInLog (λ w. become_dormant w t) s o log at s' o' log' next
  unfolding become_dormant leave settled retired with_kernel with_outbox
  becomes-dormant r d =
      record {
        does = λ store. does λ l es h.
            (d.does store).holds l _ (record { state = r.state; store = refl; outbox = r.outbox; log = h.log });
      }

module _ (t : ℕ) (s : List ℕ) {place object current base : ℕ} {r : Bool} (p : place ≡ (kernel s).tasks.place ! t) (o : object ≡ (kernel s).tasks.object ! t)
    (c : current ≡ (kernel s).tasks.current ! t) (b : base ≡ (kernel s).tasks.base ! t) (e : r ≡ by_priority (facts (kernel s)) (queue place object)) where
  by_place : by_priority (facts (kernel s)) (queue ((kernel s).tasks.place ! t) ((kernel s).tasks.object ! t)) ≡ r
  by_place = rw (← p, ← o) (sym e)

  pub rejoins : {s' : List ℕ} → r && eqb current base ≡ true → Represents s' (with_arrivals (kernel s) (arrived t (kernel s).arrivals)) → Represents s' (rejoin (kernel s) t)
  unfolding arrives_anew rejoin
  rejoins g a = rw (by_place, ← c, ← b, g) a

  pub rejoins-not : length s ≡ word_count → r && eqb current base ≡ false → Represents s (rejoin (kernel s) t)
  unfolding arrives_anew rejoin
  rejoins-not h g = record { length = h; kernel = rw (by_place, ← c, ← b, g) }

module _ (t : ℕ) {n : ℕ} {s o log : List ℕ} {at : ℕ} (e : n ≡ (kernel s).tasks.left ! t) where
  pub ticks-none : n ≡ 0 → DoesInLog (λ w. tick_task w t) s o log at s o log at
  ticks-none z = record { does = λ store. stays (areas s store o log) at (λ es. tick-none (world (areas s store o log) es) t (sym e ∙ z)) }

  pub ticks-endless : n ≡ endless → DoesInLog (λ w. tick_task w t) s o log at s o log at
  ticks-endless z = record { does = λ store. stays (areas s store o log) at (λ es. tick-endless (world (areas s store o log) es) t (sym e ∙ z)) }

  pub ticks-last : n ≡ 1 → {s' o' log' : List ℕ} {next : ℕ} → DoesInLog (λ w. end_wait w t E_TMOUT Nothing) s o log at s' o' log' next
      → DoesInLog (λ w. tick_task w t) s o log at s' o' log' next
  ticks-last z d =
      record {
        does = λ store. does λ l es h. rw (tick-last (world (areas s store o log) es) t (sym e ∙ z)) ((d.does store).holds l _ h);
      }

  pub ticks-more : n ≢ 0 → n ≢ endless → n ≢ 1 → {s' : List ℕ} → Represents s' (with_left (kernel s) t (n - 1))
      → DoesInLog (λ w. tick_task w t) s o log at s' o log at
  ticks-more h i j a =
      let less : n - 1 ≡ pred ((kernel s).tasks.left ! t) = rw (← e) (omega arith) in
      record {
        does = λ store. does λ l es g.
            rw (tick-more (world (areas s store o log) es) t (λ q. h (e ∙ q)) (λ q. j (e ∙ q)) (λ q. i (e ∙ q))) (with-kernel g (rw less at a));
      }
