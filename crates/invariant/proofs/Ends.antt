-- Several waits end; and an object is struck out while tasks wait for it. Ending the waits first and striking it out then gives the same world, so nothing
-- but the object's own part has to be looked at.
use Rattle.model.proofs.Terms.{Tasks, Mutexes, Buffers, Pools, with_ended, with_kernel, leave, arrive, recompute_if, ready_queue, leave_outbox, ℕ, suc, ◌≤◌, ◌<◌, ℕ_discrete, arith, ◌≡◌, ◌∙◌, refl, sym, ap, subst, ◌≢◌, Bool, true, false, List, [], ◌∷◌, foldl, length, set, length-set, set-set, get_or-set_same, get_or-set_other, eqb, eq-eqb, ne_eqb, tasks, ◌!◌, member, ready, locking, Kernel, facts, stands_in, World, Nothing, recompute, settled, end_wait, end_waits, Priorities, Bitmap}
use lib.IntN.{ℤ}
use Rattle.model.proofs.ByCase.{recompute-only}
use Rattle.model.proofs.ListLaws.{or_left, or_right}
use Rattle.ready.proofs.KeptLaws.{ends-right}
use Rattle.priority.proofs.SettledLaws.{needless}
use Rattle.invariant.specs.Rows.{open_tasks, open_end}
use Rattle.invariant.specs.Invariant.{Invariant, Steady}
use Rattle.invariant.proofs.Exchange.{inside}
use Rattle.invariant.proofs.Waits.{steady-settled, priorities-ended, ended}

-- ---- several waits end

-- one of them, as a step of the loop
abbrev pub end_one : ℤ → World → ℕ → World
end_one c w t = end_wait w t c Nothing

module _ (w : World) (t : ℕ) (c : ℤ) where
  pub ended-place : (end_one c w t).kernel.tasks.place ≡ set w.kernel.tasks.place t ready
  unfolding open_end
  ended-place = ap (λ (k : Kernel). k.tasks.place) (recompute-only _ _)

  pub ended-object : (end_one c w t).kernel.tasks.object ≡ set w.kernel.tasks.object t 0
  unfolding open_end
  ended-object = ap (λ (k : Kernel). k.tasks.object) (recompute-only _ _) ∙ set-set w.kernel.tasks.object t 0 0

-- tasks that are started
pub record Started (k : Kernel) (u : ℕ) : Type 0 where
  pub low : 1 ≤ u
  pub high : u ≤ tasks
  pub started : ready ≤ k.tasks.place ! u

-- who is not ready after some waits have ended stands where it stood, and is not among them
pub record Stays (ts : List ℕ) (w v : World) (u : ℕ) : Type 0 where
  pub place : w.kernel.tasks.place ! u ≡ v.kernel.tasks.place ! u
  pub object : w.kernel.tasks.object ! u ≡ v.kernel.tasks.object ! u
  pub not-among : member u ts ≡ false

pub record Left (ts : List ℕ) (w v : World) : Type 0 where
  pub steady : Steady 0 v
  pub stays : (u : ℕ) → v.kernel.tasks.place ! u ≢ ready → Stays ts w v u

-- and what the end of each keeps is so after them
module _ (c : ℤ) (P : World → Type 0) (turn : (w : World) (t : ℕ) → Steady 0 w → Started w.kernel t → P w → P (end_one c w t)) where
  pub waits-ended : (ts : List ℕ) (w : World) → Steady 0 w → ((u : ℕ) → member u ts ≡ true → Started w.kernel u) → P w
      → Left ts w (end_waits w ts c) × P (end_waits w ts c)
  unfolding end_waits
  waits-ended [] w s h p = (record { steady = s; stays = λ u n. record { place = refl; object = refl; not-among = refl } }, p)
  waits-ended (t ∷ ts) w s h p =
      let g = h t (or_left (eqb t t) _ (eq-eqb t t refl)) in
      let l = inside s.invariant.of_tasks.lists.place g.high in
      let r = waits-ended ts v (ended s t g.low g.high c Nothing (omega (arith, g.started))) (λ u m. still l u (h u (or_right (eqb u t) _ m))) (turn w t s g p) in
      (record { steady = r.0.steady; stays = λ u n. back l u n (r.0.stays u n) }, r.1)
    where
      v : World
      v = end_one c w t

      here : t < length w.kernel.tasks.place → v.kernel.tasks.place ! t ≡ ready
      here l = ap (λ (xs : List ℕ). xs ! t) (ended-place w t c) ∙ get_or-set_same w.kernel.tasks.place t ready 0 l

      there : (u : ℕ) → u ≢ t → v.kernel.tasks.place ! u ≡ w.kernel.tasks.place ! u
      there u d = ap (λ (xs : List ℕ). xs ! u) (ended-place w t c) ∙ get_or-set_other w.kernel.tasks.place t u ready 0 d

      still : t < length w.kernel.tasks.place → (u : ℕ) → Started w.kernel u → Started v.kernel u
      still l u h =
          record { low = h.low; high = h.high; started = elim (ℕ_discrete u t) [ yes e ↦ rw (e, here l) (omega arith) | no n ↦ rw (there u n) h.started ] }

      back : t < length w.kernel.tasks.place → (u : ℕ) {last : World} → last.kernel.tasks.place ! u ≢ ready → Stays ts v last u → Stays (t ∷ ts) w last u
      back l u n r =
          elim (ℕ_discrete u t) [
            | yes e ↦ absurd (n (sym r.place ∙ ap (λ (x : ℕ). v.kernel.tasks.place ! x) e ∙ here l))
            | no d ↦
                record {
                  place = sym (there u d) ∙ r.place;
                  object = sym (ap (λ (xs : List ℕ). xs ! u) (ended-object w t c) ∙ get_or-set_other w.kernel.tasks.object t u 0 0 d) ∙ r.object;
                  not-among = rw (ne_eqb u t d) r.not-among;
                }
          ]

-- ---- an object is struck out

-- Objects and the store exchanged by any functions, and current priorities and the bits by lists: a wait ends before or after that alike, up to priorities and bits.
abbrev pub exchanged : List ℕ → List ℕ → (Mutexes → Mutexes) → (Buffers → Buffers) → (Pools → Pools) → (List ℕ → List ℕ) → World → World
exchanged current bits m b p store w =
    let k = w.kernel in
    let x = k.tasks in
    let now : Tasks = record { place = x.place; object = x.object; argument = x.argument; initial = x.initial; base = x.base; current = current; left = x.left } in
    record {
      kernel = record { tasks = now; arrivals = k.arrivals; bitmap = bits; mutexes = m k.mutexes; buffers = b k.buffers; pools = p k.pools };
      store = store w.store;
      outbox = w.outbox;
      ended = w.ended;
    }

module _ (m : Mutexes → Mutexes) (b : Buffers → Buffers) (p : Pools → Pools) (store : List ℕ → List ℕ) (c : ℤ) where
  exchanged-step : (current bits : List ℕ) (w : World) (t : ℕ)
      → let v = end_one c (exchanged current bits m b p store w) t in v ≡ exchanged v.kernel.tasks.current v.kernel.bitmap m b p store (end_one c w t)
  unfolding leave_outbox recompute open_end
  exchanged-step current bits w t =
      let over : Bool → World → World = λ x v. with_ended (with_kernel (leave v t) (recompute_if x (arrive (leave v t).kernel t ready_queue))) t c Nothing in
      let v = exchanged current bits m b p store w in
      elim (eqb (w.kernel.tasks.place ! t) locking) as (λ x. over x v ≡ exchanged (over x v).kernel.tasks.current (over x v).kernel.bitmap m b p store (over x w))
      [ true ↦ unfold recompute_if in refl | false ↦ unfold recompute_if in refl ]

  exchanged-fold : (ts current bits : List ℕ) (w : World)
      → (current' : List ℕ) × (bits' : List ℕ) × (foldl (end_one c) (exchanged current bits m b p store w) ts ≡ exchanged current' bits' m b p store (foldl (end_one c) w ts))
  exchanged-fold [] current bits w = (current, bits, refl)
  exchanged-fold (t ∷ ts) current bits w =
      let r = exchanged-fold ts _ _ (end_one c w t) in
      (r.0, r.1, ap (λ (v : World). foldl (end_one c) v ts) (exchanged-step current bits w t) ∙ r.2)

-- a world whose priorities are the effective ones and whose bits are right is settled already
settled_same : (w : World) → Priorities w.kernel → Bitmap w.kernel → settled w ≡ w
unfolding settled with_kernel
settled_same w h b = ap (with_kernel w) (needless w.kernel h b)

priorities-fold : (c : ℤ) (ts : List ℕ) (w : World) → length w.kernel.tasks.place ≡ suc tasks → ((u : ℕ) → member u ts ≡ true → (1 ≤ u) × (u ≤ tasks))
    → Priorities w.kernel → Priorities (foldl (end_one c) w ts).kernel
priorities-fold c [] w l h p = p
priorities-fold c (t ∷ ts) w l h p =
    let g = h t (or_left (eqb t t) _ (eq-eqb t t refl)) in
    priorities-fold c ts (end_one c w t) (ap length (ended-place w t c) ∙ length-set w.kernel.tasks.place t ready ∙ l) (λ u m. h u (or_right (eqb u t) _ m))
    (priorities-ended w t c Nothing g.0 (omega arith) p)

-- `strike` takes an object away, and `first` is the world in which the waits end: they differ in priorities and bits at most
module _ (m : Mutexes → Mutexes) (b : Buffers → Buffers) (p : Pools → Pools) (store : List ℕ → List ℕ) where
  abbrev pub strike : World → World
  strike w = exchanged w.kernel.tasks.current w.kernel.bitmap m b p store w

  module _ (c : ℤ) (ts : List ℕ) (w first : World) (same : settled first ≡ settled (strike w)) where
    pub struck-alike : settled (end_waits first ts c) ≡ settled (strike (end_waits w ts c))
    unfolding end_waits settled with_kernel recompute facts stands_in open_tasks
    struck-alike =
        let now = first.kernel.tasks.current in
        let bits = first.kernel.bitmap in
        let is : first ≡ exchanged now bits m b p store w = ap (exchanged now bits (λ x. x) (λ x. x) (λ x. x) (λ x. x)) same in
        ap (λ (v : World). settled (foldl (end_one c) v ts)) is ∙ ap settled (exchanged-fold m b p store c ts now bits w).2

    pub struck-out : Priorities first.kernel → Bitmap first.kernel → first.kernel.tasks.place ≡ w.kernel.tasks.place → Steady 0 w
        → ((u : ℕ) → member u ts ≡ true → Started w.kernel u)
        → (Left ts w (end_waits w ts c) → Invariant 0 (strike (end_waits w ts c)).kernel (strike (end_waits w ts c)).store (strike (end_waits w ts c)).outbox)
        → Steady 0 (end_waits first ts c)
    unfolding end_waits with_kernel
    struck-out priorities bitmap places s started kept =
        let long = ap length places ∙ s.invariant.of_tasks.lists.place.long in
        let same = settled_same _ (priorities-fold c ts first long (λ u m. let g = started u m in (g.low, g.high)) priorities) (ends-right first ts c bitmap) in
        subst (Steady 0) (sym struck-alike ∙ same)
        (steady-settled (strike (end_waits w ts c)) (kept (waits-ended c (λ v. Unit) (λ v t h g p. tt) ts w s started tt).0))
