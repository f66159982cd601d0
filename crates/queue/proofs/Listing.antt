-- The clause on arrivals, over the places of tasks and the list alone, and that it stays true when a task arrives or departs. Assumes nothing.
use mathlib.Core.Bool.{and-eq-true_iff}
use Rattle.model.proofs.Terms.{ℕ, suc, ◌≤◌, ◌<◌, add-zero, ℕ_discrete, dec_le, arith, ◌≡◌, ◌∙◌, refl, sym, ap, subst, ◌≢◌, Bool, true, false, not, cond, List, [], ◌∷◌, ◌++◌, length, set, length-append, length-replicate, length-set, length-take, get_or-set_same, get_or-set_other, eqb, leb, ltb, eq-eqb, ne_eqb, eqb-true, le-leb, lt-leb, leb-true, lt-ltb, tasks, ◌!◌, padded, select, member, occurrences, ready, Kernel, others, departed, arrived, Arrivals}
use Rattle.model.proofs.ListLaws.{member-counted, entry-inside, entry-member, member-entry, select-every, without-none}
use Rattle.queue.proofs.ArrivalLaws.{select-append, select-padded, length-others, select-others, member-select, Listed, others-gone, room}

-- A started task stands in the list once, no other number but 0, and zeros stand last.
pub record Listing (place ts : List ℕ) : Type 0 where
  pub wide : length place ≡ suc tasks
  pub size : length ts ≡ tasks
  pub count : (u : ℕ) → u ≢ 0 → occurrences u ts ≡ cond (leb ready (place ! u)) 1 0
  pub packed : ts ≡ padded tasks (select (λ u. not (eqb u 0)) ts)

one-if : (b : Bool) → (ltb 0 (cond b 1 0) ≡ b) × (cond b 1 0 ≤ 1)
one-if true = (refl, omega arith)
one-if false = (refl, omega arith)

module _ {place ts : List ℕ} (g : Listing place ts) where
  member_is : (u : ℕ) → u ≢ 0 → member u ts ≡ leb ready (place ! u)
  member_is u z = member-counted u ts ∙ ap (ltb 0) (g.count u z) ∙ (one-if (leb ready (place ! u))).0

  pub is-started : (u : ℕ) → u ≢ 0 → member u ts ≡ true → ready ≤ place ! u
  is-started u z m = leb-true ready (place ! u) (sym (member_is u z) ∙ m)

  pub is-listed : (u : ℕ) → u ≢ 0 → ready ≤ place ! u → member u ts ≡ true
  is-listed u z h = member_is u z ∙ le-leb ready (place ! u) h

  pub listed : Listed ts
  listed = record { once = λ u z. rw (g.count u z) (one-if (leb ready (place ! u))).1; range = λ u m. in-range u m (ℕ_discrete u 0) }
    where
      in-range : (u : ℕ) → member u ts ≡ true → Dec (u ≡ 0) → u ≤ tasks
      in-range u m (yes z) = omega arith
      in-range u m (no z) = let h = is-started u z m in omega (arith, g.wide, entry-inside place u (λ e. omega arith))

  pub room-left : (t : ℕ) → 1 ≤ t → t ≤ tasks → length (others t ts) < length ts
  room-left t low high = omega (arith, g.size, room t low high ts listed)

-- ---- to and from the clause

pub listing-from : (k : Kernel) → length k.tasks.place ≡ suc tasks → length k.arrivals ≡ tasks → Arrivals k
    → Listing k.tasks.place k.arrivals
unfolding Arrivals
listing-from k wide size a =
    record { wide = wide; size = size; count = λ u z. counted u z (dec_le ready (place ! u)) (ℕ_discrete (occurrences u ts) 0); packed = a.2 }
  where
    place : List ℕ
    place = k.tasks.place

    ts : List ℕ
    ts = k.arrivals

    counted : (u : ℕ) → u ≢ 0 → Dec (ready ≤ place ! u) → Dec (occurrences u ts ≡ 0) → occurrences u ts ≡ cond (leb ready (place ! u)) 1 0
    counted u z (yes h) d = rw (le-leb ready (place ! u) h) (a.0 u (omega arith) (omega (arith, entry-inside place u (λ e. omega arith))) h)
    counted u z (no h) (yes e) = rw (lt-leb ready (place ! u) (omega arith)) e
    counted u z (no h) (no d) =
        let i = member-entry u ts (member-counted u ts ∙ lt-ltb 0 (occurrences u ts) (omega arith)) in
        absurd (h (subst (λ (v : ℕ). ready ≤ place ! v) i.1 (a.1 i.0 (λ e. z (sym i.1 ∙ e)))))

pub listing-to : (k : Kernel) → Listing k.tasks.place k.arrivals → Arrivals k
unfolding Arrivals
listing-to k g = (
  (λ u low high h. g.count u (λ e. omega arith) ∙ rw (le-leb ready (k.tasks.place ! u) h)),
  (λ i z. is-started g (k.arrivals ! i) z (entry-member k.arrivals i z)),
  g.packed,
)

-- ---- a task changes its place

module _ {place ts : List ℕ} (g : Listing place ts) (t p : ℕ) (low : 1 ≤ t) (high : t ≤ tasks) where
  -- another list, that has the other tasks as often, and the task if it is started now
  abbrev KeepsOthers : List ℕ → Type 0
  KeepsOthers us = (u : ℕ) → u ≢ 0 → u ≢ t → occurrences u us ≡ occurrences u ts

  abbrev HasTask : List ℕ → Type 0
  HasTask us = occurrences t us ≡ cond (leb ready p) 1 0

  exchanged : (us : List ℕ) → length us ≡ tasks → us ≡ padded tasks (select (λ u. not (eqb u 0)) us) → KeepsOthers us → HasTask us
      → Listing (set place t p) us
  exchanged us size packed same at =
      record { wide = rw length-set g.wide; size = size; count = λ u z. counted u z (ℕ_discrete u t); packed = packed }
    where
      counted : (u : ℕ) → u ≢ 0 → Dec (u ≡ t) → occurrences u us ≡ cond (leb ready (set place t p ! u)) 1 0
      counted u z (yes q) = rw (q, get_or-set_same place t p 0 (omega (arith, g.wide))) at
      counted u z (no d) = rw (get_or-set_other place t u p 0 d) (same u z d ∙ g.count u z)

  -- the list stays where the task was started before and is after, or neither
  pub same-listing : leb ready (place ! t) ≡ leb ready p → Listing (set place t p) ts
  same-listing e = exchanged ts g.size g.packed (λ u z d. refl) (rw (← e) (g.count t (λ z. omega arith)))

  refilled : (us : List ℕ) → length us ≤ length ts → select (λ u. not (eqb u 0)) us ≡ us → KeepsOthers us → HasTask us
      → Listing (set place t p) (padded (length ts) us)
  refilled us short given same at =
      exchanged (padded (length ts) us)
      (rw (length-take, length-append, length-replicate) (omega (arith, g.size)))
      (rw (select-padded (λ u. not (eqb u 0)) (length ts) us refl short, given, g.size))
      (λ u z d. count u z ∙ same u z d) (count t (λ z. omega arith) ∙ at)
    where
      count : (u : ℕ) → u ≢ 0 → occurrences u (padded (length ts) us) ≡ occurrences u us
      count u z = ap length (select-padded (eqb u) (length ts) us (ne_eqb u 0 z) short)

  others-given : select (λ u. not (eqb u 0)) (others t ts) ≡ others t ts
  unfolding others
  others-given = select-every (λ u. not (eqb u 0)) (others t ts) (λ u m. ((and-eq-true_iff _ _).0 (member-select _ u ts m).0).0)

  others_same : KeepsOthers (others t ts)
  others_same u z d =
      ap length (select-others (eqb u) (eqb u) t (ne_eqb u 0 z) (λ v n. refl) ts
      ∙ without-none t (select (eqb u) ts) (λ m. d (eqb-true u t (member-select (eqb u) t ts m).0)))

  none_left : occurrences t (others t ts) ≡ 0
  none_left = others-gone t low high ts (listed g)

  pub arrived-listing : ready ≤ p → Listing (set place t p) (arrived t ts)
  unfolding arrived
  arrived-listing h =
      refilled (others t ts ++ t ∷ [])
      (rw length-append (omega (arith, room-left g t low high)))
      (rw (select-append, others-given, ne_eqb t 0 (λ e. omega arith)))
      (λ u z d. rw (select-append, length-append, ne_eqb u t d, add-zero) (others_same u z d))
      (rw (select-append, length-append, none_left, eq-eqb t t refl, le-leb ready p h))

  pub departed-listing : p < ready → Listing (set place t p) (departed t ts)
  unfolding departed
  departed-listing h = refilled (others t ts) (length-others t ts) others-given others_same (rw (lt-leb ready p h) none_left)
