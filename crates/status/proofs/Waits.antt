-- What a row shows of a task's wait. In a valid state a task that does not wait has nothing of a wait in its fields, so the fields are shown as
-- they are. Assumes nothing.
use Rattle.model.proofs.Terms.{ℕ, ◌≤◌, arith, ◌≡◌, refl, sym, inl, inr, Bool, true, false, ◌||◌, cond, eqb, eqb-true, eqb-false, tasks, ◌!◌, locking, sending, receiving, getting, Kernel, Lent, TaskRange, Wait, Valid}
use Rattle.model.proofs.ListLaws.{by-test}
use Rattle.status.specs.Rows.{awaited_kind, awaited_object, shown_time, time_left, TimeFits}

-- the kind is 0 where none of the tests holds
none-holds : (a b c d : Bool) → ◌≡◌ {A = ℕ} (cond a 0x10 (cond (b || c) 0x20 (cond d 0x30 0))) 0 → (a ≡ false) × (b ≡ false) × (c ≡ false) × (d ≡ false)
none-holds true b c d e = absurd (omega arith)
none-holds false true c d e = absurd (omega arith)
none-holds false false true d e = absurd (omega arith)
none-holds false false false true e = absurd (omega arith)
none-holds false false false false e = (refl, refl, refl, refl)

module _ (x : Lent) (v : Valid x) (t : ℕ) (low : 1 ≤ t) (high : t ≤ tasks) where
  abbrev k : Kernel
  k = x.kernel

  range : TaskRange k t
  range = v.is_task_range t low high

  wait : Wait k t
  wait = v.is_wait t low high

  -- every place of a wait has a kind
  idle : awaited_kind k t ≡ 0 → (k.tasks.object ! t ≡ 0) × (k.tasks.left ! t ≡ 0)
  unfolding awaited_kind TaskRange Wait
  idle e =
      let p = k.tasks.place ! t in
      let n = none-holds (eqb p locking) (eqb p sending) (eqb p receiving) (eqb p getting) e in
      elim wait [
        | inl w ↦ (w.1, w.2)
        | inr w ↦
            elim range [
              | inl r ↦ absurd (omega (arith, w.0, r.0))
              | inr r ↦ absurd (omega (arith, w.0, r.0.1, eqb-false p locking n.0, eqb-false p sending n.1, eqb-false p receiving n.2, eqb-false p getting n.3))
            ]
      ]

  pub object-shown : awaited_object k t ≡ k.tasks.object ! t
  unfolding awaited_object
  object-shown = by-test (λ n. n ≡ k.tasks.object ! t) (eqb (awaited_kind k t) 0) (λ e. sym (idle (eqb-true _ _ e)).0) (λ e. refl)

  pub time-shown : time_left k t ≡ shown_time (k.tasks.left ! t)
  unfolding time_left shown_time
  time-shown = by-test (λ z. z ≡ shown_time (k.tasks.left ! t)) (eqb (awaited_kind k t) 0) (λ e. rw (idle (eqb-true _ _ e)).1) (λ e. refl)

  pub time-fits : TimeFits (k.tasks.left ! t)
  unfolding Wait
  time-fits = elim wait [ inl w ↦ inl (omega (arith, w.2)) | inr w ↦ elim w.2 [ inl r ↦ inl r.1 | inr z ↦ inr z ] ]
