-- The two definitions of linked agree, over any function from a task to the next one: "through a chain of such steps" of any length, and the
-- test that looks at no more steps than there are tasks. Assumes nothing.
use Rattle.std.specs.Prelude.{ℕ, zero, suc, ◌≤◌, ◌<◌, ◌≡◌, refl, ◌≢◌, ◌⊎◌, ◌↔◌, true, ◌||◌, List, [], ◌∷◌, length, eqb}
use Rattle.std.proofs.Common.{not-suc-le-zero, suc-ne-zero, arith, ◌∙◌, sym, subst, inl, inr, eqb-true, eq-eqb}
use Rattle.std.proofs.Math.Decide.{ℕ_discrete, dec_le}
use Rattle.std.proofs.lemmas.Bool.{false≢true}
use Rattle.model.proofs.ListLaws.{or_elim, or_left, or_right, without-keeps, without-shorter, length-count_from, member-count_from}
use Rattle.model.specs.Sizes.{tasks}
use Rattle.model.specs.Lists.{up_to, member, without}
use Rattle.model.specs.Priority.{Linked, step, chain, after, linked}

-- ---- chains inside a list of tasks

either : {A : Type 0} → A ⊎ A → A
either (inl a) = a
either (inr a) = a

data Chain (next : ℕ → ℕ) (ts : List ℕ) : ℕ → ℕ → Type 0 where
  last : {x y : ℕ} → next x ≡ y → y ≢ 0 → member y ts ≡ true → Chain next ts x y
  more : {x y z : ℕ} → next x ≡ z → z ≢ 0 → member z ts ≡ true → Chain next ts z y → Chain next ts x y

module _ (next : ℕ → ℕ) where
  -- the rest of a chain behind its last visit to a task does not visit it again
  avoid : (ts : List ℕ) (a : ℕ) {x y : ℕ} → y ≢ a → Chain next ts x y → Chain next (without a ts) x y ⊎ Chain next (without a ts) a y
  avoid ts a {x} {y} h (last e n m) = inl (last e n (without-keeps a y ts h m))
  avoid ts a {x} {y} h (more {z = z} e n m c) = go (ℕ_discrete z a) (avoid ts a h c)
    where
      go : Dec (z ≡ a) → Chain next (without a ts) z y ⊎ Chain next (without a ts) a y → Chain next (without a ts) x y ⊎ Chain next (without a ts) a y
      go d (inr r) = inr r
      go (yes q) (inl r) = inr (subst (λ (t : ℕ). Chain next (without a ts) t y) q r)
      go (no q) (inl r) = inl (more e n (without-keeps a z ts q m) r)

  after-step : (n x y : ℕ) → next x ≡ y → y ≢ 0 → after next (suc n) x ≡ y ∷ after next n y
  after-step n x zero e h = absurd (h refl)
  after-step n x (suc y) e h = rw (e, after)

  -- no chain needs more steps than there are tasks to step on
  short : (n : ℕ) (ts : List ℕ) {x y : ℕ} → length ts ≤ n → Chain next ts x y → member y (after next n x) ≡ true
  short zero [] h (last e f m) = absurd (false≢true m)
  short zero [] h (more e f m c) = absurd (false≢true m)
  short zero (t ∷ ts) h c = absurd (not-suc-le-zero h)
  short (suc n) ts {x} {y} h (last e f m) = rw (after-step n x y e f) (or_left (eqb y y) _ (eq-eqb y y refl))
  short (suc n) ts {x} {y} h (more {z = z} e f m c) =
      rw (after-step n x z e f)
      (go (ℕ_discrete y z)
      (λ q. short n (without z ts) (let s = without-shorter z ts m in omega arith) (either (avoid ts z q c))))
    where
      go : Dec (y ≡ z) → (y ≢ z → member y (after next n z) ≡ true) → eqb y z || member y (after next n z) ≡ true
      go (yes q) rest = or_left (eqb y z) _ (eq-eqb y z q)
      go (no q) rest = or_right (eqb y z) _ (rest q)

  pub goes_on : {x y : ℕ} → Linked next x y → next x ≢ 0
  goes_on (step e f) q = f (sym e ∙ q)
  goes_on (chain e f c) q = f (sym e ∙ q)

  pub linked-trans : {x y z : ℕ} → Linked next x y → Linked next y z → Linked next x z
  linked-trans (step e f) c = chain e f c
  linked-trans (chain e f b) c = chain e f (linked-trans b c)

  pub bounded : (n t : ℕ) → ((t : ℕ) → n < t → next t ≡ 0) → next t ≢ 0 → t ≤ n
  bounded n t ends h = go (dec_le t n)
    where
      go : Dec (t ≤ n) → t ≤ n
      go (yes l) = l
      go (no l) = absurd (h (ends t (omega arith)))

  -- a chain of tasks is a chain inside the list of all tasks: only its last one may be beyond them
  inside : (n : ℕ) → ((t : ℕ) → n < t → next t ≡ 0) → {x y : ℕ} → y ≤ n → Linked next x y → Chain next (up_to n) x y
  inside n ends {x} {y} h (step e f) = last e f (member-count_from 1 n y (omega arith) (omega arith))
  inside n ends {x} {y} h (chain {y = z} e f c) = more e f (member-count_from 1 n z (omega arith) (let b = bounded n z ends (goes_on c) in omega arith)) (inside n ends h c)

  -- the test finds only what is linked
  found : (n : ℕ) (x y : ℕ) → member y (after next n x) ≡ true → Linked next x y
  found zero x y e = absurd (false≢true e)
  found (suc n) x y e = go (next x) refl (found n)
    where
      go : (z : ℕ) → next x ≡ z → ((x y : ℕ) → member y (after next n x) ≡ true → Linked next x y) → Linked next x y
      go zero q rest = absurd (false≢true (rw (q, after) at e))
      go (suc z) q rest = pick (or_elim (eqb y (suc z)) _ (rw (after-step n x (suc z) q (suc-ne-zero z)) at e))
        where
          pick : (eqb y (suc z) ≡ true) ⊎ (member y (after next n (suc z)) ≡ true) → Linked next x y
          pick (inl r) = step (q ∙ sym (eqb-true y (suc z) r)) (λ o. suc-ne-zero z (sym (eqb-true y (suc z) r) ∙ o))
          pick (inr r) = chain q (suc-ne-zero z) (rest (suc z) y r)

  -- the theorem: of the tasks, the test finds exactly those that are linked
  pub linked-agrees : ((t : ℕ) → tasks < t → next t ≡ 0) → (x y : ℕ) → y ≤ tasks → Linked next x y ↔ (linked next x y ≡ true)
  unfolding linked
  linked-agrees ends x y h = (λ c. short tasks (up_to tasks) (omega (arith, length-count_from 1 tasks)) (inside tasks ends h c), found tasks x y)
