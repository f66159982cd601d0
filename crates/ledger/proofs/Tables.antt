-- Lists made number by number, and parts of a ledger exchanged.
use mathlib.Core.List.{map-map}
use Rattle.model.proofs.Terms.{Option, TaskEntry, MutexEntry, Ledger, ℕ, ◌≤◌, ◌<◌, ℕ_discrete, dec_le, arith, ◌≡◌, ◌∙◌, sym, ap, Bool, true, false, List, map, length, get_or, set, length-map, length-set, List·getD-eq-default, ext_get_or, get_or-set_same, get_or-set_other, count_from, place_where}
use Rattle.model.proofs.ListLaws.{length-count_from, mapped_at, map-agree, first-at}
use Rattle.invariant.proofs.Exchange.{Exchanged}
use Rattle.ledger.specs.Abstraction.{table}

module _ {A : Type 0} where
  pub length-table : (n : ℕ) (f : ℕ → A) → length (table n f) ≡ n
  unfolding table
  length-table n f = length-map (count_from 0 n) f ∙ length-count_from 0 n

  pub table_at : (n : ℕ) (f : ℕ → A) (i : ℕ) (d : A) → i < n → get_or (table n f) i d ≡ f i
  unfolding table
  table_at n f i d h = mapped_at f 0 n i d h ∙ ap f (omega arith)

  -- anywhere, where past the end the function has the default
  pub table-any : (n : ℕ) (f : ℕ → A) (i : ℕ) (d : A) → (n ≤ i → f i ≡ d) → get_or (table n f) i d ≡ f i
  table-any n f i d h = elim (dec_le n i) [ yes l ↦ List·getD-eq-default (table n f) d (rw length-table l) ∙ sym (h l) | no l ↦ table_at n f i d (omega arith) ]

  pub table-agree : (n : ℕ) (f g : ℕ → A) → ((i : ℕ) → i < n → f i ≡ g i) → table n f ≡ table n g
  unfolding table
  table-agree n f g h = map-agree f g 0 n (λ x a b. h x (omega arith))

  -- a list of that length with those entries
  pub table_is : (n : ℕ) (f : ℕ → A) (d : A) (xs : List A) → length xs ≡ n → ((i : ℕ) → i < n → get_or xs i d ≡ f i) → xs ≡ table n f
  table_is n f d xs l h = ext_get_or d xs (table n f) (l ∙ sym (length-table n f)) (λ i j. let k : i < n = omega arith in h i k ∙ sym (table_at n f i d k))

  -- one row exchanged, in a table made of rows
  pub exchanged-table : {R : Type 0} (e : R → A) (n : ℕ) {f g : ℕ → R} {i : ℕ} {r : R} → Exchanged f g i r → set (table n (λ j. e (f j))) i (e r) ≡ table n (λ j. e (g j))
  exchanged-table e n {f} {g} {i} {r} x = table_is n (λ j. e (g j)) (e r) _ (length-set (table n (λ j. e (f j))) i (e r) ∙ length-table n _) (λ j h. go j h (ℕ_discrete j i))
    where
      go : (j : ℕ) → j < n → Dec (j ≡ i) → get_or (set (table n (λ u. e (f u))) i (e r)) j (e r) ≡ e (g j)
      go j h (yes q) = rw q (get_or-set_same (table n (λ u. e (f u))) i (e r) (e r) (rw length-table (omega arith)) ∙ ap e (sym x.same))
      go j h (no d) = get_or-set_other (table n (λ u. e (f u))) i j (e r) (e r) d ∙ table_at n (λ u. e (f u)) j (e r) h ∙ ap e (sym (x.other j d))

pub map-table : {A B : Type 0} (g : A → B) (n : ℕ) (f : ℕ → A) → map g (table n f) ≡ table n (λ i. g (f i))
unfolding table
map-table g n f = map-map g f (count_from 0 n)

-- the first that passes a test
pub first-in : {A : Type 0} (p : A → Bool) (d : A) (n : ℕ) (f : ℕ → A) (i : ℕ) → i < n → p (f i) ≡ true → ((j : ℕ) → j < i → p (f j) ≡ false) → place_where p (table n f) ≡ i
first-in p d n f i h e before =
    first-at p d (table n f) i (rw length-table h) (ap p (table_at n f i d h) ∙ e) (λ j l. ap p (table_at n f j d (omega arith)) ∙ before j l)

-- ---- parts of a ledger exchanged

abbrev pub with_tasks_and_lines : Ledger → List (Option TaskEntry) → List (List (List ℕ)) → Ledger
with_tasks_and_lines l ts ls = record { tasks = ts; mutexes = l.mutexes; buffers = l.buffers; pools = l.pools; lines = ls }

abbrev pub MutexEntries : Type 0
MutexEntries = List (Option MutexEntry)

abbrev pub on_mutexes : (MutexEntries → MutexEntries) → Ledger → Ledger
on_mutexes f l = record { tasks = l.tasks; mutexes = f l.mutexes; buffers = l.buffers; pools = l.pools; lines = l.lines }
