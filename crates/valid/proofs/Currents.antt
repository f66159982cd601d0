-- Current priorities compared with those worked out afresh, task by task. Assumes nothing.
use Prim.Native.Nat.{ℕ, zero, suc, ◌<◌}
use native.Mathlib.Omega.{arith}
use mathlib.Core.Path.{◌≡◌, ◌∙◌, refl, sym, ap, ap₂}
use mathlib.Core.Bool.{Bool, and-true}
use mathlib.Core.List.{List, [], ◌∷◌}
use lib.ListN.{length, length-map}
use lib.Seq.{ext_get_or}
use lib.Dec.{eqb}
use Rattle.model.specs.Sizes.{tasks}
use Rattle.model.specs.Lists.{◌!◌, all, same, up_to}
use Rattle.model.specs.Priority.{effective, effectives}
use Rattle.model.specs.Queue.{ready_bitmap}
use Rattle.model.specs.Kernel.{Kernel, facts, with_tasks, with_currents}
use Rattle.model.specs.Valid.{Each, TaskLists, current_priorities, right_bitmap}
use Rattle.model.proofs.ListLaws.{bool-ext, length-count_from}
use Rattle.model.specs.Words.{word_count, kernel}
use Rattle.state.proofs.WordLaws.{bitmap-long, one_word}
use Rattle.priority.specs.Afresh.{worked_out}
use Rattle.valid.specs.Tests.{eq-agrees, each-agrees, same-agrees}
use Rattle.valid.specs.Parts.{same_current}

-- ---- two states' current priorities

-- entry 0 is none's in both, so the tasks' entries decide
by-task : (xs ys : List ℕ) → length xs ≡ suc tasks → length ys ≡ suc tasks → xs ! 0 ≡ 0 → ys ! 0 ≡ 0 → all (λ t. eqb (xs ! t) (ys ! t)) (up_to tasks) ≡ same xs ys
by-task xs ys l m z u =
    let each = each-agrees (λ t. eqb (xs ! t) (ys ! t)) (λ t. xs ! t ≡ ys ! t) (λ t. eq-agrees (xs ! t) (ys ! t)) tasks in
    bool-ext (all (λ t. eqb (xs ! t) (ys ! t)) (up_to tasks)) (same xs ys)
    (λ e. (same-agrees xs ys).1 (ext_get_or 0 xs ys (l ∙ sym m) (at (each.0 e))))
    (λ e. each.1 (λ t low high. ap (λ (s : List ℕ). s ! t) ((same-agrees xs ys).0 e)))
  where
    at : Each tasks (λ t. xs ! t ≡ ys ! t) → (i : ℕ) → i < length xs → xs ! i ≡ ys ! i
    at f zero h = z ∙ sym u
    at f (suc i) h = f (suc i) (omega arith) (omega arith)

effectives-long : (k : Kernel) → length (effectives (facts k)) ≡ suc tasks
unfolding effectives
effectives-long k = ap suc (length-map (up_to tasks) (effective (facts k)) ∙ length-count_from 1 tasks)

-- priorities are worked out on a copy, and both are compared
pub afresh-same : (w copy : List ℕ) (afresh : Kernel) (r : Bool) → TaskLists (kernel w).tasks → copy ≡ w → afresh ≡ worked_out (kernel copy)
    → r ≡ all (same_current (kernel w) afresh) (up_to tasks) → r ≡ current_priorities (kernel w)
unfolding current_priorities worked_out with_currents with_tasks effectives
afresh-same w copy afresh r h e f q =
    let k = kernel w in
    let current = h.current in
    q ∙ rw (f, e) (by-task k.tasks.current (effectives (facts k)) current.long (effectives-long k) current.none_zero refl)

-- the word of bits is compared with the one worked out
pub bits-same : (w : List ℕ) (word afresh : ℕ) → length w ≡ word_count → word ≡ (kernel w).bitmap ! 0
    → afresh ≡ ready_bitmap (facts (kernel w)) (kernel w).tasks.current → eqb word afresh ≡ right_bitmap (kernel w)
unfolding right_bitmap
bits-same w word afresh h e f =
    ap₂ eqb e f ∙ sym (and-true _) ∙ sym (ap (λ (xs : List ℕ). same xs (ready_bitmap (facts (kernel w)) (kernel w).tasks.current ∷ [])) (one_word (kernel w).bitmap (bitmap-long w h)))
