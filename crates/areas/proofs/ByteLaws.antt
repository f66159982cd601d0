-- Bytes looked at where they lie: parts of a slice, zeros, and a task's part of the outbox. Assumes nothing.
use Prim.Native.Nat.{ℕ, ◌+◌, ◌≤◌, ◌<◌}
use native.Mathlib.Omega.{arith}
use mathlib.Core.Path.{◌≡◌, ◌∙◌, sym}
use mathlib.Core.Bool.{Bool, true, ◌&&◌, and-true, and_assoc}
use mathlib.Core.List.{List}
use lib.ListN.{length, drop, length-take}
use lib.Seq.{take_all}
use lib.Dec.{eqb}
use Rattle.model.specs.Sizes.{message_bytes}
use Rattle.model.specs.Lists.{◌!◌, all_zero}
use Rattle.model.specs.Kernel.{Kernel}
use Rattle.model.specs.Message.{part, outbox_message}
use Rattle.model.specs.Valid.{outbox_part}
use Rattle.model.proofs.ListLaws.{eqb-sym}
use Rattle.model.proofs.Loops.{Over, over-all, over-more, over_done}

-- ---- only zeros: whether the first i bytes are is known, and the others decide

pub record ZeroSoFar (bytes : List ℕ) (known : Bool) (i : ℕ) : Type 0 where
  pub over : Over (λ xs. known && all_zero xs) bytes i (all_zero bytes)

pub zero-all : (bytes : List ℕ) → ZeroSoFar bytes true 0
zero-all bytes = record { over = over-all all_zero bytes }

module _ {bytes : List ℕ} {known : Bool} {i : ℕ} (zero : ZeroSoFar bytes known i) where
  pub zero_more : i < length bytes → ZeroSoFar bytes (known && eqb (bytes ! i) 0) (i + 1)
  zero_more h = record { over = over-more zero.over (λ xs. known && eqb (bytes ! i) 0 && all_zero xs) h (rw (eqb-sym 0 (bytes ! i)) (sym (and_assoc known _ _))) }

  pub zero-done : length bytes ≤ i → known ≡ all_zero bytes
  zero-done h = sym (over_done zero.over h ∙ and-true known)

-- ---- a task's part of the outbox

-- a message of all bytes of the part is the part
outbox-whole : (t : ℕ) (outbox : List ℕ) → outbox_message t message_bytes outbox ≡ part message_bytes t outbox
unfolding outbox_message part
outbox-whole t outbox = take_all message_bytes _ (rw length-take (omega arith))

-- the test as the code makes it: of the bytes of the whole part that lie behind the task's message
pub part-tests : (k : Kernel) (outbox : List ℕ) (t : ℕ) {l : ℕ} {whole tail : List ℕ} {zero : Bool} → l ≡ k.tasks.argument ! t
    → whole ≡ outbox_message t message_bytes outbox → tail ≡ drop l whole → zero ≡ all_zero tail → zero ≡ outbox_part k outbox t
unfolding outbox_part
part-tests k outbox t p q s u = rw (u, s, q, p, outbox-whole)
