-- What the tests of waiters at pools and buffers are made of: a free block by a word, and the first sender. Assumes nothing.
use Rattle.std.specs.Prelude.{None, Option, Some}
use Prim.Native.Nat.{ℕ, suc}
use mathlib.Core.Path.{◌≡◌, sym}
use mathlib.Core.Bool.{true, false, cond}
use lib.ListN.{length}
use lib.Dec.{eqb}
use Rattle.model.specs.Sizes.{pools}
use Rattle.model.specs.Lists.{◌!◌}
use Rattle.model.specs.Facts.{queue, sending}
use Rattle.model.specs.Number.{word_number, maybe_task, maybe_pool, PoolNumber, TaskNumber}
use Rattle.model.specs.Kernel.{Kernel}
use Rattle.model.specs.World.{queue_front}
use Rattle.model.specs.Act.{first_fits}
use Rattle.model.specs.Refusal.{free_block}
use Rattle.model.specs.Valid.{first_sender}
use Rattle.model.proofs.NumberLaws.{pool_kind, named}
use Rattle.search.proofs.Senders.{first-none, first_some}
use Rattle.valid.proofs.Objects.{entry-none}

-- ---- a free block by a word; where no pool is named, there are no blocks

module _ (k : Kernel) (u : ℕ) {found : Option PoolNumber} (made : found ≡ maybe_pool (word_number u pools)) where
  pub free-none : found ≡ pool_kind.none → length k.pools.count ≡ suc pools → k.pools.count ! 0 ≡ 0 → true ≡ eqb (free_block k u) 0
  unfolding free_block
  free-none none long first = rw (sym (entry-none pool_kind k.pools.count u made none long first))

  pub free-there : (p r : ℕ) → found ≡ pool_kind.some p → r ≡ free_block k p → eqb r 0 ≡ eqb (free_block k u) 0
  free-there p r some e = rw (e, (named pool_kind made some).0)

-- ---- the first sender

module _ (k : Kernel) (b : ℕ) {found : Option TaskNumber} (first : found ≡ maybe_task (cond (first_fits k b) (queue_front k (queue sending b)) 0)) where
  pub fits-first : {t : TaskNumber} → found ≡ Some t → false ≡ first_sender k b
  unfolding first_sender
  fits-first e = rw (first_some k b first e).0

  pub fits-none : found ≡ None → true ≡ first_sender k b
  unfolding first_sender
  fits-none e = rw (first-none k b first e)
