-- Every act but those of the calls about pools leaves the pools as they are and delivers no block. Assumes nothing.
use Rattle.model.proofs.Terms.{ℕ, ◌+◌, arith, ◌≡◌, ◌∙◌, refl, ap, List, [], ◌∷◌, ◌++◌, foldl, ℤ, eqb, tasks, mutexes, buffers, ◌!◌, up_to, E_OK, locking, Queue, queue, queue_front, Pools, Kernel, with_kernel, Delivery, Ended, World, Nothing, with_ended, arrive, recompute_if, settled, wait, leave_kernel, leave, end_wait, end_waits, release, release_all, store_message, first_fits, store_first, drain}
use Rattle.model.proofs.ListLaws.{either}
use Rattle.model.proofs.Folds.{serve-keeps}
use Rattle.model.specs.Kernel.{compute_kernel}
use Rattle.model.specs.World.{compute_world}
use Rattle.pool_account.specs.Account.{block_in, blocks_in}

-- what an account has to do with in a world
unfoldable pub seen : World → Pools × ℕ
seen w = (w.kernel.pools, blocks_in w.ended)

-- ---- repetitions

pub fold-seen : (f : World → ℕ → World) → ((w : World) (n : ℕ) → seen (f w n) ≡ seen w) → (ns : List ℕ) (w : World) → seen (foldl f w ns) ≡ seen w
fold-seen f h [] w = refl
fold-seen f h (n ∷ ns) w = fold-seen f h ns (f w n) ∙ h w n

-- ---- waits

blocks_more : (es : List Ended) (e : Ended) → blocks_in (es ++ e ∷ []) ≡ blocks_in es + block_in e.delivery
blocks_more [] e = omega arith
blocks_more (x ∷ es) e = omega (arith, blocks_more es e)

module _ (w : World) (t : ℕ) where
  -- one begins, and one ends: with what it delivers, or with no block
  pub wait-seen : (q : Queue) (n : ℕ) (timeout : ℤ) → seen (wait w t q n timeout) ≡ seen w
  unfolding seen wait arrive recompute_if compute_kernel compute_world
  wait-seen q n timeout = either (λ (k : Kernel). seen (with_kernel w k) ≡ seen w) (eqb q.place locking) refl refl

  pub ended-seen : (c : ℤ) (d : Delivery) → seen (end_wait w t c d) ≡ (w.kernel.pools, blocks_in w.ended + block_in d)
  unfolding seen end_wait leave leave_kernel arrive recompute_if compute_kernel compute_world
  ended-seen c d =
      let Seen : Kernel → Type 0 = λ k. seen (with_ended (with_kernel w k) t c d) ≡ (w.kernel.pools, blocks_in w.ended + block_in d) in
      either Seen (eqb (w.kernel.tasks.place ! t) locking) (rw blocks_more) (rw blocks_more)

  pub none_seen : (c : ℤ) (d : Delivery) → block_in d ≡ 0 → seen (end_wait w t c d) ≡ seen w
  unfolding seen
  none_seen c d e = ended-seen c d ∙ ap (λ (n : ℕ). (w.kernel.pools, n)) (omega (arith, e))

pub ends-seen : (w : World) (ts : List ℕ) (c : ℤ) → seen (end_waits w ts c) ≡ seen w
unfolding end_waits
ends-seen w ts c = fold-seen _ (λ v t. none_seen v t c Nothing refl) ts w

pub release-seen : (w : World) (m : ℕ) → seen (release w m) ≡ seen w
unfolding seen release settled compute_kernel compute_world
release-seen w m = either (λ v. seen v ≡ seen w) (eqb (queue_front w.kernel (queue locking m)) 0) refl (none_seen _ _ E_OK Nothing refl)

pub releases-seen : (w : World) (t : ℕ) → seen (release_all w t) ≡ seen w
unfolding release_all
releases-seen w t = fold-seen _ (λ v m. either (λ u. seen u ≡ seen v) (eqb (v.kernel.mutexes.holder ! m) t) (release-seen v m) refl) (up_to mutexes) w

stored-seen : (w : World) (b : ℕ) → seen (store_first w b) ≡ seen w
unfolding seen store_first store_message compute_kernel compute_world
stored-seen w b = none_seen _ _ E_OK Nothing refl

pub drain-seen : (w : World) → seen (drain w) ≡ seen w
unfolding drain
drain-seen = fold-seen _ (λ v b. serve-keeps (λ u. seen u ≡ seen v) (λ u. first_fits u.kernel b) (λ u. store_first u b)
    (λ u e s. stored-seen u b ∙ s) tasks v refl) (up_to buffers)
