-- One call: whatever it is, the pools' accounts balance after it if they did before, and it delivers the blocks that they count. From a valid state.
use Rattle.model.proofs.Terms.{ℕ, ◌≤◌, ℕ_discrete, arith, ◌≡◌, ◌∙◌, refl, sym, ap, subst, ◌≢◌, inl, inr, cond, Option, none, some, List, foldl, set, get_or-set_same, get_or-set_other, pos, eqb, eq-eqb, ne_eqb, eqb-false, not, not-false, tasks, pools, blocks, ◌!◌, up_to, E_OK, E_DLT, E_TMOUT, endless, ◌||◌, number, getting, sending, receiving, queue, with_taken, Pools, Kernel, slot, with_kernel, queue_front, running, Lent, World, begun, Block, Message, Nothing, arrive, settled, leave_kernel, leave, become_dormant, unused, lock_waits, storable, free_block, refusals, first_refusal, outside, Done, cre_tsk, del_tsk, sta_tsk, ext_tsk, ter_tsk, chg_pri, cre_mtx, del_mtx, loc_mtx, unl_mtx, cre_mbf, del_mbf, store_message, snd_mbf, take_oldest, rcv_mbf, cre_mpf, del_mpf, tick_task, tick, perform, effect, Each, From, Valid, refused, carried_out, valid_step, step, Outcome}
use Rattle.model.proofs.ListLaws.{either}
use Rattle.model.proofs.ByCase.{rejoin-only, get-waits, get-block, return-free, return-next, step-valid}
use Rattle.model.proofs.Folds.{numbers_keep}
use Rattle.model.proofs.RefusalLaws.{EachCode, of-first, none-applies, in-range, first-zero, unused-free}
use Rattle.model.specs.declared.call.Call.{Call}
use Rattle.model.specs.declared.call.Call.TheVariants.{CreTsk, DelTsk, StaTsk, ExtTsk, TerTsk, ChgPri, CreMtx, DelMtx, LocMtx, UnlMtx, CreMbf, DelMbf, SndMbf, RcvMbf, CreMpf, DelMpf, GetMpf, RelMpf, Tick}
use Rattle.model.specs.declared.call.Answer.{Answer}
use Rattle.model.specs.declared.call.Answer.TheVariants.{Code, Waits}
use Rattle.model.specs.Kernel.{compute_kernel}
use Rattle.model.specs.World.{compute_world}
use Rattle.model.specs.Refusal.{compute_refusal}
use Rattle.valid.specs.Agree.{valid-agrees}
use Rattle.valid.specs.Tests.{fails, and-agrees, eq-agrees}
use Rattle.invariant.proofs.Exchange.{set_here}
use Rattle.preservation.proofs.Validity.{valid-steady}
use Rattle.preservation.proofs.Pools.{no_blocks, not_taken}
use Rattle.pool_account.specs.Account.{PoolAccount, Account, with_entry, with_pool_blocks, block_in, blocks_in, accounted, handed_out}
use Rattle.pool_account.specs.Statements.{OfPool, AllBalanced, OnlyHandedOut}
use Rattle.pool_account.proofs.Untouched.{seen, fold-seen, wait-seen, ended-seen, none_seen, ends-seen, release-seen, releases-seen, drain-seen}
use Rattle.pool_account.proofs.Balance.{count-differs, count-all, still-balanced, blocks-balanced}

module _ (l : Lent) (v : Valid l) (a : Account) where
  abbrev k : Kernel
  k = l.kernel

  abbrev x : Pools
  x = k.pools

  few-blocks : (p : ℕ) → From 1 pools p → x.count ! p ≤ blocks
  few-blocks p r = elim ((valid-steady l v).invariant.of_pools.shape p r.0 r.1) [ inl s ↦ omega arith | inr s ↦ omega arith ]

  -- ---- something is done to one pool

  abbrev Balances : Pools → Account → Type 0
  Balances y b = Each pools (λ p. OfPool y p (b p))

  -- its entry is exchanged, and another pool is as it was
  done-to : AllBalanced l a → (q : ℕ) (y : Pools) (e : Option PoolAccount) → OfPool y q e → ((p : ℕ) → p ≢ q
      → (y.exists ! p ≡ x.exists ! p) × (y.count ! p ≡ x.count ! p) × ((b : ℕ) → b ≤ blocks → y.taken ! slot p b ≡ x.taken ! slot p b))
      → Balances y (with_entry a q e)
  done-to h q y e here other p low high =
      elim (ℕ_discrete p q) [
        | yes f ↦ rw (f, eq-eqb q q refl) here
        | no d ↦
            rw (ne_eqb p q d)
            (still-balanced x y p (other p d).0 (other p d).1 (λ b m. (other p d).2 b (omega (arith, few-blocks p (low, high)))) (a p) (h p low high))
      ]

  -- one of its flags is exchanged, and nothing else
  flag-changed : AllBalanced l a → (q b n : ℕ) → From 1 pools q → From 1 (x.count ! q) b
      → Balances (with_taken k (slot q b) n).pools (with_pool_blocks a q (cond (eqb 0 (x.taken ! slot q b)) 1 0) (cond (eqb 0 n) 1 0))
  unfolding compute_kernel
  flag-changed h q b n r s =
      let xs = x.taken in
      let few = few-blocks q r in
      let new = get_or-set_same xs (slot q b) n 0 (omega (arith, v.is_lengths.taken)) in
      let other : (p c : ℕ) → slot p c ≢ slot q b → set xs (slot q b) n ! slot p c ≡ xs ! slot p c = λ p c. get_or-set_other xs (slot q b) (slot p c) n 0 in
      let differs = count-differs _ _ b 1 (x.count ! q) s.0 (omega arith) (λ c d. other q c (λ (o : slot q c ≡ slot q b). d (omega arith))) in
      done-to h q _ _ (blocks-balanced x (with_taken k (slot q b) n).pools q refl refl _ _ (rw new at differs) (a q) (h q r.0 r.1))
      (λ p d. (refl, refl, λ c m. other p c (λ (o : slot p c ≡ slot q b). d (omega arith))))

  -- ---- every call

  -- of an answer, of how many blocks it delivers, and of what is seen after it: the account balances if it did
  abbrev After : Call → Answer → ℕ → Pools × ℕ → Type 0
  After c r given s = (AllBalanced l a → Balances s.0 (accounted a c r s.1)) × ((given, s.1) ≡ handed_out c r s.1)

  -- the answer delivers no block, and the same is seen after it
  abbrev Still : Done → Type 0
  Still d = (block_in d.delivery ≡ 0) × (seen d.world ≡ seen (begun l))

  abbrev Left : Call → Outcome → Type 0
  Left c o = (AllBalanced l a → AllBalanced o.lent (accounted a c o.answer (blocks_in o.ended))) × OnlyHandedOut c o

  module _ (c : Call) (bytes : List ℕ) where
    -- it is refused, with a code of the table, or carried out
    stepped : EachCode (λ e. After c (Code e) 0 (x, 0)) (refusals k c bytes) → (first_refusal (refusals k c bytes) ≡ none
        → After c (perform (begun l) c bytes).answer (block_in (perform (begun l) c bytes).delivery) (seen (perform (begun l) c bytes).world))
        → Left c (step l c bytes)
    unfolding valid_step carried_out refused effect seen
    stepped codes performed =
        rw (step-valid l c bytes ((valid-agrees l).1 v))
        (of-first (λ o. Left c (elim o [ none ↦ carried_out (effect (begun l) c bytes) | some e ↦ refused l e (running k) ])) (refusals k c bytes) codes
        (λ q. subst (After c _ _) (sym (drain-seen (perform (begun l) c bytes).world)) (performed q)))

    -- it has nothing to do with pools
    untouched : EachCode (λ e. After c (Code e) 0 (x, 0)) (refusals k c bytes) → ((r : Answer) → After c r 0 (x, 0)) → Still (perform (begun l) c bytes)
        → Left c (step l c bytes)
    unfolding seen
    untouched codes unchanged still = stepped codes (λ q. subst (After c _ _) (sym still.1) (rw still.0 (unchanged (perform (begun l) c bytes).answer)))

  pub call-balanced : (c : Call) (bytes : List ℕ) → Left c (step l c bytes)
  unfolding seen perform cre_tsk del_tsk sta_tsk ext_tsk ter_tsk chg_pri cre_mtx del_mtx loc_mtx unl_mtx cre_mbf del_mbf snd_mbf store_message rcv_mbf take_oldest
      cre_mpf del_mpf tick_task tick arrive settled become_dormant leave leave_kernel compute_kernel compute_world compute_refusal
  call-balanced (CreTsk priority) bytes = stepped (CreTsk priority) bytes (search) (λ q. (λ h. h, refl))
  call-balanced (DelTsk task) bytes = stepped (DelTsk task) bytes (search) (λ q. (λ h. h, refl))
  call-balanced (StaTsk task) bytes = stepped (StaTsk task) bytes (search) (λ q. (λ h. h, refl))
  call-balanced ExtTsk bytes = untouched ExtTsk bytes (search) (λ r. (λ h. h, refl)) (refl, releases-seen _ _)
  call-balanced (TerTsk task) bytes = untouched (TerTsk task) bytes (search) (λ r. (λ h. h, refl)) (refl, releases-seen _ _)
  call-balanced (ChgPri task priority) bytes =
      untouched (ChgPri task priority) bytes (search) (λ r. (λ h. h, refl))
      (refl, ap (λ (i : Kernel). seen (with_kernel (begun l) i)) (rejoin-only _ _))
  call-balanced (CreMtx attribute ceiling) bytes = stepped (CreMtx attribute ceiling) bytes (search) (λ q. (λ h. h, refl))
  call-balanced (DelMtx mutex) bytes = untouched (DelMtx mutex) bytes (search) (λ r. (λ h. h, refl)) (refl, ends-seen _ _ E_DLT)
  call-balanced (LocMtx mutex timeout) bytes =
      untouched (LocMtx mutex timeout) bytes (search) (λ r. (λ h. h, refl)) (either Still (lock_waits k _) (refl, wait-seen _ _ _ _ timeout) (refl, refl))
  call-balanced (UnlMtx mutex) bytes = untouched (UnlMtx mutex) bytes (search) (λ r. (λ h. h, refl)) (refl, release-seen _ _)
  call-balanced (CreMbf attribute bufsz maxmsz) bytes = stepped (CreMbf attribute bufsz maxmsz) bytes (search) (λ q. (λ h. h, refl))
  call-balanced (DelMbf buffer) bytes = untouched (DelMbf buffer) bytes (search) (λ r. (λ h. h, refl)) (refl, ends-seen _ _ E_DLT)
  call-balanced (SndMbf buffer msgsz timeout) bytes =
      untouched (SndMbf buffer msgsz timeout) bytes (search) (λ r. (λ h. h, refl))
      (either Still (not (eqb (queue_front k (queue receiving (number buffer))) 0)) (refl, none_seen _ _ _ (Message _) refl)
      (either Still (storable k (number buffer) _) (refl, refl) (refl, wait-seen _ _ _ _ timeout)))
  call-balanced (RcvMbf buffer timeout) bytes =
      untouched (RcvMbf buffer timeout) bytes (search) (λ r. (λ h. h, refl)) (either Still (not (eqb (k.buffers.used ! number buffer) 0)) (refl, refl)
      (either Still (not (eqb (queue_front k (queue sending (number buffer))) 0)) (refl, none_seen _ _ E_OK Nothing refl) (refl, wait-seen _ _ _ _ timeout)))
  call-balanced (CreMpf attribute count size) bytes = stepped (CreMpf attribute count size) bytes (search) (λ e.
      let passes = none-applies (refusals k (CreMpf attribute count size) bytes) e in
      let q = unused x.exists pools in
      let few = in-range blocks count (passes 2) in
      let (r, new) = unused-free x.exists pools (eqb-false _ 0 (passes 4)) in
      let kept = (valid-steady l v).invariant.of_pools in
      let none = no_blocks (kept.shape q r.0 r.1) new in
      let counted = set_here v.is_pool_lists.count r.1 (number count) in
      let unflagged = count-all (λ b. x.taken ! slot q b) 1 (number count) (λ b m. not_taken (kept.flags q b r.1 (omega arith)) (λ g. omega (arith, g))) in (
        λ h.
            done-to h q _ (some (record { count = number count; given = 0; back = 0 }))
            (record { there = set_here v.is_pool_lists.exists r.1 1; counted = sym counted; enough = omega arith; balance = rw counted (omega arith) })
            (λ p d. (get_or-set_other x.exists q p 1 0 d, get_or-set_other x.count q p (number count) 0 d, λ b m. refl)),
        refl,
      ))
  call-balanced (DelMpf pool) bytes = stepped (DelMpf pool) bytes (search) (λ e.
      let q = number pool in
      let r = in-range pools pool (none-applies (refusals k (DelMpf pool) bytes) e 1) in
      let Same : ℕ → ℕ → Kernel → Type 0 = λ p b j. j.pools.taken ! slot p b ≡ x.taken ! slot p b in
      let cleared : (p b : ℕ) → p ≢ q → b ≤ blocks → Same p b (foldl (λ j c. with_taken j (slot q c) 0) k (up_to blocks)) = λ p b d m.
      numbers_keep (λ n. Same p b) (λ j c. with_taken j (slot q c) 0) blocks
      (λ c j i few s. get_or-set_other j.pools.taken (slot q c) (slot p b) 0 0 (λ (o : slot p b ≡ slot q c). d (omega arith)) ∙ s) k refl in
      subst (After (DelMpf pool) (Code E_OK) 0) (sym (ends-seen _ _ E_DLT)) (
        λ h.
            done-to h q _ none (set_here v.is_pool_lists.exists r.1 0)
            (λ p d. (get_or-set_other x.exists q p 0 0 d, get_or-set_other x.count q p 0 0 d, λ b. cleared p b d)),
        refl,
      ))
  call-balanced (GetMpf pool timeout) bytes = stepped (GetMpf pool timeout) bytes (search) (λ e.
      let q = number pool in
      let b = free_block k q in
      elim (ℕ_discrete b 0) [
        | yes f ↦ rw (get-waits (begun l) q timeout f) (subst (After (GetMpf pool timeout) Waits 0) (sym (wait-seen (begun l) _ _ 0 timeout)) (λ h. h, refl))
        | no d ↦
            let r = in-range pools pool (none-applies (refusals k (GetMpf pool timeout) bytes) e 2) in
            let found = first-zero (λ c. x.taken ! slot q c) 1 (x.count ! q) b refl d in
            rw (get-block (begun l) q timeout refl d) (λ h. rw found.2 at (flag-changed h q b 1 r (found.0, omega (arith, found.1))), refl)
      ])
  call-balanced (RelMpf pool block) bytes = stepped (RelMpf pool block) bytes (search) (λ e.
      let q = number pool in
      let b = number block in
      let passes = none-applies (refusals k (RelMpf pool block) bytes) e in
      let r = in-range pools pool (passes 1) in
      elim (ℕ_discrete (queue_front k (queue getting q)) 0) [
        | yes f ↦
            let is-out = and-agrees _ _ (fails (outside (pos 1) (pos (x.count ! q)) block)) (eq-agrees (x.taken ! slot q b) 1) in
            let out = is-out.0 (not-false _ (passes 3)) in
            rw (return-free (begun l) q b f) (λ h. rw out.1 at (flag-changed h q b 0 r (in-range (x.count ! q) block out.0)), refl)
        | no d ↦
            rw (return-next (begun l) q b refl d) (subst (After (RelMpf pool block) (Code E_OK) 0) (sym (ended-seen (begun l) _ E_OK (Block b)))
            (λ h. done-to h q x _ (blocks-balanced x x q refl refl 1 1 refl (a q) (h q r.0 r.1)) (λ p d. (refl, refl, λ c m. refl)), refl))
      ])
  call-balanced Tick bytes =
      let same : (u : World) (t : ℕ) → seen (tick_task u t) ≡ seen u = λ u t. let n = u.kernel.tasks.left ! t in
      either (λ v. seen v ≡ seen u) (eqb n 0 || eqb n endless) refl (either (λ v. seen v ≡ seen u) (eqb n 1) (none_seen u t E_TMOUT Nothing refl) refl) in
      untouched Tick bytes (search) (λ r. (λ h. h, refl)) (refl, fold-seen tick_task same (up_to tasks) (begun l))
