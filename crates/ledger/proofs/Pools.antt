-- The calls on fixed pools and the ledger: it sees no block, taken or free.
use Rattle.model.proofs.Terms.{E_DLT, ℕ_discrete, arith, ◌≡◌, refl, none, foldl, ℤ, eqb-false, pools, blocks, ◌!◌, up_to, E_OK, number, queue, locking, getting, Kernel, Pools, with_pools, with_pool_exists, with_pool_attribute, with_count, with_size, with_taken, facts, stands_in, Lent, Nothing, Block, begun, with_kernel, with_outbox, queue_order, queue_front, unused, free_block, nobody_runs, bad_number, none_free, cre_mpf_refusals, get_mpf_refusals, deletion_refusals, refusals, cre_mpf, del_mpf, perform, with_pool_entry, join, depart, with_lines, line, waits_in, answered_with}
use Rattle.model.specs.declared.call.Call.TheVariants.{CreMpf, DelMpf, GetMpf, RelMpf}
use Rattle.model.proofs.RefusalLaws.{none-applies, in-range, unused-free}
use Rattle.model.proofs.ByCase.{get-waits, get-block, return-free, return-next}
use Rattle.queue.proofs.Members.{front-stood}
use Rattle.invariant.specs.Rows.{PoolRow, with_pool_row}
use Rattle.invariant.specs.Invariant.{Steady}
use Rattle.invariant.proofs.Ends.{strike}
use Rattle.preservation.proofs.Pools.{clear}
use Rattle.preservation.proofs.Objects.{all-started}
use Rattle.ledger.specs.Abstraction.{widths, ledger_of}
use Rattle.ledger.proofs.Entries.{pool-entered}
use Rattle.ledger.proofs.Acts.{end-follows, strike-follows}
use Rattle.ledger.proofs.Enters.{Enters, answers, caller-waits}

module _ {x : Lent} (s : Steady 0 (begun x)) where
  abbrev k : Kernel
  k = x.kernel

  pub creates-pool : (attribute count size : ℤ) → Enters x (CreMpf attribute count size)
  unfolding refusals cre_mpf_refusals none_free perform cre_mpf with_kernel with_size with_count with_pool_attribute with_pool_exists with_pools answered_with
  creates-pool attribute count size bytes e =
      let p = unused k.pools.exists pools in
      let free = unused-free k.pools.exists pools (eqb-false _ 0 (none-applies (refusals k (CreMpf attribute count size) bytes) e 4)) in
      answers p Nothing _
      (pool-entered s.invariant p free.0.1 (record { exists = 1; attribute = number attribute; count = number count; size = number size }) k.pools.taken)

  pub deletes-pool : (pool : ℤ) → Enters x (DelMpf pool)
  unfolding refusals deletion_refusals bad_number perform del_mpf with_kernel with_size with_count with_pool_attribute with_pool_exists with_pools with_taken
      answered_with with_pool_entry join depart with_lines line
  deletes-pool pool bytes e =
      let p = number pool in
      let r = in-range pools pool (none-applies (refusals k (DelMpf pool) bytes) e 1) in
      let absent : PoolRow = record { exists = 0; attribute = 0; count = 0; size = 0 } in
      let gone : Pools → Pools = λ y. with_pool_row y p absent (foldl (clear p) y.taken (up_to blocks)) in
      let order = queue_order k (queue getting p) in
      let started = all-started s (queue getting p) (omega arith) in
      answers 0 Nothing _
      (strike-follows (λ y. y) (λ y. y) gone (λ y. y) (λ l. with_pool_entry l p none) (λ l t q. refl) E_DLT refl order (begun x)
      (strike (λ y. y) (λ y. y) gone (λ y. y) (begun x)) refl s refl started
      (λ left. pool-entered left.steady.invariant p r.1 absent _))

  pub gets-block : (pool timeout : ℤ) → Enters x (GetMpf pool timeout)
  unfolding refusals get_mpf_refusals nobody_runs bad_number perform with_kernel with_outbox answered_with waits_in ledger_of facts stands_in with_taken with_pools
  gets-block pool timeout bytes e =
      let p = number pool in
      let passed = none-applies (refusals k (GetMpf pool timeout) bytes) e in
      let r = in-range pools pool (passed 2) in
      elim (ℕ_discrete (free_block k p) 0) [
        | yes z ↦
            rw (get-waits (begun x) p timeout z)
            (caller-waits s (eqb-false _ 0 (passed 0)) (GetMpf pool timeout) (queue getting p) 0 timeout x.outbox refl
            (omega arith) (unfold widths in omega (arith, r.1)))
        | no d ↦ rw (get-block (begun x) p timeout refl d) (answers 0 _ _ refl)
      ]

  pub returns-block : (pool block : ℤ) → Enters x (RelMpf pool block)
  unfolding perform with_kernel answered_with ledger_of facts stands_in with_taken with_pools
  returns-block pool block bytes e =
      let p = number pool in
      let first = queue_front k (queue getting p) in
      elim (ℕ_discrete first 0) [
        | yes z ↦ rw (return-free (begun x) p (number block) z) (answers 0 Nothing _ refl)
        | no d ↦
            let f = front-stood k (queue getting p) d in
            rw (return-next (begun x) p (number block) refl d)
            (answers 0 Nothing _
            (end-follows (ledger_of k) s first f.low f.high (omega (arith, f.place)) E_OK (Block (number block))
            (λ (q : k.tasks.place ! first ≡ locking). absurd (omega (arith, f.place))) refl))
      ]
