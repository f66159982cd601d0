-- The calls on fixed pools keep what holds between acts.
use mathlib.Core.Bool.{and-eq-true_iff}
use mathlib.Core.Logic.{⊎_elim}
use Rattle.model.proofs.Terms.{ℕ, suc, ◌+◌, ◌*◌, ◌≤◌, ◌<◌, ℕ_discrete, arith, ◌≡◌, ◌∙◌, refl, subst, ◌≢◌, ◌⊎◌, inl, inr, List, foldl, length, set, length-set, set-get_or, get_or-set_same, get_or-set_other, ℤ, eqb, eq-eqb, eqb-false, ltb-false, not-true, not-false, tasks, pools, blocks, block_bytes, pool_bytes, ◌!◌, up_to, E_OK, E_DLT, number, queue, getting, Kernel, Pools, slot, with_pool_exists, with_pool_attribute, with_count, with_size, with_taken, World, Block, with_kernel, queue_order, queue_front, running, unused, pool_attributes, free_block, handed_out, pool_sum, nobody_runs, bad_attribute, bad_field, bad_number, no_such, none_free, no_time, cre_mpf_refusals, get_mpf_refusals, rel_mpf_refusals, deletion_refusals, refusals, cre_mpf, del_mpf, perform, fields_of, Each, From}
use Rattle.model.specs.declared.call.Call.TheVariants.{CreMpf, DelMpf, GetMpf, RelMpf}
use Rattle.model.proofs.RefusalLaws.{none-applies, in-range, allowed, wait-time, first-zero, unused-free}
use Rattle.model.proofs.ByCase.{get-waits, get-block, return-free, return-next}
use Rattle.queue.proofs.Members.{front-stood, running-stood, nobody-there}
use Rattle.valid.specs.Tests.{none-agrees}
use Rattle.invariant.specs.Rows.{TaskRow, PoolRow, pool_rows, with_pool_row}
use Rattle.invariant.specs.Invariant.{PoolShape, Gets, PoolsKept, Steady}
use Rattle.invariant.proofs.Parts.{pool-exchanged}
use Rattle.model.proofs.Folds.{numbers_keep}
use Rattle.invariant.proofs.Moves.{meets-pool}
use Rattle.ready.proofs.KeptLaws.{bits-beside}
use Rattle.invariant.proofs.Waits.{priorities-beside, ended, waits-quiet}
use Rattle.invariant.proofs.Ends.{struck-out, strike}
use Rattle.preservation.proofs.Keeps.{Keeps}
use Rattle.preservation.proofs.Objects.{nobody-awaits, all-started, nobody-left}

-- ---- what is known of a pool and of a block's flag

pub no_blocks : {r : PoolRow} → PoolShape r → r.exists ≡ 0 → r.count ≡ 0
no_blocks shape e = ⊎_elim (λ g. g.2) (λ g. absurd (omega (arith, g.0))) shape

pool-there : {r : PoolRow} → PoolShape r → r.exists ≢ 0 → (r.exists ≡ 1) × (r.count ≤ blocks)
pool-there shape n = ⊎_elim (λ g. absurd (n g.0)) (λ g. (g.0, g.2.1)) shape

-- a block that its pool has not got is not handed out
pub not_taken : {x : ℕ} {P : Type 0} → (x ≡ 0) ⊎ ((x ≡ 1) × P) → (P → ⊥) → x ≡ 0
not_taken flag n = ⊎_elim (λ z. z) (λ z. absurd (n z.1)) flag

-- ---- a pool's flags are cleared one by one

abbrev pub clear : ℕ → List ℕ → ℕ → List ℕ
clear p xs b = set xs (slot p b) 0

-- how far that has come: those below n
record Cleared (p : ℕ) (old : List ℕ) (n : ℕ) (xs : List ℕ) : Type 0 where
  long : length xs ≡ length old
  below : (b : ℕ) → b < n → xs ! slot p b ≡ 0
  other : (i : ℕ) → ((b : ℕ) → b ≤ blocks → i ≢ slot p b) → xs ! i ≡ old ! i

module _ {rows : ℕ → TaskRow} {x : Pools} (v : PoolsKept rows x) (p : ℕ) (high : p ≤ pools) where
  clears : (n : ℕ) (xs : List ℕ) → 1 ≤ n → n ≤ blocks → Cleared p x.taken n xs → Cleared p x.taken (suc n) (clear p xs n)
  clears n xs i j g =
      record {
        long = length-set xs (slot p n) 0 ∙ g.long;
        below = λ b h.
            elim (ℕ_discrete b n) [
              | yes q ↦ rw q (get_or-set_same xs (slot p n) 0 0 (omega (arith, g.long, v.size)))
              | no d ↦ get_or-set_other xs (slot p n) (slot p b) 0 0 (λ (z : slot p b ≡ slot p n). d (omega arith)) ∙ g.below b (omega arith)
            ];
        other = λ a h. get_or-set_other xs (slot p n) a 0 0 (h n j) ∙ g.other a h;
      }

  cleared : Cleared p x.taken (suc blocks) (foldl (clear p) x.taken (up_to blocks))
  cleared =
      numbers_keep (Cleared p x.taken) (clear p) blocks clears x.taken
      (record { long = refl; below = λ b h. not_taken (v.flags p b high (omega arith)) (λ g. omega (arith, g)); other = λ i h. refl })

-- ---- the calls

module _ {w : World} (s : Steady 0 w) where
  abbrev k : Kernel
  k = w.kernel

  pub creates-pool : (attribute count size : ℤ) → Keeps w (CreMpf attribute count size)
  unfolding refusals cre_mpf_refusals bad_attribute bad_field none_free pool_sum perform cre_mpf with_kernel with_size with_count with_pool_attribute with_pool_exists
  creates-pool attribute count size bytes fit e =
      let passed = none-applies (refusals k (CreMpf attribute count size) bytes) e in
      let n = unused k.pools.exists pools in
      let f = unused-free k.pools.exists pools (eqb-false _ 0 (passed 4)) in
      let r = f.0 in
      let none = no_blocks (s.invariant.of_pools.shape n r.0 r.1) f.1 in
      let room : pool_sum k + number count * number size ≤ pool_bytes = ltb-false pool_bytes _ (passed 5) in
      record {
        invariant =
            pool-exchanged s.invariant n r.0 r.1
            (record { exists = 1; attribute = number attribute; count = number count; size = number size }) k.pools.taken
            (inr (refl, allowed pool_attributes attribute (passed 1), in-range blocks count (passed 2), in-range block_bytes size (passed 3))) refl
            (λ b h. inl (not_taken (s.invariant.of_pools.flags n b r.1 h) (λ g. omega (arith, g, none)))) (λ q b d h. refl) (omega arith)
            (λ u i j p o. absurd (nobody-awaits k k.pools.exists getting n f.1 (λ t x y q. (s.invariant.of_pools.waits t x y q).there) u i j p o));
        priorities = priorities-beside k _ _ _ _ s.priorities;
        bitmap = bits-beside k _ refl refl refl s.bitmap;
      }

  pub deletes-pool : (pool : ℤ) → Keeps w (DelMpf pool)
  unfolding refusals deletion_refusals bad_number perform del_mpf with_kernel with_size with_count with_pool_attribute with_pool_exists with_taken
  deletes-pool pool bytes fit e =
      let p = number pool in
      let r = in-range pools pool (none-applies (refusals k (DelMpf pool) bytes) e 1) in
      let absent : PoolRow = record { exists = 0; attribute = 0; count = 0; size = 0 } in
      let gone : Pools → Pools = λ x. with_pool_row x p absent (foldl (clear p) x.taken (up_to blocks)) in
      let struck : World → World = strike (λ x. x) (λ x. x) gone (λ x. x) in
      struck-out (λ x. x) (λ x. x) gone (λ x. x) E_DLT (queue_order k (queue getting p)) w (struck w) refl
      (priorities-beside k _ _ _ _ s.priorities) (bits-beside k _ refl refl refl s.bitmap) refl s (all-started s (queue getting p) (omega arith))
      (λ left.
      let x = left.steady.invariant in
      let c = cleared x.of_pools p r.1 in
      pool-exchanged x p r.0 r.1 absent _ (inl (refl, refl, refl, refl)) c.long (λ b h. inl (c.below b (omega arith)))
      (λ q b d h. c.other (slot q b) (λ a l (z : slot q b ≡ slot p a). d (omega arith))) (omega (arith, x.of_pools.room))
      (λ u i j g o. absurd (nobody-left s (queue getting p) (omega arith) left (λ t h. h) u i j g o)))

  -- a block's flag exchanged, where nobody waits
  flagged : (p : ℕ) → From 1 pools p → k.pools.exists ! p ≢ 0 → (b n : ℕ) → From 1 (k.pools.count ! p) b
      → (n ≡ 0) ⊎ ((n ≡ 1) × From 1 (k.pools.count ! p) b) → Each tasks (λ u. k.tasks.place ! u ≡ getting → k.tasks.object ! u ≢ p)
      → Steady 0 (with_kernel w (with_taken k (slot p b) n))
  unfolding with_kernel with_taken
  flagged p r there b n g new nobody =
      let x = k.pools in
      let shape = s.invariant.of_pools.shape p r.0 r.1 in
      let few = (pool-there shape there).1 in
      record {
        invariant =
            rw (set-get_or x.exists p 0, set-get_or x.attribute p 0, set-get_or x.count p 0, set-get_or x.size p 0) at
            (pool-exchanged s.invariant p r.0 r.1 (pool_rows x p) (set x.taken (slot p b) n) shape (length-set x.taken (slot p b) n)
            (λ c h.
            elim (ℕ_discrete c b) [
              | yes q ↦ rw (q, get_or-set_same x.taken (slot p b) n 0 (omega (arith, s.invariant.of_pools.size))) new
              | no d ↦ rw (get_or-set_other x.taken (slot p b) (slot p c) n 0 (λ (z : slot p c ≡ slot p b). d (omega arith))) (s.invariant.of_pools.flags p c r.1 h)
            ])
            (λ q c d h. get_or-set_other x.taken (slot p b) (slot q c) n 0 (λ (z : slot q c ≡ slot p b). d (omega arith)))
            (omega (arith, s.invariant.of_pools.room)) (λ u i j y o. absurd (nobody u i j y o)));
        priorities = priorities-beside k _ _ _ _ s.priorities;
        bitmap = bits-beside k _ refl refl refl s.bitmap;
      }

  pub gets-block : (pool timeout : ℤ) → Keeps w (GetMpf pool timeout)
  unfolding refusals get_mpf_refusals nobody_runs bad_number no_such no_time free_block perform fields_of
  gets-block pool timeout bytes fit e =
      let p = number pool in
      let b = free_block k p in
      let passed = none-applies (refusals k (GetMpf pool timeout) bytes) e in
      let f = running-stood k (eqb-false _ 0 (passed 0)) in
      let r = in-range pools pool (passed 2) in
      let there = eqb-false _ 0 (passed 3) in
      elim (ℕ_discrete b 0) [
        | yes z ↦
            rw (get-waits w p timeout z)
            (waits-quiet s (running k) f.low f.high (queue getting p) 0 timeout refl f.place (omega arith, omega arith)
            (meets-pool k (running k) p
            (record {
              there = (pool-there (s.invariant.of_pools.shape p r.0 r.1) there).0;
              none_free = λ c i j.
                  eqb-false _ 0 ((none-agrees (λ a. eqb (k.pools.taken ! slot p a) 0) (k.pools.count ! p)).0 (eq-eqb b 0 z) c i j);
            }))
            (wait-time timeout (eqb b 0) fit.1.0 (passed 4) (eq-eqb b 0 z)))
        | no d ↦
            let free = first-zero (λ c. k.pools.taken ! slot p c) 1 (k.pools.count ! p) b refl d in
            let g : From 1 (k.pools.count ! p) b = (free.0, omega (arith, free.1)) in
            rw (get-block w p timeout refl d)
            (flagged p r there b 1 g (inr (refl, g))
            (λ u i j x o.
            (subst (λ (n : ℕ). Gets (pool_rows k.pools n) (λ c. k.pools.taken ! slot n c)) o (s.invariant.of_pools.waits u i j x)).none_free b g.0 g.1 free.2))
      ]

  pub returns-block : (pool block : ℤ) → Keeps w (RelMpf pool block)
  unfolding refusals rel_mpf_refusals bad_number no_such handed_out perform
  returns-block pool block bytes fit e =
      let p = number pool in
      let first = queue_front k (queue getting p) in
      let passed = none-applies (refusals k (RelMpf pool block) bytes) e in
      let inside = not-true _ ((and-eq-true_iff _ _).0 (not-false _ (passed 3))).0 in
      elim (ℕ_discrete first 0) [
        | yes z ↦
            rw (return-free w p (number block) z)
            (flagged p (in-range pools pool (passed 1)) (eqb-false _ 0 (passed 2)) (number block) 0 (in-range (k.pools.count ! p) block inside) (inl refl)
            (nobody-there k s.invariant.of_tasks.listing (queue getting p) (omega arith) z))
        | no d ↦
            let f = front-stood k (queue getting p) d in
            rw (return-next w p (number block) refl d) (ended s first f.low f.high E_OK (Block (number block)) (omega (arith, f.place)))
      ]
