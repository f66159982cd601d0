-- How many blocks of a pool are free, counted block by block. Assumes nothing.
use Rattle.model.proofs.Terms.{ℕ, ◌+◌, ◌≤◌, ◌<◌, add-zero, arith, ◌≡◌, ◌∙◌, sym, ap, List, map, length, length-map, ne_eqb, ◌!◌, up_to, Pools, slot}
use Rattle.model.proofs.ListLaws.{length-count_from, mapped_at}
use Rattle.valid.proofs.Arrivals.{Counted, count-all, count-more, count-done}
use Rattle.pool_account.specs.Statements.{free}

-- the flags of a pool's blocks
abbrev flags : Pools → ℕ → List ℕ
flags x p = map (λ b. x.taken ! slot p b) (up_to (x.count ! p))

-- those counted, and those of the blocks still to be seen, are all
pub record Seen (x : Pools) (p count n i : ℕ) : Type 0 where
  pub counted : Counted 0 (flags x p) n i
  pub is : count ≡ x.count ! p

pub see-all : (x : Pools) (p count : ℕ) → count ≡ x.count ! p → Seen x p count 0 0
see-all x p count e = record { counted = count-all 0 (flags x p); is = e }

module _ {x : Pools} {p count n i : ℕ} (seen : Seen x p count n i) where
  long : length (flags x p) ≡ count
  long = rw (length-map, length-count_from) (sym seen.is)

  pub few-seen : n ≤ i
  few-seen = seen.counted.few

  module _ (h : i < count) (flag : ℕ) (e : flag ≡ x.taken ! slot p (i + 1)) where
    here : flag ≡ flags x p ! i
    here = e ∙ ap (λ (b : ℕ). x.taken ! slot p b) (omega arith) ∙ sym (mapped_at (λ b. x.taken ! slot p b) 1 (x.count ! p) i 0 (omega (arith, seen.is)))

    pub see-free : flag ≡ 0 → Seen x p count (n + 1) (i + 1)
    see-free z = record { counted = count-more seen.counted count flag 1 long h here (rw z); is = seen.is }

    pub see-taken : (flag ≡ 0 → ⊥) → Seen x p count n (i + 1)
    see-taken d =
        record {
          counted = rw add-zero at (count-more seen.counted count flag 0 long h here (rw (ne_eqb 0 flag (λ z. d (sym z)))));
          is = seen.is;
        }

  pub seen_all : count ≤ i → n ≡ free x p
  seen_all h = count-done seen.counted count long h
