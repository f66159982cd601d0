-- del_mpf: the pool is struck out. Assumes nothing.
use Rattle.model.proofs.Terms.{ℕ, ◌+◌, ◌-◌, ◌≤◌, ◌<◌, ◌≡◌, ◌∙◌, refl, sym, ap, List, length, foldl, blocks, count_from, kernel, word_count}
use Rattle.state.specs.Words.{Represents}
use Rattle.act.proofs.Loop.{counted, counted-all}
use Rattle.pool.specs.Rows.{pool_row, freed, all_freed, struck_out}

-- the blocks from n + 1 on are left
pub record Freeing (p : ℕ) (s : List ℕ) (n : ℕ) (s' : List ℕ) : Type 0 where
  pub words : length s' ≡ word_count
  pub rest : foldl (freed p) (kernel s') (count_from (n + 1) (blocks - n)) ≡ all_freed (kernel s) p

pub frees_all : (p : ℕ) {s : List ℕ} → length s ≡ word_count → Freeing p s 0 s
frees_all p h = record { words = h; rest = refl }

module _ {p : ℕ} {s s1 : List ℕ} {n : ℕ} (f : Freeing p s n s1) where
  pub frees-more : n < blocks → {s' : List ℕ} → Represents s' (freed p (kernel s1) (n + 1)) → Freeing p s (n + 1) s'
  frees-more h r =
      record {
        words = r.length;
        rest = rw r.kernel (ap (foldl (freed p) (kernel s1)) (sym (counted blocks n h)) ∙ f.rest);
      }

  pub frees-done : blocks ≤ n → Represents s1 (all_freed (kernel s) p)
  frees-done h = record { length = f.words; kernel = rw (counted-all blocks n h) at f.rest }

pub strikes-out : (p : ℕ) (s : List ℕ) {s1 s2 : List ℕ} → Represents s1 (pool_row (kernel s) p 0 0 0 0) → Represents s2 (all_freed (kernel s1) p)
    → Represents s2 (struck_out (kernel s) p)
strikes-out p s a b = rw a.kernel at b
