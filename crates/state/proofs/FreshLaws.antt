-- Laws of filling a lent area with the fresh state. Assumes nothing.
use Prim.Native.Nat.{ℕ}
use mathlib.Core.Path.{◌≡◌, ◌∙◌, refl}
use mathlib.Core.Bool.{Bool, true, false, cond}
use mathlib.Core.List.{List}
use lib.ListN.{length}
use lib.Dec.{eqb}
use native.Mathlib.Omega.{arith}
use borrow.Author.Tests.{eq-eqb, ne_eqb}
use Rattle.model.specs.Kernel.{fresh}
use Rattle.std.specs.Prelude.{Result, Ok, Err}
use Rattle.state.specs.declared.WrongLength.{WrongLength}
use Rattle.model.specs.Words.{sizes, word_count, words, fields}
use Rattle.state.specs.Words.{Represents}
use Rattle.state.specs.Fresh.{filled, fresh_words, Filling}
use Rattle.state.proofs.WordLaws.{Sized, represents}

-- the two cases
module _ (w : List ℕ) where
  pub left_alone : (length w ≡ word_count → ⊥) → Filling w (Err (record {})) w
  unfolding filled fresh_words
  left_alone h = record { answer = rw (ne_eqb _ _ h, filled); words = rw (ne_eqb _ _ h, fresh_words) }

  pub made : (v : List ℕ) → length w ≡ word_count → v ≡ words fresh → Filling w (Ok tt) v
  unfolding filled fresh_words
  made v h e = record { answer = rw (eq-eqb _ _ h, filled); words = e ∙ rw (eq-eqb _ _ h, fresh_words) }

  -- what an area holds after the answer `Ok`
  pub done : (v : List ℕ) → Filling w (Ok tt) v → v ≡ words fresh
  unfolding filled fresh_words
  done v f = by-test (eqb (length w) word_count) f.answer f.words
    where
      by-test : (b : Bool) → ◌≡◌ {A = Result Unit WrongLength} (Ok tt) (cond b (Ok tt) (Err (record {}))) → v ≡ cond b (words fresh) w → v ≡ words fresh
      by-test true a e = e
      by-test false a e = let z : ◌≡◌ {A = ℕ} 0 1 = cc in absurd (omega arith)

-- the words that are made represent the fresh kernel
pub fresh-represented : Represents (words fresh) fresh
unfolding fields sizes Sized fresh
fresh-represented = represents fresh refl
