-- Lent areas made fresh: the fresh state's words, "both areas zero"; or all left alone where a length is another.
use Rattle.std.specs.Prelude.{ℕ, cond, List, ℤ}
use Rattle.model.specs.Code.{E_OK, E_SYS}
use Rattle.model.specs.Step.{fresh_lent}
use Rattle.model.specs.Words.{words}
use Rattle.valid.specs.Check.{right_lengths}

pub record Left : Type 0 where
  pub code : ℤ
  pub words : List ℕ
  pub store : List ℕ
  pub outbox : List ℕ

abbrev pub left : ℤ → List ℕ → List ℕ → List ℕ → Left
left code words store outbox = record { code = code; words = words; store = store; outbox = outbox }

unfoldable pub fresh_left : List ℕ → List ℕ → List ℕ → Left
fresh_left w store outbox =
    cond (right_lengths w store outbox)
    (left E_OK (words fresh_lent.kernel) fresh_lent.store fresh_lent.outbox)
    (left E_SYS w store outbox)
