-- The number that a task was made from. Assumes nothing.
use Rattle.model.proofs.Terms.{ℕ, ◌≡◌, ◌∙◌, refl, sym, ap, eqb, eqb-true}
use Rattle.model.specs.Number.{TaskNumber, maybe_task, task_word}
use Rattle.model.proofs.ListLaws.{by-test}
use Rattle.model.proofs.NumberLaws.{number-made}
use Rattle.std.specs.Prelude.{Option}

pub word_made : {n r : ℕ} {found : Option TaskNumber} → found ≡ maybe_task n → r ≡ task_word found → r ≡ n
word_made {n} made e =
    e ∙ ap task_word (made ∙ number-made n) ∙ by-test (λ (x : Option TaskNumber). task_word x ≡ n) (eqb n 0) (λ z. sym (eqb-true n 0 z)) (λ z. refl)
