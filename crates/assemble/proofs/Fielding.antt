-- Fields, one by one. Assumes nothing.
use Rattle.std.proofs.Common.{◌≡◌, ◌<◌, ◌≤◌, ◌+◌, ◌-◌, ℕ, zero, suc, ◌∙◌, ap, refl, arith, List, ◌++◌, length, set, ℤ, Result, Ok, Err}
use Rattle.std.proofs.lemmas.List.{length-set, set-append_left}
use Rattle.assemble.specs.declared.reason.Reason.{Reason}
use Rattle.assemble.specs.Words.{word_start, word_end, word_at}
use Rattle.assemble.specs.Read.{Read, read}
use Rattle.assemble.specs.Fields.{field_at, fields_from}

-- what a field does to the values, of which n more are to come
abbrev pub by_field : ℕ → ℕ → List ℤ → List ℕ → ℕ → List ℕ → ℕ → Result ℤ Reason → Read ℤ
by_field n i values names t line at f =
    elim f [ Err why ↦ read values (Err why) | Ok z ↦ fields_from n (suc i) (set values i z) names t line at ]

module _ (count i : ℕ) (values : List ℤ) (names : List ℕ) (t : ℕ) (line : List ℕ) (at : ℕ) (room : i < count) where
  step : fields_from (count - i) i values names t line at
      ≡ by_field (count - (i + 1)) i values names (word_end names (word_start names t)) line (word_end line (word_start line at))
      (field_at (word_at names (word_start names t)) line (word_start line at))
  step = ap (λ (n : ℕ). fields_from n i values names t line at) (let e : count - i ≡ suc (count - (i + 1)) = omega arith in e)

  pub field-goes : (z : ℤ) → field_at (word_at names (word_start names t)) line (word_start line at) ≡ Ok z
      → fields_from (count - i) i values names t line at
      ≡ fields_from (count - (i + 1)) (i + 1) (set values i z) names (word_end names (word_start names t)) line (word_end line (word_start line at))
  field-goes z e =
      step ∙ ap (by_field (count - (i + 1)) i values names (word_end names (word_start names t)) line (word_end line (word_start line at))) e
      ∙ ap (λ (k : ℕ). fields_from (count - (i + 1)) k (set values i z) names (word_end names (word_start names t)) line (word_end line (word_start line at)))
      (let s : suc i ≡ i + 1 = omega arith in s)

  pub field-stops : (why : Reason) → field_at (word_at names (word_start names t)) line (word_start line at) ≡ Err why
      → fields_from (count - i) i values names t line at ≡ read values (Err why)
  field-stops why e =
      step ∙ ap (by_field (count - (i + 1)) i values names (word_end names (word_start names t)) line (word_end line (word_start line at))) e

-- values behind those that are read stay as they are
pub others-stay : (n i : ℕ) (a b : List ℤ) (names : List ℕ) (t : ℕ) (line : List ℕ) (at : ℕ) → n + i ≤ length a
    → fields_from n i (a ++ b) names t line at ≡ read ((fields_from n i a names t line at).area ++ b) (fields_from n i a names t line at).step
others-stay zero i a b names t line at h = refl
others-stay (suc n) i a b names t line at h =
    let t' = word_end names (word_start names t) in
    let at' = word_end line (word_start line at) in
    elim (field_at (word_at names (word_start names t)) line (word_start line at))
    as (λ f. by_field n i (a ++ b) names t' line at' f ≡ read ((by_field n i a names t' line at' f).area ++ b) (by_field n i a names t' line at' f).step) [
      | Err why ↦ refl
      | Ok z ↦
          ap (λ (v : List ℤ). fields_from n (suc i) v names t' line at') (set-append_left a b i z (omega arith))
          ∙ others-stay n (suc i) (set a i z) b names t' line at' (omega (arith, length-set a i z))
    ]
