-- What is known where a row is asked for: the words are a state's, and everything lent is valid. Assumes nothing.
use Rattle.model.proofs.Terms.{◌≡◌, true, List, ℕ, length, eqb, Valid, valid, word_count, lent, is_valid}
use Rattle.valid.specs.Tests.{and-agrees, eq-agrees, itself}
use Rattle.valid.specs.Agree.{valid-agrees}

module _ (w s o : List ℕ) (asked : is_valid w s o ≡ true) where
  parts : (length w ≡ word_count) × (valid (lent w s o) ≡ true)
  unfolding is_valid
  parts = (and-agrees (eqb (length w) word_count) (valid (lent w s o)) (eq-agrees (length w) word_count) (itself (valid (lent w s o)))).0 asked

  pub asked-words : length w ≡ word_count
  asked-words = parts.0

  pub asked-sound : valid (lent w s o) ≡ true
  asked-sound = parts.1

  pub asked-valid : Valid (lent w s o)
  asked-valid = (valid-agrees (lent w s o)).0 asked-sound
