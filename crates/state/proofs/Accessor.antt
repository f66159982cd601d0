-- What each accessor's proof cites, for any field: from what `get` and `put` do to the words to what is read and stored in the kernel;
-- n is the entry that they are handed, i the one that the contract names. Such a proof answers in a row: the number's word and its
-- cast, what `get` or `put` requires, of a setter that the words stay as many, and the result.
use Prim.Native.Nat.{ℕ}
use mathlib.Core.Path.{◌≡◌, ◌∙◌, ap}
use mathlib.Core.List.{List, []}
use lib.ListN.{length, get_or, set}
use Rattle.model.specs.Lists.{◌!◌}
use Rattle.model.specs.Words.{cut, sizes, word_count, from_fields, kernel}
use Rattle.state.proofs.LayoutLaws.{offset, read, stored, length-with_entry}
use Rattle.state.specs.Layout.{entry, with_entry}
use Rattle.state.specs.Words.{Represents}

module _ (w : List ℕ) (f : ℕ) {n i : ℕ} where
  pub got : {r : ℕ} → r ≡ entry w (offset sizes f) (get_or sizes f 0) n → n ≡ i → r ≡ get_or (cut sizes w) f [] ! i
  got e named = e ∙ read sizes w f n ∙ ap (λ m. get_or (cut sizes w) f [] ! m) named

  pub put : {v : List ℕ} (x : ℕ) → v ≡ with_entry w (offset sizes f) (get_or sizes f 0) n x → n ≡ i → length w ≡ word_count
      → Represents v (from_fields (set (cut sizes w) f (set (get_or (cut sizes w) f []) i x)))
  unfolding kernel
  put x e named l =
      record {
        length = ap length e ∙ length-with_entry w (offset sizes f) (get_or sizes f 0) n x ∙ l;
        kernel = ap kernel e ∙ ap from_fields (stored sizes w f n x ∙ ap (λ m. set (cut sizes w) f (set (get_or (cut sizes w) f []) m x)) named);
      }
