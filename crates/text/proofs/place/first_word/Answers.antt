-- `first_word` meets its contract: the word ends at the first space. Assumes nothing.
use Prim.Native.Nat.{ℕ, suc, ◌+◌}
use native.Mathlib.Omega.{arith}
use mathlib.Core.Bool.{Bool, true, false, not, cond}
use mathlib.Core.List.{List, [], ◌∷◌}
use mathlib.Core.Path.{◌≡◌, ◌∙◌, refl, sym, ap}
use lib.Dec.{eqb, ltb}
use lib.ListN.{length, take}
use lib.Seq.{take-length, take_all}
use borrow.Author.Rules.{rules}
use borrow.Author.Tests.{ltb-false}
use Rattle.std.specs.Prelude.{Option, Some, None}
use Rattle.std.specs.Option.{unwrap_or}
use Rattle.std.proofs.Common.{tests}
use Rattle.std.specs.List.{position_or_len}
use Rattle.std.proofs.lemmas.Iterator.{YieldsList-from_slice}
use Rattle.std.proofs.lemmas.Iterator.Search.{position_from_yields_List}
use Rattle.text.specs.Place.{first_word}
use Rattle.text.proofs.place.first_word.Goals as goal

abbrev space : List ℕ → ℕ
space t = position_or_len (λ (c : ℕ). eqb c 32) t

to-space : (t : List ℕ) → take (space t) t ≡ first_word t
to-space [] = refl
to-space (c ∷ t) = go (eqb c 32) (to-space t)
  where
    go : (b : Bool) → take (space t) t ≡ first_word t → take (cond (not b) (1 + space t) 0) (c ∷ t) ≡ cond b [] (c ∷ first_word t)
    go true later = refl
    go false later =
        let e : 1 + space t ≡ suc (space t) = omega arith in
        rw e (ap (λ (l : List ℕ). c ∷ l) later)

word-found : (t : List ℕ) {r : Option ℕ} {n : ℕ} → r ≡ cond (ltb (space t) (length t)) (Some (space t)) None → n ≡ unwrap_or r (length t)
    → take n t ≡ first_word t
word-found t p q = rw (q, p) (go (ltb (space t) (length t)) refl)
  where
    go : (b : Bool) → ltb (space t) (length t) ≡ b → take (unwrap_or (cond b (Some (space t)) None) (length t)) t ≡ first_word t
    go true e = to-space t
    go false e = take-length t ∙ sym (take_all (space t) t (ltb-false (space t) (length t) e)) ∙ to-space t

pub returns : goal.returns
returns c =
    let t = c.args.template.now in
    let found = position_from_yields_List (λ (x : ℕ). eqb x 32) _ _ c.position-space.result c.position-space.ensures.ran (YieldsList-from_slice t cc) (λ x b q k. search (rules, tests)) in
    word-found t found c.unwrap_or.ensures
