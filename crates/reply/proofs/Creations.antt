-- Creations of any kind of object: order 9, and the number that is unused is answered, and the entries of its object are filled. Assumes nothing.
use lib.IntN.{ℤ}
use Rattle.model.proofs.Terms.{ℕ, ◌^◌, ◌<◌, arith, ◌≡◌, ◌∙◌, sym, true, false≢true, Option, none, some, List, ◌∷◌, length, pos, eqb, eq-eqb, ne_eqb, E_LIMIT, Kernel, World, Nothing, with_kernel, unused, Refusal, refuse, first_refusal, none_free, Done, answered, From, kernel, word_count, answer_bytes}
use Rattle.model.specs.declared.call.Answer.{Answer}
use Rattle.model.specs.declared.call.Answer.TheVariants.{Code}
use Rattle.model.proofs.NumberLaws.{Kind, is_some, is_none}
use Rattle.model.proofs.RefusalLaws.{applies_at, none-applies, unused-free}
use Rattle.state.specs.Words.{Represents}
use Rattle.script.specs.Place.{Appends}
use Rattle.reply.specs.Replies.{CarriesInWords}
use Rattle.reply.proofs.Refusing.{refused-here, refused-later}
use Rattle.reply.proofs.Replying.{answer-alone, carried-in-words, in-words-as, changes-kernel}

module _ {A : Type 0} (kind : Kind A) (entries : List ℕ) {found : A} (made : found ≡ kind.make (unused entries kind.last)) where
  none-unused : found ≡ kind.none → eqb (unused entries kind.last) 0 ≡ true
  none-unused e = eq-eqb (unused entries kind.last) 0 (is_none kind made e)

  pub full-refused : (rs : List Refusal) → found ≡ kind.none → some E_LIMIT ≡ first_refusal (none_free entries kind.last ∷ rs)
  unfolding none_free
  full-refused rs e = refused-here (refuse 9 E_LIMIT _) rs (none-unused e)

  pub unused-later : {v : Option ℤ} (rs : List Refusal) {x : ℕ} → found ≡ kind.some x → v ≡ first_refusal rs
      → v ≡ first_refusal (none_free entries kind.last ∷ rs)
  unfolding none_free
  unused-later rs e f = refused-later (refuse 9 E_LIMIT _) rs (ne_eqb (unused entries kind.last) 0 (is_some kind made e).1) f

  -- where no refusal applies, its own among them, a number is unused
  pub never-full : (rs : List Refusal) (i : ℕ) → first_refusal rs ≡ none → applies_at rs i ≡ eqb (unused entries kind.last) 0 → found ≡ kind.none → ⊥
  never-full rs i e f g = false≢true (sym (none-applies rs e i) ∙ f ∙ none-unused g)

  -- and it is in range
  new-number : {x : ℕ} → found ≡ kind.some x → (unused entries kind.last ≡ x) × From 1 kind.last x
  new-number e = let q = is_some kind made e in (sym q.0, rw q.0 (unused-free entries kind.last q.1).0)

  -- so that an answer can be that number
  pub new-fits : kind.last < 2 ^ 31 → {x n : ℕ} → found ≡ kind.some x → n ≡ x → n < 2 ^ 31
  new-fits h e n-is = omega (arith, (new-number e).1.1, n-is)

-- a creation, by the entries that are 0 where there is no object, and what is filled in
abbrev creation : {A : Type 0} → Kind A → (Kernel → List ℕ) → (Kernel → ℕ → Kernel) → World → Done
creation kind entries fill w =
    let n = unused (entries w.kernel) kind.last in
    answered (pos n) Nothing (with_kernel w (fill w.kernel n))

pub creates : {A : Type 0} (kind : Kind A) (entries : Kernel → List ℕ) (fill : Kernel → ℕ → Kernel) (caller : ℕ) {s s' log l1 : List ℕ} {at next : ℕ}
    {found : A} {x n : ℕ} {answer : Answer} → length s ≡ word_count → found ≡ kind.make (unused (entries (kernel s)) kind.last)
    → found ≡ kind.some x → n ≡ x → answer ≡ Code (pos n) → Appends log at (answer_bytes answer) l1 next → Represents s' (fill (kernel s) x)
    → CarriesInWords caller (creation kind entries fill) s log at s' l1 (record { answer = answer; next = next })
creates kind entries fill caller {s} {x = x} {answer = answer} h made there n-is answer-is a r =
    in-words-as caller (λ store outbox. rw ((new-number kind (entries (kernel s)) made there).0, answer-is, n-is))
    (carried-in-words caller answer Nothing _ h (answer-alone caller answer a) (changes-kernel (λ k. fill k x) r))
