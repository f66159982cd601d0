-- cre_mtx, in the order of the code's steps. Assumes nothing.
use Rattle.std.proofs.Math.Option.{some}
use Rattle.std.specs.Prelude.{None, Option, Some}
use Rattle.model.proofs.Terms.{ℕ, ◌≡◌, ◌∙◌, refl, Bool, true, false, ◌&&◌, ◌||◌, not, none, cond, List, [], ◌∷◌, length, ℤ, pos, lt_z, eqb, priorities, mutexes, member, E_RSATR, E_PAR, E_LIMIT, number, ceilinged, Kernel, with_mutex_exists, with_mutex_attribute, with_ceiling, unused, Refusal, refuse, first_refusal, outside, mutex_attributes, none_free, cre_mtx_refusals, cre_mtx, kernel, word_count, answer_bytes}
use Rattle.model.specs.Number.{maybe_mutex, MutexNumber}
use Rattle.model.specs.declared.call.Answer.{Answer}
use Rattle.model.specs.declared.call.Answer.TheVariants.{Code}
use Rattle.model.proofs.NumberLaws.{mutex_kind}
use Rattle.state.specs.Words.{Represents}
use Rattle.script.specs.Place.{Appends}
use Rattle.reply.specs.Replies.{CarriesInWords}
use Rattle.reply.proofs.Refusing.{refused-here, refused-later}
use Rattle.reply.proofs.Conditions.{attribute-refused, attribute-later}
use Rattle.reply.proofs.Creations.{full-refused, unused-later, never-full, creates}

module _ (k : Kernel) (attribute ceiling : ℤ) {b : ℤ} (b-is : b ≡ attribute) {a : ℕ} (a-is : a ≡ number b) {allowed : Bool}
    (allowed-is : allowed ≡ member a mutex_attributes) where
  abbrev beyond : Refusal
  beyond = refuse 4 E_PAR (eqb (number attribute) ceilinged && outside (pos 1) (pos priorities) ceiling)

  abbrev full : Refusal
  full = none_free k.mutexes.exists mutexes

  pub create-attribute : lt_z b (pos 0) || not allowed ≡ true → some E_RSATR ≡ first_refusal (cre_mtx_refusals k attribute ceiling)
  unfolding cre_mtx_refusals
  create-attribute e = attribute-refused mutex_attributes attribute b-is a-is allowed-is (beyond ∷ full ∷ []) e

  module _ (fine : lt_z b (pos 0) || not allowed ≡ false) {d : ℤ} (d-is : d ≡ ceiling) {bad : Bool} (bad-is : bad ≡ outside (pos 1) (pos priorities) d) where
    asked : eqb (number attribute) ceilinged && outside (pos 1) (pos priorities) ceiling ≡ eqb a ceilinged && bad
    asked = cc

    pub create-ceiling : eqb a ceilinged && bad ≡ true → some E_PAR ≡ first_refusal (cre_mtx_refusals k attribute ceiling)
    unfolding cre_mtx_refusals
    create-ceiling e =
        attribute-later mutex_attributes attribute b-is a-is allowed-is (beyond ∷ full ∷ []) fine (refused-here beyond (full ∷ []) (asked ∙ e))

    module _ (within : eqb a ceilinged && bad ≡ false) {found : Option MutexNumber} (from : found ≡ maybe_mutex (unused k.mutexes.exists mutexes)) where
      pub create-full : found ≡ None → some E_LIMIT ≡ first_refusal (cre_mtx_refusals k attribute ceiling)
      unfolding cre_mtx_refusals
      create-full e =
          attribute-later mutex_attributes attribute b-is a-is allowed-is (beyond ∷ full ∷ []) fine
          (refused-later beyond (full ∷ []) (asked ∙ within) (full-refused mutex_kind k.mutexes.exists from [] e))

      pub create-allowed : {m : MutexNumber} → found ≡ Some m → none ≡ first_refusal (cre_mtx_refusals k attribute ceiling)
      unfolding cre_mtx_refusals
      create-allowed e =
          attribute-later mutex_attributes attribute b-is a-is allowed-is (beyond ∷ full ∷ []) fine
          (refused-later beyond (full ∷ []) (asked ∙ within) (unused-later mutex_kind k.mutexes.exists from [] e refl))

-- and what it does
pub create-room : (k : Kernel) (attribute ceiling : ℤ) {found : Option MutexNumber} → found ≡ maybe_mutex (unused k.mutexes.exists mutexes)
    → first_refusal (cre_mtx_refusals k attribute ceiling) ≡ none → found ≡ None → ⊥
unfolding cre_mtx_refusals none_free
create-room k attribute ceiling made e g = never-full mutex_kind k.mutexes.exists made (cre_mtx_refusals k attribute ceiling) 2 e refl g

pub creates-mutex : (attribute ceiling : ℤ) {b d : ℤ} → b ≡ attribute → d ≡ ceiling → (caller : ℕ) {s log l1 s1 s2 s3 : List ℕ} {at p a kept n : ℕ}
    {found : Option MutexNumber} {m : MutexNumber} {answer : Answer} → length s ≡ word_count → found ≡ maybe_mutex (unused (kernel s).mutexes.exists mutexes)
    → found ≡ Some m → n ≡ m.0 → answer ≡ Code (pos n) → Appends log at (answer_bytes answer) l1 p → a ≡ number b
    → kept ≡ cond (eqb a ceilinged) (number d) 0 → Represents s1 (with_mutex_exists (kernel s) m.0 1)
    → Represents s2 (with_mutex_attribute (kernel s1) m.0 a) → Represents s3 (with_ceiling (kernel s2) m.0 kept)
    → CarriesInWords caller (λ w. cre_mtx w (number attribute) ceiling) s log at s3 l1 (record { answer = answer; next = p })
unfolding cre_mtx
creates-mutex attribute ceiling b-is d-is caller h made is-some n-is answer-is l a-is kept-is x y z =
    let kept = cond (eqb (number attribute) ceilinged) (number ceiling) 0 in
    creates mutex_kind (λ k. k.mutexes.exists)
    (λ k n. with_ceiling (with_mutex_attribute (with_mutex_exists k n 1) n (number attribute)) n kept) caller h made is-some n-is answer-is l
    (record { length = z.length; kernel = cc })
