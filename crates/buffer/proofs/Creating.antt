-- cre_mbf, in the order of the code's steps. Assumes nothing.
use Rattle.std.proofs.Math.Option.{some, Option}
use Rattle.std.specs.Prelude as code
use Rattle.std.specs.Prelude.{None, Some}
use Rattle.model.proofs.Terms.{ℕ, ◌≡◌, refl, Bool, true, false, ◌||◌, not, none, List, [], ◌∷◌, length, ℤ, pos, lt_z, buffers, message_bytes, region_bytes, member, E_RSATR, E_PAR, E_NOMEM, E_LIMIT, number, Kernel, unused, Refusal, refuse, first_refusal, outside, buffer_attributes, bad_field, none_free, cre_mbf_refusals, cre_mbf, kernel, word_count, answer_bytes}
use Rattle.model.specs.Number.{maybe_buffer, BufferNumber}
use Rattle.model.specs.declared.call.Answer.{Answer}
use Rattle.model.specs.declared.call.Answer.TheVariants.{Code}
use Rattle.model.proofs.NumberLaws.{buffer_kind}
use Rattle.state.specs.Words.{Represents}
use Rattle.script.specs.Place.{Appends}
use Rattle.reply.specs.Replies.{CarriesInWords}
use Rattle.reply.proofs.Refusing.{refused-here, refused-later}
use Rattle.reply.proofs.Conditions.{attribute-refused, attribute-later, field-refused, field-later}
use Rattle.reply.proofs.Creations.{full-refused, unused-later, never-full, creates}
use Rattle.buffer.specs.Rows.{buffer_row}

module _ (k : Kernel) (attribute bufsz maxmsz : ℤ) {b : ℤ} (b-is : b ≡ attribute) {a : ℕ} (a-is : a ≡ number b) {allowed : Bool}
    (allowed-is : allowed ≡ member a buffer_attributes) where
  abbrev below : Refusal
  below = refuse 4 E_PAR (lt_z bufsz (pos 0))

  abbrev unsized : Refusal
  unsized = bad_field (pos 1) (pos message_bytes) maxmsz

  abbrev full : Refusal
  full = none_free k.buffers.exists buffers

  abbrev beyond : Refusal
  beyond = refuse 10 E_NOMEM (lt_z (pos region_bytes) bufsz)

  abbrev rest : List Refusal
  rest = unsized ∷ full ∷ beyond ∷ []

  abbrev Answers : Option ℤ → Type 0
  Answers v = v ≡ first_refusal (cre_mbf_refusals k attribute bufsz maxmsz)

  pub create-attribute : lt_z b (pos 0) || not allowed ≡ true → Answers (some E_RSATR)
  unfolding cre_mbf_refusals
  create-attribute e = attribute-refused buffer_attributes attribute b-is a-is allowed-is (below ∷ rest) e

  module _ (fine : lt_z b (pos 0) || not allowed ≡ false) {s : ℤ} (s-is : s ≡ bufsz) where
    after-attribute : {v : Option ℤ} → v ≡ first_refusal (below ∷ rest) → Answers v
    unfolding cre_mbf_refusals
    after-attribute f = attribute-later buffer_attributes attribute b-is a-is allowed-is (below ∷ rest) fine f

    pub create-below : lt_z s (pos 0) ≡ true → Answers (some E_PAR)
    create-below e = after-attribute (refused-here below rest (rw s-is at e))

    module _ (natural : lt_z s (pos 0) ≡ false) {m : ℤ} (m-is : m ≡ maxmsz) {wide : Bool} (wide_is : wide ≡ outside (pos 1) (pos message_bytes) m) where
      after-below : {v : Option ℤ} → v ≡ first_refusal rest → Answers v
      after-below f = after-attribute (refused-later below rest (rw s-is at natural) f)

      pub create-size : wide ≡ true → Answers (some E_PAR)
      create-size e = after-below (field-refused (pos 1) (pos message_bytes) maxmsz m-is wide_is (full ∷ beyond ∷ []) e)

      module _ (sized : wide ≡ false) {found : code.Option BufferNumber} (made : found ≡ maybe_buffer (unused k.buffers.exists buffers)) where
        after-size : {v : Option ℤ} → v ≡ first_refusal (full ∷ beyond ∷ []) → Answers v
        after-size f = after-below (field-later (pos 1) (pos message_bytes) maxmsz m-is wide_is (full ∷ beyond ∷ []) sized f)

        pub create-full : found ≡ None → Answers (some E_LIMIT)
        create-full e = after-size (full-refused buffer_kind k.buffers.exists made (beyond ∷ []) e)

        module _ {x : BufferNumber} (is-some : found ≡ Some x) where
          pub create-beyond : lt_z (pos region_bytes) s ≡ true → Answers (some E_NOMEM)
          create-beyond e = after-size (unused-later buffer_kind k.buffers.exists made (beyond ∷ []) is-some (refused-here beyond [] (rw s-is at e)))

          pub create-allowed : lt_z (pos region_bytes) s ≡ false → Answers none
          create-allowed e = after-size (unused-later buffer_kind k.buffers.exists made (beyond ∷ []) is-some (refused-later beyond [] (rw s-is at e) refl))

-- and what it does
pub create-room : (k : Kernel) (attribute bufsz maxmsz : ℤ) {found : code.Option BufferNumber} → found ≡ maybe_buffer (unused k.buffers.exists buffers)
    → first_refusal (cre_mbf_refusals k attribute bufsz maxmsz) ≡ none → found ≡ None → ⊥
unfolding cre_mbf_refusals none_free
create-room k attribute bufsz maxmsz made e g =
    never-full buffer_kind k.buffers.exists made (cre_mbf_refusals k attribute bufsz maxmsz) 3 e refl g

pub creates-buffer : (attribute bufsz maxmsz : ℤ) {x y z : ℤ} → x ≡ attribute → y ≡ bufsz → z ≡ maxmsz → (caller : ℕ) {s s' log l1 : List ℕ}
    {at next i j l n : ℕ} {found : code.Option BufferNumber} {b : BufferNumber} {answer : Answer} → length s ≡ word_count
    → found ≡ maybe_buffer (unused (kernel s).buffers.exists buffers) → found ≡ Some b → n ≡ b.0 → answer ≡ Code (pos n)
    → Appends log at (answer_bytes answer) l1 next → i ≡ number x → j ≡ number y → l ≡ number z → Represents s' (buffer_row (kernel s) b.0 1 i j l)
    → CarriesInWords caller (λ w. cre_mbf w (number attribute) (number bufsz) (number maxmsz)) s log at s' l1 (record { answer = answer; next = next })
unfolding cre_mbf
creates-buffer attribute bufsz maxmsz x-is y-is z-is caller h made is-some n-is answer-is a i-is j-is l-is r =
    creates buffer_kind (λ k. k.buffers.exists) (λ k n. buffer_row k n 1 (number attribute) (number bufsz) (number maxmsz)) caller h made is-some n-is answer-is a
    (rw (i-is, j-is, l-is, x-is, y-is, z-is) at r)
