-- cre_mpf, in the order of the code's steps. Assumes nothing.
use Rattle.std.proofs.Math.Option.{some, Option}
use Rattle.std.specs.Prelude as code
use Rattle.std.specs.Prelude.{None, Some}
use Rattle.model.proofs.Terms.{ℕ, ◌+◌, ◌*◌, ◌≡◌, ◌∙◌, refl, Bool, true, false, ◌||◌, not, none, List, [], ◌∷◌, length, ℤ, pos, lt_z, ltb, pools, blocks, block_bytes, pool_bytes, member, E_RSATR, E_PAR, E_NOMEM, E_LIMIT, number, Kernel, unused, Refusal, refuse, first_refusal, outside, pool_attributes, bad_field, none_free, pool_sum, cre_mpf_refusals, cre_mpf, kernel, word_count, answer_bytes}
use Rattle.model.specs.Number.{maybe_pool, PoolNumber}
use Rattle.model.specs.declared.call.Answer.{Answer}
use Rattle.model.specs.declared.call.Answer.TheVariants.{Code}
use Rattle.model.proofs.NumberLaws.{pool_kind}
use Rattle.state.specs.Words.{Represents}
use Rattle.script.specs.Place.{Appends}
use Rattle.reply.specs.Replies.{CarriesInWords}
use Rattle.reply.proofs.Refusing.{refused-here, refused-later}
use Rattle.reply.proofs.Conditions.{attribute-refused, attribute-later, field-refused, field-later}
use Rattle.reply.proofs.Creations.{full-refused, unused-later, never-full, creates}
use Rattle.pool.specs.Rows.{pool_row}

module _ (k : Kernel) (attribute count size : ℤ) {b : ℤ} (b-is : b ≡ attribute) {a : ℕ} (a-is : a ≡ number b) {allowed : Bool}
    (allowed-is : allowed ≡ member a pool_attributes) where
  abbrev uncounted : Refusal
  uncounted = bad_field (pos 1) (pos blocks) count

  abbrev unsized : Refusal
  unsized = bad_field (pos 1) (pos block_bytes) size

  abbrev full : Refusal
  full = none_free k.pools.exists pools

  abbrev beyond : Refusal
  beyond = refuse 10 E_NOMEM (ltb pool_bytes (pool_sum k + number count * number size))

  pub create-attribute : lt_z b (pos 0) || not allowed ≡ true → some E_RSATR ≡ first_refusal (cre_mpf_refusals k attribute count size)
  unfolding cre_mpf_refusals
  create-attribute e = attribute-refused pool_attributes attribute b-is a-is allowed-is (uncounted ∷ unsized ∷ full ∷ beyond ∷ []) e

  module _ (fine : lt_z b (pos 0) || not allowed ≡ false) {c : ℤ} (c-is : c ≡ count) {few : Bool} (few-is : few ≡ outside (pos 1) (pos blocks) c) where
    after-attribute : {v : Option ℤ} → v ≡ first_refusal (uncounted ∷ unsized ∷ full ∷ beyond ∷ [])
        → v ≡ first_refusal (cre_mpf_refusals k attribute count size)
    unfolding cre_mpf_refusals
    after-attribute f = attribute-later pool_attributes attribute b-is a-is allowed-is (uncounted ∷ unsized ∷ full ∷ beyond ∷ []) fine f

    pub create-count : few ≡ true → some E_PAR ≡ first_refusal (cre_mpf_refusals k attribute count size)
    create-count e = after-attribute (field-refused (pos 1) (pos blocks) count c-is few-is (unsized ∷ full ∷ beyond ∷ []) e)

    module _ (counted : few ≡ false) {d : ℤ} (d-is : d ≡ size) {wide : Bool} (wide_is : wide ≡ outside (pos 1) (pos block_bytes) d) where
      after-count : {v : Option ℤ} → v ≡ first_refusal (unsized ∷ full ∷ beyond ∷ [])
          → v ≡ first_refusal (cre_mpf_refusals k attribute count size)
      after-count f = after-attribute (field-later (pos 1) (pos blocks) count c-is few-is (unsized ∷ full ∷ beyond ∷ []) counted f)

      pub create-size : wide ≡ true → some E_PAR ≡ first_refusal (cre_mpf_refusals k attribute count size)
      create-size e = after-count (field-refused (pos 1) (pos block_bytes) size d-is wide_is (full ∷ beyond ∷ []) e)

      module _ (sized : wide ≡ false) {found : code.Option PoolNumber} (from : found ≡ maybe_pool (unused k.pools.exists pools)) where
        after-size : {v : Option ℤ} → v ≡ first_refusal (full ∷ beyond ∷ [])
            → v ≡ first_refusal (cre_mpf_refusals k attribute count size)
        after-size f = after-count (field-later (pos 1) (pos block_bytes) size d-is wide_is (full ∷ beyond ∷ []) sized f)

        pub create-full : found ≡ None → some E_LIMIT ≡ first_refusal (cre_mpf_refusals k attribute count size)
        create-full e = after-size (full-refused pool_kind k.pools.exists from (beyond ∷ []) e)

        module _ {p : PoolNumber} (is-some : found ≡ Some p) {more : ℕ} (more-is : more ≡ number c * number d) {above : Bool}
            (above-is : above ≡ ltb pool_bytes (pool_sum k + more)) where
          asked : ltb pool_bytes (pool_sum k + number count * number size) ≡ above
          asked = cc

          pub create-beyond : above ≡ true → some E_NOMEM ≡ first_refusal (cre_mpf_refusals k attribute count size)
          create-beyond e = after-size (unused-later pool_kind k.pools.exists from (beyond ∷ []) is-some (refused-here beyond [] (asked ∙ e)))

          pub create-allowed : above ≡ false → none ≡ first_refusal (cre_mpf_refusals k attribute count size)
          create-allowed e = after-size (unused-later pool_kind k.pools.exists from (beyond ∷ []) is-some (refused-later beyond [] (asked ∙ e) refl))

-- and what it does
pub create-room : (k : Kernel) (attribute count size : ℤ) {found : code.Option PoolNumber} → found ≡ maybe_pool (unused k.pools.exists pools)
    → first_refusal (cre_mpf_refusals k attribute count size) ≡ none → found ≡ None → ⊥
unfolding cre_mpf_refusals none_free
create-room k attribute count size made e g = never-full pool_kind k.pools.exists made (cre_mpf_refusals k attribute count size) 3 e refl g

pub creates-pool : (attribute count size : ℤ) {b c d : ℤ} → b ≡ attribute → c ≡ count → d ≡ size → (caller : ℕ) {s log l1 s' : List ℕ}
    {at next a x y n : ℕ} {found : code.Option PoolNumber} {p : PoolNumber} {answer : Answer} → length s ≡ word_count
    → found ≡ maybe_pool (unused (kernel s).pools.exists pools) → found ≡ Some p → n ≡ p.0 → answer ≡ Code (pos n)
    → Appends log at (answer_bytes answer) l1 next → a ≡ number b → x ≡ number c → y ≡ number d → Represents s' (pool_row (kernel s) p.0 1 a x y)
    → CarriesInWords caller (λ w. cre_mpf w (number attribute) (number count) (number size)) s log at s' l1 (record { answer = answer; next = next })
unfolding cre_mpf
creates-pool attribute count size b-is c-is d-is caller h made is-some n-is answer-is l a-is x-is y-is r =
    creates pool_kind (λ k. k.pools.exists) (λ k n. pool_row k n 1 (number attribute) (number count) (number size)) caller h made is-some n-is answer-is l
    (rw (a-is, x-is, y-is, b-is, c-is, d-is) at r)
