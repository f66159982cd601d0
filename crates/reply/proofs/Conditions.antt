-- Conditions of the table that calls of several kinds of object have, as the code tests them: order 3's attribute, order 4's timeout and field
-- outside its range, and order 11. Assumes nothing.
use Rattle.std.proofs.Math.Option.{Option, some}
use Rattle.model.proofs.Terms.{ℕ, ◌≡◌, ◌∙◌, sym, Bool, true, false, ◌||◌, not, List, ◌∷◌, ℤ, pos, lt_z, member, E_RSATR, E_PAR, E_TMOUT, number, Refusal, refuse, first_refusal, outside, bad_attribute, bad_timeout, bad_field, no_time}
use Rattle.reply.proofs.Refusing.{refused-here, refused-later}

-- order 3
module _ (xs : List ℕ) (attribute : ℤ) {b : ℤ} (b-is : b ≡ attribute) {a : ℕ} (a-is : a ≡ number b) {allowed : Bool} (allowed-is : allowed ≡ member a xs)
    (rs : List Refusal) where
  bad : lt_z attribute (pos 0) || not (member (number attribute) xs) ≡ lt_z b (pos 0) || not allowed
  bad = cc

  pub attribute-refused : lt_z b (pos 0) || not allowed ≡ true → some E_RSATR ≡ first_refusal (bad_attribute xs attribute ∷ rs)
  unfolding bad_attribute
  attribute-refused e = refused-here (refuse 3 E_RSATR _) rs (bad ∙ e)

  pub attribute-later : {v : Option ℤ} → lt_z b (pos 0) || not allowed ≡ false → v ≡ first_refusal rs
      → v ≡ first_refusal (bad_attribute xs attribute ∷ rs)
  unfolding bad_attribute
  attribute-later e f = refused-later (refuse 3 E_RSATR _) rs (bad ∙ e) f

-- order 4
module _ (timeout : ℤ) {b : ℤ} (b-is : b ≡ timeout) {r : Bool} (r-is : r ≡ (bad_timeout b).applies) (rs : List Refusal) where
  pub timeout-refused : r ≡ true → some E_PAR ≡ first_refusal (bad_timeout timeout ∷ rs)
  unfolding bad_timeout
  timeout-refused e = refused-here (refuse 4 E_PAR _) rs (rw b-is at (sym r-is ∙ e))

  pub timeout-later : {v : Option ℤ} → r ≡ false → v ≡ first_refusal rs → v ≡ first_refusal (bad_timeout timeout ∷ rs)
  unfolding bad_timeout
  timeout-later e f = refused-later (refuse 4 E_PAR _) rs (rw b-is at (sym r-is ∙ e)) f

module _ (low high field : ℤ) {b : ℤ} (b-is : b ≡ field) {r : Bool} (r-is : r ≡ outside low high b) (rs : List Refusal) where
  pub field-refused : r ≡ true → some E_PAR ≡ first_refusal (bad_field low high field ∷ rs)
  unfolding bad_field
  field-refused e = refused-here (refuse 4 E_PAR _) rs (rw b-is at (sym r-is ∙ e))

  pub field-later : {v : Option ℤ} → r ≡ false → v ≡ first_refusal rs → v ≡ first_refusal (bad_field low high field ∷ rs)
  unfolding bad_field
  field-later e f = refused-later (refuse 4 E_PAR _) rs (rw b-is at (sym r-is ∙ e)) f

-- order 11
module _ (timeout : ℤ) (waits : Bool) {b : ℤ} (b-is : b ≡ timeout) {w : Bool} (w-is : w ≡ waits) {r : Bool} (r-is : r ≡ (no_time b w).applies)
    (rs : List Refusal) where
  pub time-refused : r ≡ true → some E_TMOUT ≡ first_refusal (no_time timeout waits ∷ rs)
  unfolding no_time
  time-refused e = refused-here (refuse 11 E_TMOUT _) rs (rw (b-is, w-is) at (sym r-is ∙ e))

  pub time-later : {v : Option ℤ} → r ≡ false → v ≡ first_refusal rs → v ≡ first_refusal (no_time timeout waits ∷ rs)
  unfolding no_time
  time-later e f = refused-later (refuse 11 E_TMOUT _) rs (rw (b-is, w-is) at (sym r-is ∙ e)) f
