-- What C is told of what the other crates promise. Assumes nothing.
use Prim.Native.Nat.{ℕ}
use mathlib.Core.Path.{◌≡◌, ◌∙◌, refl, sym, ap}
use mathlib.Core.Bool.{Bool, true, false, ◌&&◌, cond, and-eq-true_iff}
use mathlib.Core.List.{List}
use mathlib.Core.Option.{Option, none, some}
use lib.ListN.{length}
use lib.IntN.{ℤ}
use lib.Dec.{eqb}
use borrow.Author.Tests.{eqb-true}
use Rattle.model.specs.declared.call.Call.{Call}
use Rattle.model.specs.Sizes.{store_bytes, outbox_bytes}
use Rattle.model.specs.Lists.{zeros}
use Rattle.model.specs.Code.{E_OK, E_SYS}
use Rattle.model.specs.Record.{Row, kinds, row_of}
use Rattle.model.specs.Step.{fresh_lent}
use Rattle.model.specs.Words.{word_count, words}
use Rattle.model.specs.Kernel.{fresh}
use Rattle.model.specs.Lent.{Areas, Went, lent_step, lent_record}
use Rattle.script.specs.Body.{field_at, made, call_in}
use Rattle.script.proofs.Rows.{Known}
use Rattle.std.specs.Prelude.{Result}
use Rattle.state.specs.declared.WrongLength.{WrongLength}
use Rattle.state.specs.Fresh.{Filling, fresh_words}
use Rattle.valid.specs.Check.{right_lengths}
use Rattle.valid.specs.Shown.{shown_location, shown_message}
use Rattle.message.specs.declared.next.Location.{Location}
use Rattle.message.specs.NextMessage.{message_at}
use Rattle.call.specs.declared.Called.{Called}
use Rattle.call.specs.Calls.{called}
use Rattle.run.specs.declared.Ran.{Ran}
use Rattle.run.specs.Runs.{ran}
use Rattle.shinepod_c.specs.Outcome.{Came, CameTo, came, outcome_of, code_of, unknown_kind, answered, call_outcome, came_to, progress_outcome, progress_code, progress_next, record_outcome}
use Rattle.shinepod_c.specs.Fresh.{Left, left, fresh_left}
use Rattle.shinepod_c.specs.Shown.{area_of, start_of, found, shown_found}

module _ (a : Areas) (kind : ℕ) (fields : List ℤ) (bytes : List ℕ) where
  abbrev of_row : Option Row → Came
  of_row row = elim row [ none ↦ came unknown_kind E_OK 0 a | some r ↦ answered (lent_step a (r.call (field_at fields)) bytes) ]

  pub tells-unknown : row_of kind ≡ none → came unknown_kind E_OK 0 a ≡ call_outcome a kind fields bytes
  unfolding call_outcome
  tells-unknown e = sym (ap of_row e)

  pub tells-call : {n : ℕ} {x : Call} {r : Called} {b : Areas} {o : ℕ} {z : ℤ} → Known (row_of kind) n → x ≡ call_in kinds kind fields
      → called r b ≡ lent_step a x bytes → o ≡ outcome_of r.answer → z ≡ code_of r.answer
      → came o z r.written b ≡ call_outcome a kind fields bytes
  unfolding call_outcome answered call_in row_of
  tells-call {x = x} {r = r} {b = b} known e g p q =
      let makes : x ≡ known.row.call (field_at fields) = e ∙ ap (λ (row : Option Row). made row fields) known.is in
      (λ i. came (p i) (q i) r.written b)
      ∙ ap answered g
      ∙ ap (λ (y : Call). answered (lent_step a y bytes)) makes
      ∙ sym (ap of_row known.is)

module _ (a : Areas) (script : List ℕ) (at : ℕ) where
  abbrev of_went : Went → CameTo
  of_went w = came_to (progress_outcome w.progress) (progress_code w.progress) w.written (progress_next w.progress at) w.areas

  pub tells-record : {r : Ran} {b : Areas} {o n : ℕ} {z : ℤ} → ran r b ≡ lent_record a script at → o ≡ progress_outcome r.progress
      → z ≡ progress_code r.progress → n ≡ progress_next r.progress at → came_to o z r.written n b ≡ record_outcome a script at
  unfolding record_outcome
  tells-record {r} {b} g p q s = (λ i. came_to (p i) (q i) r.written (s i) b) ∙ ap of_went g

module _ (w store outbox : List ℕ) {right : Bool} (right_is : right ≡ right_lengths w store outbox) where
  abbrev when : Bool → Left
  when b = cond b (left E_OK (words fresh_lent.kernel) fresh_lent.store fresh_lent.outbox) (left E_SYS w store outbox)

  pub leaves-alone : right ≡ false → left E_SYS w store outbox ≡ fresh_left w store outbox
  unfolding fresh_left
  leaves-alone e = sym (ap when (sym right_is ∙ e))

  pub makes-fresh : {r : Result Unit WrongLength} {w' store' outbox' : List ℕ} → right ≡ true → Filling w r w' → store' ≡ zeros (length store)
      → outbox' ≡ zeros (length outbox) → left E_OK w' store' outbox' ≡ fresh_left w store outbox
  unfolding fresh_left fresh_words fresh_lent
  makes-fresh {w' = w'} {store' = store'} {outbox' = outbox'} e f s o =
      let t = sym right_is ∙ e in
      let p : (eqb (length w) word_count && eqb (length store) store_bytes ≡ true) × (eqb (length outbox) outbox_bytes ≡ true) =
      (and-eq-true_iff _ _).0 t in
      let q : (eqb (length w) word_count ≡ true) × (eqb (length store) store_bytes ≡ true) = (and-eq-true_iff _ _).0 p.0 in
      let w-is : w' ≡ words fresh = f.words ∙ ap (λ (b : Bool). cond b (words fresh) w) q.0 in
      let s-is : store' ≡ zeros store_bytes = s ∙ ap zeros (eqb-true (length store) store_bytes q.1) in
      let o_is : outbox' ≡ zeros outbox_bytes = o ∙ ap zeros (eqb-true (length outbox) outbox_bytes p.1) in
      (λ i. left E_OK (w-is i) (s-is i) (o_is i)) ∙ sym (ap when t)

module _ (words store outbox : List ℕ) (n : ℤ) {l : Location} (located : l ≡ shown_location words store outbox n) where
  pub tells-shown : {area at : ℕ} {m : List ℕ} → area ≡ area_of l → at ≡ start_of l → m ≡ message_at l store outbox
      → found area at (length m) ≡ shown_found words store outbox n
  unfolding shown_found shown_message
  tells-shown {area} {at} {m} p q s = rw (p, q, s, located) refl
