-- A line's record. Assumes nothing.
use Rattle.std.proofs.Common.{◌≡◌, ◌∙◌, refl, sym, ap, arith, ℕ, ◌+◌, ◌/◌, ◌≤◌, Bool, true, false, cond, List, [], ◌∷◌, ◌++◌, length, take, drop, ℤ, Some, None, Result, Ok, Err, eqb, eq-eqb, length-take-le, take-append-drop}
use mathlib.Core.Option as maybe
use mir.Syntax.{w32}
use mir.Val.{SFits}
use Rattle.model.specs.declared.call.Call.{Call}
use Rattle.model.specs.Message.{over}
use Rattle.model.specs.Record.{Row, kinds, row_of, kind_of, record_bytes}
use Rattle.model.proofs.Terms.{zeros, message_bytes}
use Rattle.script.specs.declared.body.Body.{Body}
use Rattle.script.specs.declared.writer.WriteError.{WriteError}
use Rattle.script.specs.declared.writer.WriteError.TheVariants.{NoRoom}
use Rattle.script.specs.Body.{body_parts, field_at, made, call_in}
use Rattle.script.specs.Place.{room, placed}
use Rattle.script.specs.Write.{message_length, wrote, rewritten, Writes}
use Rattle.script.proofs.Rows.{KnownParts, row-of-parts, row-kind, fields-few, message-size, kind-made, made-of-three}
use Rattle.script.proofs.Making.{three_back, same}
use Rattle.script.proofs.Writing.{message-length}
use Rattle.text.specs.Names.{template}
use Rattle.assemble.specs.declared.reason.Reason.{Reason}
use Rattle.assemble.specs.declared.reason.Reason.TheVariants.{UnknownCall, LeftOver, LongScript}
use Rattle.assemble.specs.Words.{word_start, word_end, word_at, is_over}
use Rattle.assemble.specs.Read.{Step, Read, read}
use Rattle.assemble.specs.Reasons.{reason_of}
use Rattle.assemble.specs.Calls.{kind_named}
use Rattle.assemble.specs.Fields.{fields_read}
use Rattle.assemble.specs.Messages.{message_read}
use Rattle.assemble.specs.Lines.{Line, Blank, Bytes, Bad, no_fields, ends_with, with_message, with_fields, with_parts, call_line, with_kind, line_at, line_of, Extends}
use Rattle.assemble.proofs.Fielding.{others-stay}

-- a record goes to the script, or there is no room for it
abbrev pub by-reason : Result ℕ WriteError → Step
by-reason (Ok next) = Ok next
by-reason (Err e) = Err (reason_of e)

answer-by : (has : Bool) (n : ℕ) → by-reason (cond has (Ok n) (Err NoRoom)) ≡ cond has (Ok n) (Err LongScript)
answer-by true n = refl
answer-by false n = refl

area-by : (has : Bool) (n : ℕ) (a b : List ℕ) → elim (cond {A = Result ℕ WriteError} has (Ok n) (Err NoRoom)) [ Ok k ↦ a | Err e ↦ b ] ≡ cond has a b
area-by true n a b = refl
area-by false n a b = refl

pub extended : (s : List ℕ) (at : ℕ) (c : Call) (m after : List ℕ) (w : Result ℕ WriteError) → Writes s at c m after w → length m ≡ message_length (kind_of c)
    → Extends s at (Bytes (record_bytes c m)) after (by-reason w)
unfolding wrote rewritten placed
extended s at c m after w p size =
    let n = at + length (record_bytes c m) in
    let has = room (length s) at (length (record_bytes c m)) in
    let is : wrote s at c m ≡ cond has (Ok n) (Err NoRoom) = rw (eq-eqb (length m) (message_length (kind_of c)) size, wrote) refl in
    record {
      answer = ap by-reason (p.answer ∙ is) ∙ answer-by has n;
      area = p.area ∙ ap (λ (x : Result ℕ WriteError). elim x [ Ok k ↦ over s at (record_bytes c m) | Err e ↦ s ]) is
          ∙ area-by has n (over s at (record_bytes c m)) s;
    }

-- what is wrong with a line, or that nothing is on it, leaves the area as it is
module _ (s : List ℕ) (at : ℕ) (l : Line) (r : Step) where
  pub bad-line : (why : Reason) → l ≡ Bad why → r ≡ Err why → Extends s at l s r
  bad-line why e p = rw (e, p) (record { answer = refl; area = refl })

  pub blank-line : l ≡ Blank → r ≡ Ok at → Extends s at l s r
  blank-line e p = rw (e, p) (record { answer = refl; area = refl })

-- what is behind a call's name
pub no-parts : (kind : ℕ) (line : List ℕ) (from : ℕ) → body_parts kind ≡ None → call_line kind line from ≡ Bad UnknownCall
unfolding call_line
no-parts kind line from e = ap (with_parts kind line from) e

module _ (kind : ℕ) (b : Body) (known : body_parts kind ≡ Some b) where
  abbrev its : KnownParts (row_of kind) b.fields b.message
  its = row-of-parts kind b known

  pub few-fields : b.fields / 4 ≤ 3
  few-fields = omega (arith, fields-few kind its.row its.is, its.fields)

  abbrev count : ℕ
  count = b.fields / 4

  made-by-row : (fs : List ℤ) → call_in kinds kind fs ≡ its.row.call (field_at fs)
  unfolding call_in row_of
  made-by-row fs = ap (λ (found : maybe.Option Row). made found fs) its.is

  -- the call that the table makes of three fields, as the machine reads them back
  pub call-of-three : (vs : List ℤ) (c : Call) → SFits w32 (field_at vs 0) → SFits w32 (field_at vs 1) → SFits w32 (field_at vs 2)
      → c ≡ call_in kinds kind (three_back (field_at vs 0) (field_at vs 1) (field_at vs 2)) → c ≡ call_in kinds kind vs
  call-of-three vs c f g h e =
      e ∙ ap (call_in kinds kind) (same f g h) ∙ made-by-row (field_at vs 0 ∷ field_at vs 1 ∷ field_at vs 2 ∷ [])
      ∙ made-of-three kind its.row its.is (field_at vs) ∙ sym (made-by-row vs)

  size_few : (t : Bool) → cond t message_bytes 0 ≤ message_bytes
  size_few true = omega arith
  size_few false = omega arith

  -- the message is as long as the kind has it
  pub right-size : (fs : List ℤ) (c : Call) (m p : List ℕ) → c ≡ call_in kinds kind fs → length m ≡ message_bytes → p ≡ take b.message m
      → length p ≡ message_length (kind_of c)
  right-size fs c m p ec em ep =
      let few : b.message ≤ length m = omega (arith, its.message, message-size kind its.row its.is, size_few (eqb its.row.kind 0x22)) in
      ap length ep ∙ length-take-le b.message m few
      ∙ sym (ap message_length (ap kind_of (ec ∙ made-by-row fs) ∙ kind-made kind its.row its.is (field_at fs) ∙ row-kind kind its.row its.is)
      ∙ message-length kind its.row its.is ∙ its.message)

  module _ (line : List ℕ) (from : ℕ) (vs : List ℤ) (f : Step)
      (ef : read vs f ≡ fields_read (length (take count no_fields)) (take count no_fields) kind line from) where
    -- the fields that were read, and behind them those that the call does not have
    abbrev values : List ℤ
    values = vs ++ drop count no_fields

    all-fields : fields_read count no_fields kind line from ≡ read values f
    unfolding fields_read
    all-fields =
        let front : length (take count no_fields) ≡ count = length-take-le count no_fields few-fields in
        ap (λ (v : List ℤ). fields_read count v kind line from) (sym (take-append-drop count no_fields))
        ∙ others-stay count 0 (take count no_fields) (drop count no_fields) (template kind) (word_end (template kind) 0) line from (omega (arith, front))
        ∙ ap (λ (n : ℕ). read ((fields_read n (take count no_fields) kind line from).area ++ drop count no_fields) (fields_read n (take count no_fields) kind line from).step) (sym front)
        ∙ ap (λ (x : Read ℤ). read (x.area ++ drop count no_fields) x.step) (sym ef)

    behind-name : call_line kind line from ≡ with_fields kind b.message line values f
    unfolding call_line
    behind-name = ap (with_parts kind line from) known ∙ ap (λ (x : Read ℤ). with_fields kind b.message line x.area x.step) all-fields

    pub fields-bad : (why : Reason) → f ≡ Err why → call_line kind line from ≡ Bad why
    fields-bad why e = behind-name ∙ ap (with_fields kind b.message line values) e

    module _ (behind : ℕ) (e : f ≡ Ok behind) (message : List ℕ) (g : Step) (eg : read message g ≡ message_read (zeros message_bytes) b.message line behind) where
      behind-fields : call_line kind line from ≡ ends_with (record_bytes (call_in kinds kind values) (take b.message message)) line g
      behind-fields =
          behind-name ∙ ap (with_fields kind b.message line values) e
          ∙ ap (with_message (call_in kinds kind values) b.message line) (sym eg)

      pub message-bad : (why : Reason) → g ≡ Err why → call_line kind line from ≡ Bad why
      message-bad why m = behind-fields ∙ ap (ends_with (record_bytes (call_in kinds kind values) (take b.message message)) line) m

      module _ (end : ℕ) (m : g ≡ Ok end) (over : Bool) (eo : over ≡ is_over (drop (word_start line end) line)) where
        at-end : call_line kind line from ≡ cond over (Bytes (record_bytes (call_in kinds kind values) (take b.message message))) (Bad LeftOver)
        at-end =
            behind-fields ∙ ap (ends_with (record_bytes (call_in kinds kind values) (take b.message message)) line) m
            ∙ ap (λ (x : Bool). cond x (Bytes (record_bytes (call_in kinds kind values) (take b.message message))) (Bad LeftOver)) (sym eo)

        pub left_over : over ≡ false → call_line kind line from ≡ Bad LeftOver
        left_over y = rw (at-end, y) refl

        pub whole-call : over ≡ true → call_line kind line from ≡ Bytes (record_bytes (call_in kinds kind values) (take b.message message))
        whole-call y = rw (at-end, y) refl

-- a line
module _ (line : List ℕ) (over : Bool) (eo : over ≡ is_over (drop (word_start line 0) line)) where
  line-is : line_of line ≡ cond over Blank (with_kind line (word_end line (word_start line 0)) (kind_named (word_at line (word_start line 0))))
  unfolding line_of line_at
  line-is = rw (eo, line_of, line_at) refl

  pub nothing-there : over ≡ true → line_of line ≡ Blank
  nothing-there y = rw (line-is, y) refl

  pub unknown-call : over ≡ false → kind_named (word_at line (word_start line 0)) ≡ None → line_of line ≡ Bad UnknownCall
  unknown-call y e = rw (line-is, y, e) refl

  pub known-call : (kind : ℕ) → over ≡ false → kind_named (word_at line (word_start line 0)) ≡ Some kind
      → line_of line ≡ call_line kind line (word_end line (word_start line 0))
  known-call kind y e = rw (line-is, y, e) refl
