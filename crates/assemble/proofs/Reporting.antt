-- The report of a wrong line, and of a text that is too long. Assumes nothing.
use Prim.Native.Nat.{ℕ, ◌≤◌}
use native.Mathlib.Omega.{arith}
use mathlib.Core.Path.{◌≡◌}
use mathlib.Core.List.{List, ◌++◌}
use lib.ListN.{length, length-append}
use Rattle.model.proofs.Terms.{message_bytes, script_bytes}
use Rattle.script.specs.Place.{Appends, Wrote}
use Rattle.script.proofs.Appending.{wrote, wrote-more}
use Rattle.text.specs.Names.{ascii}
use Rattle.text.specs.Numbers.{decimal}
use Rattle.text.specs.Line.{IsFront}
use Rattle.text.proofs.Fitting.{is_front, decimal-short}
use Rattle.assemble.specs.declared.reason.Reason.{Reason}
use Rattle.assemble.specs.declared.reason.Reason.TheVariants.{UnknownCall, FieldMissing, OtherField, NotANumber, BadMessage, LongMessage, LeftOver, LongScript}
use Rattle.assemble.specs.Reasons.{longer_than, reason_text, report, long_text, report_bytes}

-- no reason, and no report, is longer than the area for it
longer-short : (what : List ℕ) (most : ℕ) → length what ≤ 11 → length (longer_than what most) ≤ 53
unfolding longer_than
longer-short what most h =
    let a = what ++ ascii " is longer than " in
    omega (
      arith,
      length-append (a ++ decimal most) (ascii " bytes"),
      length-append a (decimal most),
      length-append what (ascii " is longer than "),
      decimal-short most,
    )

reason-short : (reason : Reason) → length (reason_text reason) ≤ 53
reason-short UnknownCall = omega arith
reason-short FieldMissing = omega arith
reason-short OtherField = omega arith
reason-short NotANumber = omega arith
reason-short BadMessage = omega arith
reason-short LongMessage = longer-short (ascii "the message") message_bytes (omega arith)
reason-short LeftOver = omega arith
reason-short LongScript = longer-short (ascii "the script") script_bytes (omega arith)

report-short : (line : ℕ) (reason : Reason) → length (report line reason) ≤ report_bytes
unfolding report
report-short line reason =
    let a = ascii "line " ++ decimal line in
    let b = a ++ ascii ": " in
    let whole = length-append (b ++ reason_text reason) (ascii "\n") in
    omega (arith, whole, length-append b (reason_text reason), length-append a (ascii ": "), decimal-short line, reason-short reason)

module _ (line : ℕ) (reason : Reason) (area a b c d e : List ℕ) (i j k l m : ℕ) where
  pub reported : Appends area 0 (ascii "line ") a i → Appends a i (decimal line) b j → Appends b j (ascii ": ") c k → Wrote c k (reason_text reason) d l
      → Appends d l (ascii "\n") e m → length area ≡ report_bytes → IsFront e m (report line reason)
  unfolding report
  reported p q r s t size =
      is_front (let h : length (report line reason) ≤ length area = omega (arith, report-short line reason) in h)
      (wrote-more (wrote-more (wrote-more (wrote-more (wrote p) (wrote q)) (wrote r)) s) (wrote t))

-- a text that is too long
long-text-short : (most : ℕ) → length (long_text most) ≤ report_bytes
unfolding long_text
long-text-short most =
    omega (arith, length-append (longer_than (ascii "the text") most) (ascii "\n"), longer-short (ascii "the text") most (omega arith))

pub long-text-put : (most : ℕ) (area a b : List ℕ) (i j : ℕ) → Wrote area 0 (longer_than (ascii "the text") most) a i → Appends a i (ascii "\n") b j
    → length area ≡ report_bytes → IsFront b j (long_text most)
unfolding long_text
long-text-put most area a b i j p q size =
    is_front (let h : length (long_text most) ≤ length area = omega (arith, long-text-short most) in h) (wrote-more p (wrote q))
