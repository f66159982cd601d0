-- A text line by line. Assumes nothing.
use Rattle.std.proofs.Common.{◌≡◌, ◌∙◌, refl, sym, ap, ap₂, arith, ℕ, suc, ◌+◌, ◌≤◌, ◌<◌, Bool, true, false, cond, List, ◌++◌, length, take, drop, get_or, drop-cons, Bor, Option, Some, None, drop_of_length-le, length-take-le, eqb, Ok, Err}
use Rattle.std.proofs.Math.Seq.{take-paste, take-length}
use Rattle.std.specs.Iterator.{Yields}
use Rattle.std.specs.List.{enumerate_from}
use Rattle.std.proofs.lemmas.Iterator.{YieldsList}
use Rattle.std.proofs.lemmas.Iterator.Consumers.{YieldsList-at, YieldsList-from_enumerate, YieldsList-turn, YieldsList-end}
use Rattle.std.proofs.lemmas.Iterator.Splits.{YieldsList-from_slice_split}
use Rattle.std.specs.Fn.{CalledAt}
use Rattle.std.specs.Iterator.Adapters.{enumerate_source, enumerate_count, enumerate_steps}
use Rattle.std.specs.Slice.Iter.{split_rest, split_done, split_callee, split_steps}
use Rattle.std.specs.declared.iter.Enumerate.{Enumerate}
use Rattle.std.specs.declared.slice.Split.{Split}
use denote.Param.Members.{Mut}
use Rattle.std.proofs.lemmas.List.FromFn.{length-enumerate_from, get_or-enumerate_from}
use Rattle.model.proofs.Terms.{script_bytes, leb-true}
use Rattle.script.specs.Place.{room, placed}
use Rattle.script.proofs.Appending.{over-paste, placed-room, length_over}
use Rattle.assemble.specs.declared.assembler.WrongLine.{WrongLine as Where}
use Rattle.assemble.specs.declared.reason.Reason.{Reason}
use Rattle.assemble.specs.declared.reason.Reason.TheVariants.{LongScript}
use Rattle.assemble.specs.Read.{Step}
use Rattle.assemble.specs.Lines.{Line, Blank, Bytes, Bad, line_of, Extends}
use Rattle.assemble.specs.Assembled.{Assembly, Made, WrongLine, lines_of, assembled_from, assembled, outcome, Assembles}

-- what a line does to the script that is made already
abbrev pub by-line : ℕ → List ℕ → List (List ℕ) → Line → Assembly
by-line n m ls x =
    elim x [
      | Blank ↦ assembled_from (suc n) m ls
      | Bytes b ↦ cond (room script_bytes (length m) (length b)) (assembled_from (suc n) (m ++ b) ls) (WrongLine n LongScript)
      | Bad why ↦ WrongLine n why
    ]

record Went (s after : List ℕ) (n : ℕ) (ls : List (List ℕ)) (line : ℕ) (a : Assembly) : Type 0 where
  pub size : length after ≡ length s
  pub inside : n ≤ length after
  pub whole : a ≡ assembled_from (suc line) (take n after) ls

front : (s : List ℕ) (at : ℕ) (b : List ℕ) → at + length b ≤ length s → take (at + length b) (placed s at b) ≡ take at s ++ b
front s at b h =
    ap (take (at + length b)) (placed-room s at b h ∙ sym (over-paste s at b)) ∙ take-paste s at b (length b) (omega arith) (omega arith)
    ∙ ap (λ (l : List ℕ). take at s ++ l) (take-length b)

module _ (s : List ℕ) (size : length s ≡ script_bytes) (at : ℕ) (inside : at ≤ length s) (line : ℕ) (ls : List (List ℕ)) where
  made-length : length (take at s) ≡ at
  made-length = length-take-le at s inside

  room-is : (b : List ℕ) → room script_bytes (length (take at s)) (length b) ≡ room (length s) at (length b)
  room-is b = ap₂ (λ (x y : ℕ). room x y (length b)) (sym size) made-length

  next-bytes : (b after : List ℕ) (n : ℕ) (t : Bool) → room (length s) at (length b) ≡ t
      → ◌≡◌ {A = Step} (Ok n) (cond t (Ok (at + length b)) (Err LongScript)) → after ≡ placed s at b
      → Went s after n ls line (cond t (assembled_from (suc line) (take at s ++ b) ls) (WrongLine line LongScript))
  next-bytes b after n true e p q =
      let h : at + length b ≤ length s = leb-true (at + length b) (length s) e in
      let en : n ≡ at + length b = cc in
      let el : length after ≡ length s = ap length (q ∙ placed-room s at b h) ∙ length_over s at b h in
      record {
        size = el;
        inside = omega arith;
        whole = ap (λ (m : List ℕ). assembled_from (suc line) m ls) (sym (front s at b h) ∙ ap₂ take (sym en) (sym q));
      }
  next-bytes b after n false e p q = cc

  went : (x : Line) (after : List ℕ) (n : ℕ) → Extends s at x after (Ok n) → Went s after n ls line (by-line line (take at s) ls x)
  went Blank after n e =
      let en : n ≡ at = cc in
      record {
        size = ap length e.area;
        inside = omega (arith, ap length e.area);
        whole = ap (λ (m : List ℕ). assembled_from (suc line) m ls) (ap₂ take (sym en) (sym e.area));
      }
  went (Bytes b) after n e = rw (room-is b) (next-bytes b after n (room (length s) at (length b)) refl e.answer e.area)
  went (Bad why) after n e = cc

  wrong-bytes : (b : List ℕ) (why : Reason) (t : Bool) → ◌≡◌ {A = Step} (Err why) (cond t (Ok (at + length b)) (Err LongScript))
      → cond t (assembled_from (suc line) (take at s ++ b) ls) (WrongLine line LongScript) ≡ WrongLine line why
  wrong-bytes b why true p = cc
  wrong-bytes b why false p = let e : LongScript ≡ why = cc in ap (WrongLine line) e

  went-wrong : (x : Line) (after : List ℕ) (why : Reason) → Extends s at x after (Err why) → by-line line (take at s) ls x ≡ WrongLine line why
  went-wrong Blank after why e = cc
  went-wrong (Bytes b) after why e = rw (room-is b) (wrong-bytes b why (room (length s) at (length b)) e.answer)
  went-wrong (Bad w) after why e = let q : w ≡ why = cc in ap (WrongLine line) q

-- k lines of a text are done, and their script stands in front of the area
pub record Going (text s : List ℕ) (next k : ℕ) : Type 0 where
  pub size : length s ≡ script_bytes
  pub inside : next ≤ length s
  pub whole : assembled text ≡ assembled_from (k + 1) (take next s) (drop k (lines_of text))

pub going : (text s : List ℕ) → length s ≡ script_bytes → Going text s 0 0
unfolding assembled
going text s h = record { size = h; inside = omega arith; whole = refl }

module _ {text s : List ℕ} {next k : ℕ} (g : Going text s next k) where
  pub finishes : length (lines_of text) ≤ k → Assembles (assembled text) s (Ok next)
  finishes h =
      let a : assembled text ≡ Made (take next s) = g.whole ∙ ap (assembled_from (k + 1) (take next s)) (drop_of_length-le (lines_of text) h) in
      let n : length (take next s) ≡ next = length-take-le next s g.inside in
      record { answer = rw a (ap Ok (sym n)); front = rw a (ap (λ (i : ℕ). take i s) n) }

  module _ (l : List ℕ) (here : k < length (lines_of text)) (el : l ≡ get_or (lines_of text) k l) (after : List ℕ) (r : Step) (x : Extends s next (line_of l) after r) where
    abbrev behind : List (List ℕ)
    behind = drop (suc k) (lines_of text)

    at-line : assembled text ≡ by-line (k + 1) (take next s) behind (line_of l)
    at-line =
        g.whole ∙ ap (assembled_from (k + 1) (take next s)) (drop-cons (lines_of text) k l here)
        ∙ ap (λ (f : List ℕ). by-line (k + 1) (take next s) behind (line_of f)) (sym el)

    pub fails : (w : Where) → r ≡ Err w.reason → w.line ≡ k + 1 → Assembles (assembled text) after (Err w)
    fails w e n =
        let a : assembled text ≡ WrongLine (k + 1) w.reason = at-line ∙ went-wrong s g.size next g.inside (k + 1) behind (line_of l) after w.reason (rw e at x) in
        record { answer = ap (λ (i : ℕ). Err (record { line = i; reason = w.reason })) n ∙ ap outcome (sym a); front = rw a refl }

    pub goes : (n : ℕ) → r ≡ Ok n → Going text after n (k + 1)
    goes n e =
        let w = went s g.size next g.inside (k + 1) behind (line_of l) after n (rw e at x) in
        let one : suc k ≡ k + 1 = omega arith in
        record {
          size = w.size ∙ g.size;
          inside = w.inside;
          whole =
              at-line ∙ w.whole
              ∙ ap₂ (λ (i j : ℕ). assembled_from i (take n after) (drop j (lines_of text))) (let q : suc (k + 1) ≡ k + 1 + 1 = omega arith in q) one;
        }

-- a turn of the loop over the lines with their places, of which xs came before, and its end
module _ {S : Type 0} {steps : S → Option (ℕ × Bor (List ℕ)) → S → Type 0} {s : S} (t u : S) (xs : List (ℕ × Bor (List ℕ))) (y : Yields steps s xs t)
    (r : Option (ℕ × Bor (List ℕ))) (st : steps t r u) where
  pub turn : (i : ℕ) (l : Bor (List ℕ)) → r ≡ Some (i, l) → (ls : List (List ℕ)) → YieldsList steps (λ p. (p.0, p.1.now)) s (enumerate_from 0 ls)
      → (i ≡ length xs) × (length xs < length ls) × (l.now ≡ get_or ls (length xs) l.now)
  turn i l e ls road =
      let k = YieldsList-turn road xs t y r u (i, l) e st in
      let here : length xs < length ls = omega (arith, k.0, length-enumerate_from 0 ls) in
      let its = k.1 ∙ get_or-enumerate_from 0 ls (length xs) (i, l.now) here in
      (omega (arith, ap (λ (p : ℕ × List ℕ). p.0) its), here, ap (λ (p : ℕ × List ℕ). p.1) its)

  pub last-turn : r ≡ None → (ls : List (List ℕ)) → YieldsList steps (λ p. (p.0, p.1.now)) s (enumerate_from 0 ls) → length ls ≤ length xs
  last-turn e ls road = let k = YieldsList-end road xs t y r u e st in omega (arith, k.1, length-enumerate_from 0 ls)

-- the lines of a text with their places, as the loop takes them
pub lines-road : {F : Type 0} (g : Mut F (Bor ℕ × Unit {0}) Bool) {f : F} {cut : Split ℕ F} {numbered taken : Enumerate (Split ℕ F)} (text : List ℕ)
    → taken ≡ numbered → enumerate_source numbered ≡ cut → enumerate_count numbered ≡ 0 → split_rest cut ≡ text → split_done cut ≡ false → split_callee cut ≡ f
    → ((x : ℕ) (b : Bool) (q : F) → CalledAt g f x b q → (q ≡ f) × (b ≡ eqb x 10))
    → YieldsList (enumerate_steps (split_steps g)) (λ p. (p.0, p.1.now)) taken (enumerate_from 0 (lines_of text))
lines-road g text t e n r d k ends =
    YieldsList-at t (YieldsList-from_enumerate (YieldsList-at e (YieldsList-from_slice_split g (λ b. eqb b 10) text r d k ends)) n)
