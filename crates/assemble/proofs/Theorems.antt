-- What `show` writes of a script's records assembles to the script. Assumes nothing.
use Prim.Native.Nat.{ℕ, suc, ◌+◌, ◌≤◌}
use native.Mathlib.Omega.{arith}
use mathlib.Core.Path.{◌≡◌, ◌∙◌, refl, sym, ap}
use mathlib.Core.Bool.{Bool, true, cond}
use lib.Dec.{eqb}
use Rattle.std.specs.List.{onto_first}
use mathlib.Core.List.{List, [], ◌∷◌, ◌++◌, append_assoc, append-nil}
use lib.ListN.{length, length-append}
use Rattle.model.specs.Record.{record_bytes}
use Rattle.model.proofs.Terms.{all, script_bytes, le-leb, not-true}
use Rattle.text.specs.Place.{here_text}
use Rattle.assemble.specs.declared.reason.Reason.TheVariants.{LongScript}
use Rattle.assemble.specs.Words.{compute_words}
use Rattle.assemble.specs.Lines.{compute_lines}
use Rattle.assemble.specs.Assembled.{Made, WrongLine, lines_of, assembled_from, assembled}
use Rattle.assemble.specs.Statements.{Records, AllCarried, script_of, shown_lines, ScriptComesBack}
use Rattle.assemble.proofs.Texts.{by-line}
use Rattle.assemble.proofs.ShownFields.{in_line, both}
use Rattle.assemble.proofs.ShownLines.{shown-comes-back, text_in-line}

first-line : (l text : List ℕ) → all in_line l ≡ true → lines_of (l ++ (10 ∷ text)) ≡ l ∷ lines_of text
first-line [] text h = refl
first-line (c ∷ l) text h = let e = both (in_line c) (all in_line l) h in rw (not-true (eqb c 10) e.0) (ap (onto_first c) (first-line l text e.1))

from-here : (es : Records) (n : ℕ) (made : List ℕ) → AllCarried es → length made + length (script_of es) ≤ script_bytes
    → assembled_from n made (lines_of (shown_lines es)) ≡ Made (made ++ script_of es)
unfolding compute_words compute_lines
from-here [] n made h few = ap Made (sym (append-nil made))
from-here (e ∷ es) n made h few =
    let record-bytes = record_bytes e.0 e.1 in
    let long = length-append record-bytes (script_of es) in
    let fits : length made + length record-bytes ≤ script_bytes = omega (arith, long) in
    let line = here_text (script_of (e ∷ es)) in
    ap (assembled_from n made) (first-line line (shown_lines es) (text_in-line e.0 e.1 (script_of es) h.0.fields h.0.size))
    ∙ ap (by-line n made (lines_of (shown_lines es))) (shown-comes-back e.0 e.1 (script_of es) h.0)
    ∙ ap (λ (t : Bool). cond t (assembled_from (suc n) (made ++ record-bytes) (lines_of (shown_lines es))) (WrongLine n LongScript))
    (le-leb (length made + length record-bytes) script_bytes fits)
    ∙ from-here es (suc n) (made ++ record-bytes) h.1 (omega (arith, long, length-append made record-bytes))
    ∙ ap Made (append_assoc made record-bytes (script_of es))

pub script-comes-back : ScriptComesBack
unfolding assembled
script-comes-back es h few = from-here es 1 [] h (omega arith)
