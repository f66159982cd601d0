-- What stands in the area that a turn of `show` hands over. Assumes nothing.
use Prim.Native.Nat.{ℕ, ◌≤◌}
use native.Mathlib.Omega.{arith}
use mathlib.Core.Path.{◌≡◌, ◌∙◌, sym, ap}
use mathlib.Core.Bool.{Bool}
use mathlib.Core.List.{List}
use lib.ListN.{length, take, length-take}
use Rattle.model.specs.Lent.{Areas, Went, lent_record}
use Rattle.text.specs.Line.{IsFront}
use Rattle.text.specs.Turn.{turn_text}
use Rattle.run.specs.declared.Ran.{Ran}
use Rattle.run.specs.Runs.{Runs}
use Rattle.run.specs.Turns.{Turn, turn_if}
use Rattle.run.proofs.Turning.{turned}
use Rattle.show.specs.Shown.{went_text, InFront, ShowsTurn}

-- a text that is an area's first bytes stands in front of it
in-front : {area text : List ℕ} {n : ℕ} → IsFront area n text → InFront area text
in-front {area} {text} {n} l =
    let long : length text ≡ n = ap length (sym l.bytes) ∙ length-first in
    ap (λ (k : ℕ). take k area) long ∙ l.bytes
  where
    length-first : length (take n area) ≡ n
    length-first = omega (arith, length-take n area, l.inside)

-- no more of a log is shown than was written
pub front-short : {n m : ℕ} (l : List ℕ) → n ≤ m → length (take n l) ≤ m
front-short {n} l h = omega (arith, length-take n l)

-- the text of what came back is that of the record
pub shows : (a : Areas) (script : List ℕ) (at : ℕ) {b : Areas} {r : Ran} {t : Turn} {area : List ℕ} {n : ℕ} (written : Bool) → Runs a script at b r
    → IsFront area n (turn_text script at r.progress (take r.written b.log)) → t ≡ turn_if written r.progress → ShowsTurn a script at b area t
shows a script at {area = area} written e l m =
    record {
      turned = turned a script at written e m;
      front = ap (λ (w : Went). take (length (went_text script at w)) area) (sym e) ∙ in-front l ∙ ap (went_text script at) e;
    }
