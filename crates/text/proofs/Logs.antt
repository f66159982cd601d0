-- The text of a turn: a log's items one behind the other, and that all of it fits. Assumes nothing.
use Prim.Native.Nat.{ℕ, zero, suc, ◌-◌, ◌*◌, ◌≤◌, ◌<◌, min}
use native.Mathlib.Decide.{dec_le}
use native.Mathlib.Omega.{arith}
use mathlib.Core.Path.{◌≡◌, ◌∙◌, sym, ap}
use mathlib.Core.List.{List, [], ◌∷◌, ◌++◌}
use lib.ListN.{length, get_or, take, drop, length-append, length-drop, drop_of_length-le}
use Rattle.model.proofs.Terms.{log_bytes}
use Rattle.model.specs.declared.call.Progress.{Progress}
use Rattle.model.specs.declared.call.Progress.TheVariants.{Answered, Over, NoArea}
use Rattle.script.specs.Place.{Wrote}
use Rattle.script.proofs.Appending.{none, wrote, wrote-more}
use Rattle.text.specs.Line.{line_bytes, IsFront}
use Rattle.text.specs.Item.{item_bytes, item_line}
use Rattle.text.specs.Place.{place_line}
use Rattle.text.specs.Turn.{item_lines, log_text, outcome_lines, turn_text, text_bytes}
use Rattle.text.proofs.Loops.{Left, left-more}
use Rattle.text.proofs.Here.{rest}
use Rattle.text.proofs.Fitting.{is_front, place-fits, item-fits, item-bytes}
use Rattle.text.proofs.Cutting.{enough}

-- ---- item by item

first-item : (tag : ℕ) (l : List ℕ) → log_text (tag ∷ l) ≡ item_line (tag ∷ l) ++ log_text (drop (item_bytes tag - 1) l)
unfolding log_text
first-item tag l =
    let behind = drop (item_bytes tag - 1) l in
    ap (λ (t : List ℕ). item_line (tag ∷ l) ++ t) (enough (length l) (length behind) behind (omega (arith, length-drop (item_bytes tag - 1) l)) (omega arith))

item-here : (l : List ℕ) → 1 ≤ length l → log_text l ≡ item_line l ++ log_text (drop (item_bytes (get_or l 0 0)) l)
item-here [] h = absurd (omega arith)
item-here (tag ∷ l) h =
    let far : suc (item_bytes tag - 1) ≡ item_bytes tag = omega (arith, (item-bytes tag).0) in
    first-item tag l ∙ ap (λ (n : ℕ). item_line (tag ∷ l) ++ log_text (drop n (tag ∷ l))) far

-- the bytes behind an item, which may reach beyond the end
behind : (l : List ℕ) (n k : ℕ) → k ≡ min n (length l) → take (length l - k) (drop k l) ≡ drop n l
behind l n k e = rest l k ∙ go (dec_le n (length l))
  where
    go : Dec (n ≤ length l) → drop k l ≡ drop n l
    go (yes h) =
        let same : k ≡ n = omega arith in
        rw same
    go (no h) = drop_of_length-le l {i = k} (omega arith) ∙ sym (drop_of_length-le l {i = n} (omega arith))

pub more-items : (l : List ℕ) {text₀ whole text mid : List ℕ} {at next i n k : ℕ} → 1 ≤ length l → n ≡ item_bytes (get_or l 0 0) → k ≡ min n (length l)
    → Left text₀ at whole text next (log_text l) → Wrote text next (item_line l) mid i → Left text₀ at whole mid i (log_text (take (length l - k) (drop k l)))
more-items l {n = n} {k = k} h e m left p = rw (behind l n k m, e) (left-more (rw (item-here l h) at left) p)

pub fewer : (l : List ℕ) {n k : ℕ} → 1 ≤ length l → n ≡ item_bytes (get_or l 0 0) → k ≡ min n (length l) → length (take (length l - k) (drop k l)) < length l
fewer l {n} {k} h e m = rw (behind l n k m, length-drop) (omega (arith, (item-bytes (get_or l 0 0)).0))

pub no-more-items : (l : List ℕ) {text₀ whole text : List ℕ} {at next : ℕ} → length l < 1 → Left text₀ at whole text next (log_text l) → Wrote text₀ at whole text next
unfolding log_text
no-more-items [] {text = text} {next = next} h left = left text next (wrote (none text next))
no-more-items (tag ∷ l) h left = absurd (omega arith)

-- ---- what came of a record

pub shows_nothing : {text : List ℕ} {at : ℕ} (log : List ℕ) {p : Progress} (q : Progress) → p ≡ q → outcome_lines q log ≡ [] → Wrote text at (outcome_lines p log) text at
shows_nothing {text} {at} log q e n = rw (e, n) (wrote (none text at))

-- ---- all of it fits

items-short : (n : ℕ) (log : List ℕ) → length (item_lines n log) ≤ n * line_bytes
items-short zero log = omega arith
items-short (suc n) [] = omega arith
items-short (suc n) (tag ∷ l) =
    let behind = drop (item_bytes tag - 1) l in
    omega (arith, length-append (item_line (tag ∷ l)) (item_lines n behind), item-fits (tag ∷ l), items-short n behind)

outcome-short : (p : Progress) (log : List ℕ) → length log ≤ log_bytes → length (outcome_lines p log) ≤ log_bytes * line_bytes
unfolding log_text
outcome-short (Answered answer next) log h = omega (arith, items-short (length log) log)
outcome-short Over log h = omega arith
outcome-short NoArea log h = omega arith

module _ (script : List ℕ) (at : ℕ) (p : Progress) (log : List ℕ) where
  turn-fits : length log ≤ log_bytes → length (turn_text script at p log) ≤ text_bytes
  unfolding turn_text
  turn-fits h = omega (arith, length-append (place_line script at) (outcome_lines p log), place-fits script at, outcome-short p log h)

  pub turn_is : {text mid after : List ℕ} {i next : ℕ} → length text ≡ text_bytes → length log ≤ log_bytes → Wrote text 0 (place_line script at) mid i
      → Wrote mid i (outcome_lines p log) after next → IsFront after next (turn_text script at p log)
  unfolding turn_text
  turn_is long h w v = is_front (omega (arith, long, turn-fits h)) (wrote-more w v)
