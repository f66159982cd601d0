-- What stands at a place of a script, case by case. Assumes nothing.
use Prim.Native.Nat.{ℕ, ◌+◌, ◌-◌, ◌≤◌, ◌<◌}
use native.Mathlib.Omega.{arith}
use native.Mathlib.Numerals.{add-one}
use mathlib.Core.Path.{◌≡◌, ◌∙◌, sym, ap}
use mathlib.Core.List.{List, ◌∷◌}
use lib.ListN.{length, take, drop, length-drop, drop_of_length-le}
use lib.Seq.{drop-cons, take_all}
use Rattle.model.proofs.Terms.{◌!◌, script_bytes, le-leb, lt-leb, le-ltb, lt-ltb}
use Rattle.std.specs.Prelude.{Some, None}
use Rattle.model.specs.Record.{body_length, message_here, record_message}
use Rattle.script.specs.Place.{Appends, Wrote}
use Rattle.script.proofs.Appending.{wrote, wrote-more}
use Rattle.text.specs.Names.{ascii, template}
use Rattle.text.specs.Numbers.{decimal}
use Rattle.text.specs.Place.{with_values, message_text, call_text, unknown_text, cut_text, here_text, too_long_text, place_line}

pub here_end : {line after : List ℕ} {a next : ℕ} (script : List ℕ) (at : ℕ) → length script ≤ at → Appends line a (ascii "end") after next
    → Wrote line a (here_text (drop at script)) after next
unfolding here_text
here_end script at h p = rw (drop_of_length-le script {i = at} h) (wrote p)

-- what follows a place, as a part of the script
pub rest : (script : List ℕ) (at : ℕ) → take (length script - at) (drop at script) ≡ drop at script
rest script at = take_all (length script - at) (drop at script) (omega (arith, length-drop at script))

module _ (script : List ℕ) (at : ℕ) (inside : at < length script) where
  abbrev kind : ℕ
  kind = script ! at

  abbrev body : List ℕ
  body = take (length script - (at + 1)) (drop (at + 1) script)

  here : drop at script ≡ kind ∷ body
  here = rw (rest script (at + 1), add-one) (drop-cons script at 0 inside)

  module _ {line after : List ℕ} {a next : ℕ} where
    pub here-unknown : body_length kind ≡ None → Wrote line a (unknown_text kind) after next → Wrote line a (here_text (drop at script)) after next
    unfolding here_text
    here-unknown e p = rw here (rw (e, here_text) p)

    pub here-cut : {n : ℕ} → body_length kind ≡ Some n → length body < n → Wrote line a (cut_text kind n (length body)) after next
        → Wrote line a (here_text (drop at script)) after next
    unfolding here_text
    here-cut {n} e h p = rw here (rw (e, here_text, lt-leb n (length body) h) p)

    pub here-call : {n i : ℕ} {mid message : List ℕ} → body_length kind ≡ Some n → n ≤ length body → Wrote line a (with_values body 0 (template kind)) mid i
        → message ≡ record_message script at
        → Wrote mid i (message_text message) after next → Wrote line a (here_text (drop at script)) after next
    unfolding here_text call_text record_message
    here-call {n} e h p m q = rw here (rw (e, here_text, le-leb n (length body) h) (wrote-more p (rw (sym (ap message_here here) ∙ sym m) q)))

-- the whole line, by the length of the script
module _ {line after : List ℕ} {l next : ℕ} (script : List ℕ) (at : ℕ) where
  pub too_long : script_bytes < length script → Wrote line l too_long_text after next → Wrote line l (place_line script at) after next
  unfolding place_line
  too_long h p = rw (lt-ltb script_bytes (length script) h, place_line) p

  pub not-too-long : {a b c : List ℕ} {i j k : ℕ} → length script ≤ script_bytes → Appends line l (decimal at) a i → Appends a i (ascii ": ") b j
      → Wrote b j (here_text (drop at script)) c k
      → Appends c k (ascii "\n") after next → Wrote line l (place_line script at) after next
  unfolding place_line
  not-too-long h p q r s = rw (le-ltb script_bytes (length script) h, place_line) (wrote-more (wrote-more (wrote-more (wrote p) (wrote q)) r) (wrote s))
