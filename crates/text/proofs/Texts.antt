-- What the functions that put texts leave, one behind the other. Assumes nothing.
use Prim.Native.Nat.{ℕ, zero, suc, ◌-◌, ◌^◌, ◌<◌}
use native.Mathlib.Omega.{arith}
use mathlib.Core.Path.{◌≡◌, ◌∙◌, refl, sym, ap}
use mathlib.Core.Bool.{Bool, true, false}
use mathlib.Core.List.{List, [], ◌∷◌}
use lib.ListN.{length}
use lib.IntN.{ℤ}
use lib.Signed.{mag}
use mir.Syntax.{w32}
use mir.Val.{to_z, of_z}
use Rattle.model.proofs.Terms.{message_bytes, ◌!◌, eq-eqb, ne_eqb}
use Rattle.model.specs.Record.{field}
use Rattle.script.specs.Place.{Appends, Wrote}
use Rattle.script.proofs.Appending.{none, wrote, wrote-more}
use Rattle.script.proofs.Signed.{read_back}
use Rattle.text.specs.Names.{ascii, template}
use Rattle.text.specs.Numbers.{decimal, signed_decimal, code_text, hex_byte}
use Rattle.text.specs.Quoted.{plain, shown_byte, quoted}
use Rattle.text.specs.Place.{word_value, letter, first_word, message_text, cut_text}
use Rattle.text.specs.Item.{part, task_text, ended_text, received_text, block_text, runs_text}

-- ---- bytes of a message

module _ {line after : List ℕ} {at next : ℕ} (b : ℕ) {p : Bool} (e : p ≡ plain b) where
  pub byte-plain : p ≡ true → Appends line at (b ∷ []) after next → Wrote line at (shown_byte b) after next
  unfolding shown_byte
  byte-plain t w = rw (sym e ∙ t, shown_byte) (wrote w)

  pub byte-hex : {mid : List ℕ} {i : ℕ} → p ≡ false → Appends line at (ascii "\\x") mid i → Appends mid i (hex_byte b) after next
      → Wrote line at (shown_byte b) after next
  unfolding shown_byte
  byte-hex f v w = rw (sym e ∙ f, shown_byte) (wrote-more (wrote v) (wrote w))

-- ---- what stands at a place

module _ {line : List ℕ} {at : ℕ} where
  pub no_value : (body : List ℕ) {word : ℕ} → word ≡ 0 → Wrote line at (word_value body word) line at
  unfolding word_value
  no_value body e = rw (e, word_value) (wrote (none line at))

  pub value : (body : List ℕ) (word : ℕ) {mid after : List ℕ} {i next : ℕ} {z : ℤ} → (word ≡ 0 → ⊥) → Appends line at (ascii "=") mid i
      → z ≡ field body (word - 1) → mag z < 2 ^ 31
      → Wrote mid i (signed_decimal (to_z w32 (of_z w32 z))) after next → Wrote line at (word_value body word) after next
  unfolding word_value
  value body zero d p e small q = absurd (d refl)
  value body (suc word) {z = z} d p e small q =
      let less : suc word - 1 ≡ word = omega arith in
      wrote-more (wrote p) (rw (sym (read_back z small ∙ rw less at e)) q)

  module _ (body : List ℕ) (word c : ℕ) {after : List ℕ} {next : ℕ} where
    pub letter-space : {mid : List ℕ} {i : ℕ} → c ≡ 32 → Wrote line at (word_value body word) mid i → Appends mid i (c ∷ []) after next
        → Wrote line at (letter body word c) after next
    unfolding letter
    letter-space e p q = rw (eq-eqb c 32 e, letter) (wrote-more p (wrote q))

    pub letter-other : (c ≡ 32 → ⊥) → Appends line at (c ∷ []) after next → Wrote line at (letter body word c) after next
    unfolding letter
    letter-other d p = rw (ne_eqb c 32 d, letter) (wrote p)

  pub no-message : (message : List ℕ) → length message ≡ 0 → Wrote line at (message_text message) line at
  unfolding message_text
  no-message [] e = wrote (none line at)
  no-message (b ∷ bs) e = absurd (omega arith)

  pub a-message : (message : List ℕ) {mid after : List ℕ} {i next : ℕ} → (length message ≡ 0 → ⊥) → Appends line at (ascii " ") mid i
      → Wrote mid i (quoted message) after next
      → Wrote line at (message_text message) after next
  unfolding message_text
  a-message [] d p q = absurd (d refl)
  a-message (b ∷ bs) d p q = wrote-more (wrote p) q

  pub cut-put : (kind needs has : ℕ) {a b c d e after : List ℕ} {i j k l m next : ℕ} → Appends line at (ascii "stopped: ") a i
      → Wrote a i (first_word (template kind)) b j
      → Appends b j (ascii " needs ") c k → Appends c k (decimal needs) d l → Appends d l (ascii " bytes and has ") e m → Appends e m (decimal has) after next
      → Wrote line at (cut_text kind needs has) after next
  unfolding cut_text
  cut-put kind needs has p q r s t u = wrote-more (wrote-more (wrote-more (wrote-more (wrote-more (wrote p) q) (wrote r)) (wrote s)) (wrote t)) (wrote u)

-- ---- items of a log

module _ {line after : List ℕ} {at next : ℕ} (item : List ℕ) where
  pub task-put : {mid : List ℕ} {i n : ℕ} → Appends line at (ascii "task ") mid i → n ≡ item ! 1 → Appends mid i (decimal n) after next
      → Wrote line at (task_text item) after next
  unfolding task_text
  task-put p e q = rw (sym e) (wrote-more (wrote p) (wrote q))

  pub runs_none : {n : ℕ} → n ≡ item ! 1 → n ≡ 0 → Appends line at (ascii "runs no task") after next → Wrote line at (runs_text item) after next
  unfolding runs_text
  runs_none e z p = rw (eq-eqb (item ! 1) 0 (sym e ∙ z), runs_text) (wrote p)

  pub runs-task : {mid : List ℕ} {i n : ℕ} → n ≡ item ! 1 → (n ≡ 0 → ⊥) → Appends line at (ascii "runs ") mid i → Wrote mid i (task_text item) after next
      → Wrote line at (runs_text item) after next
  unfolding runs_text
  runs-task e d p q = rw (ne_eqb (item ! 1) 0 (λ z. d (e ∙ z)), runs_text) (wrote-more (wrote p) q)

module _ {line mid end after : List ℕ} {at i j next : ℕ} (item : List ℕ) (p : Wrote line at (task_text item) mid i) where
  pub ended-put : Appends mid i (ascii ": wait ended, ") end j → Wrote end j (code_text (field (part item 2 4) 0)) after next
      → Wrote line at (ended_text item) after next
  unfolding ended_text
  ended-put q r = wrote-more (wrote-more p (wrote q)) r

  pub received-put : Appends mid i (ascii ": message ") end j → Wrote end j (quoted (part item 2 message_bytes)) after next
      → Wrote line at (received_text item) after next
  unfolding received_text
  received-put q r = wrote-more (wrote-more p (wrote q)) r

  pub block-put : Appends mid i (ascii ": block ") end j → Wrote end j (signed_decimal (field (part item 2 4) 0)) after next
      → Wrote line at (block_text item) after next
  unfolding block_text
  block-put q r = wrote-more (wrote-more p (wrote q)) r

-- a field of an item, and its number as the machine hands it on
same : (item : List ℕ) (from : ℕ) {bytes : List ℕ} {z : ℤ} → bytes ≡ part item from 4 → z ≡ field bytes 0 → mag z < 2 ^ 31
    → to_z w32 (of_z w32 z) ≡ field (part item from 4) 0
same item from {z = z} b e small = read_back z small ∙ e ∙ ap (λ (l : List ℕ). field l 0) b

module _ {line after bytes : List ℕ} {at next : ℕ} (item : List ℕ) (from : ℕ) {z : ℤ} (b : bytes ≡ part item from 4) (e : z ≡ field bytes 0)
    (small : mag z < 2 ^ 31) where
  pub code-of-item : Wrote line at (code_text (to_z w32 (of_z w32 z))) after next → Wrote line at (code_text (field (part item from 4) 0)) after next
  code-of-item p = rw (sym (same item from b e small)) p

  pub number-of-item : Wrote line at (signed_decimal (to_z w32 (of_z w32 z))) after next → Wrote line at (signed_decimal (field (part item from 4) 0)) after next
  number-of-item p = rw (sym (same item from b e small)) p
