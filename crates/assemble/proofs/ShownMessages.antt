-- A message as `show` writes it, read again. Assumes nothing.
use Prim.Native.Nat.{ℕ, zero, suc, ◌+◌, ◌*◌, ◌-◌, ◌/◌, ◌%◌, ◌≤◌, ◌<◌}
use native.Mathlib.Omega.{arith}
use mathlib.Core.Path.{◌≡◌, ◌∙◌, refl, sym, ap, ap₂}
use mathlib.Core.Bool.{Bool, true, false, not, cond, false≢true}
use mathlib.Core.List.{List, [], ◌∷◌, ◌++◌, map, append_assoc}
use lib.ListN.{length, take, drop, set, length-append}
use lib.Seq.{take_all}
use lib.Dec.{ltb}
use Rattle.model.proofs.Terms.{◌!◌, all, zeros, joined, message_bytes, eq-eqb, ne_eqb, le-leb, lt-leb, lt-ltb, ltb-true, ltb-false}
use Rattle.text.specs.Numbers.{hex_digit}
use Rattle.text.specs.Numbers.{hex_byte as hex_text}
use Rattle.text.specs.Quoted.{plain, shown_byte, before, trimmed, quoted}
use Rattle.text.specs.Place.{message_text}
use Rattle.assemble.specs.declared.message.Piece.{Piece}
use Rattle.assemble.specs.declared.message.Piece.TheVariants.{Byte, End}
use Rattle.std.specs.Prelude.{Option, Some, Ok, Err, ok_or}
use Rattle.assemble.specs.declared.reason.Reason.TheVariants.{BadMessage}
use Rattle.assemble.specs.Words.{word_start}
use Rattle.assemble.specs.Read.{Read, read}
use Rattle.assemble.specs.Messages.{hex_value, hex_byte, escaped, quoted_piece, ended, bytes_from, message_at, message_read}
use Rattle.assemble.proofs.Pieces.{by-piece}
use Rattle.assemble.proofs.ShownFields.{in_line, and-true, all_append, behind, one-blank, stands, stands-there, next-stands}

-- ---- a byte

hex-low : (d : ℕ) → d < 10 → hex_value (48 + d) ≡ Some d
unfolding hex_value
hex-low d h = rw (le-leb 48 (48 + d) (omega arith), le-leb (48 + d) 57 (omega arith), hex_value) (ap Some (let e : 48 + d - 48 ≡ d = omega arith in e))

hex-high : (d : ℕ) → 10 ≤ d → d < 16 → hex_value (55 + d) ≡ Some d
unfolding hex_value
hex-high d l h =
    rw (le-leb 48 (55 + d) (omega arith), lt-leb (55 + d) 57 (omega arith), le-leb 65 (55 + d) (omega arith), le-leb (55 + d) 70 (omega arith), hex_value)
    (ap Some (let e : 55 + d - 55 ≡ d = omega arith in e))

digit-back : (d : ℕ) → d < 16 → hex_value (hex_digit d) ≡ Some d
digit-back d h = by (ltb d 10) refl
  where
    by : (b : Bool) → ltb d 10 ≡ b → hex_value (cond b (48 + d) (55 + d)) ≡ Some d
    by true e = hex-low d (ltb-true d 10 e)
    by false e = hex-high d (ltb-false d 10 e) h

both : (high low next a b : ℕ) → hex_value high ≡ Some a → hex_value low ≡ Some b → hex_byte high low next ≡ Some (Byte (16 * a + b) next)
unfolding hex_byte
both high low next a b e f = rw (hex_byte, e, f) refl

module _ (line : List ℕ) (at : ℕ) (here : at < length line) where
  quote-ends : line ! at ≡ 34 → quoted_piece line at ≡ Some (End (at + 1))
  unfolding quoted_piece
  quote-ends e = rw (lt-ltb at (length line) here, eq-eqb (line ! at) 34 e, quoted_piece) refl

  itself : (line ! at ≡ 34 → ⊥) → (line ! at ≡ 92 → ⊥) → quoted_piece line at ≡ Some (Byte (line ! at) (at + 1))
  unfolding quoted_piece
  itself q e = rw (lt-ltb at (length line) here, ne_eqb (line ! at) 34 q, ne_eqb (line ! at) 92 e, quoted_piece) refl

  escape : line ! at ≡ 92 → at + 4 ≤ length line → line ! (at + 1) ≡ 120 → quoted_piece line at ≡ hex_byte (line ! (at + 2)) (line ! (at + 3)) (at + 4)
  unfolding quoted_piece escaped
  escape e h x =
      rw (lt-ltb at (length line) here, ne_eqb (line ! at) 34 (λ q. omega (arith, q, e)), eq-eqb (line ! at) 92 e, quoted_piece)
      (rw (le-leb (at + 4) (length line) h, eq-eqb (line ! (at + 1)) 120 x, escaped) refl)

-- what a piece is, and what stands behind it
pub record PieceBack (p : Option Piece) (b : ℕ) (line rest : List ℕ) : Type 0 where
  pub next : ℕ
  pub is : p ≡ Some (Byte b next)
  pub behind : drop next line ≡ rest

module _ (line : List ℕ) (at b : ℕ) (rest : List ℕ) (fits : b < 256) where
  as-itself : plain b ≡ true → drop at line ≡ b ∷ rest → PieceBack (quoted_piece line at) b line rest
  unfolding plain
  as-itself p h =
      let there = stands-there line at b rest h in
      let quote : line ! at ≡ 34 → ⊥ = λ e. false≢true (rw (sym there ∙ e) at p) in
      let slash : line ! at ≡ 92 → ⊥ = λ e. false≢true (rw (sym there ∙ e) at p) in
      record {
        next = at + 1;
        is = itself line at (stands line at b rest h) quote slash ∙ ap (λ (c : ℕ). Some (Byte c (at + 1))) there;
        behind = next-stands line at b rest h;
      }

  as-escape : drop at line ≡ 92 ∷ (120 ∷ (hex_digit (b / 16) ∷ (hex_digit (b % 16) ∷ rest))) → PieceBack (quoted_piece line at) b line rest
  as-escape h =
      let hi = hex_digit (b / 16) in
      let lo = hex_digit (b % 16) in
      let h₂ : drop (at + 2) line ≡ hi ∷ (lo ∷ rest) = behind line at (92 ∷ (120 ∷ [])) (hi ∷ (lo ∷ rest)) h in
      let h₃ : drop (at + 3) line ≡ lo ∷ rest = behind line at (92 ∷ (120 ∷ (hi ∷ []))) (lo ∷ rest) h in
      let slash = stands-there line at 92 (120 ∷ (hi ∷ (lo ∷ rest))) h in
      let x = stands-there line (at + 1) 120 (hi ∷ (lo ∷ rest)) (next-stands line at 92 (120 ∷ (hi ∷ (lo ∷ rest))) h) in
      let last = stands line (at + 3) lo rest h₃ in
      let value : b ≡ 16 * (b / 16) + b % 16 = omega arith in
      let two : hex_byte (line ! (at + 2)) (line ! (at + 3)) (at + 4) ≡ Some (Byte b (at + 4)) =
      ap₂ (λ (u v : ℕ). hex_byte u v (at + 4)) (stands-there line (at + 2) hi (lo ∷ rest) h₂) (stands-there line (at + 3) lo rest h₃)
      ∙ both hi lo (at + 4) (b / 16) (b % 16) (digit-back (b / 16) (omega arith)) (digit-back (b % 16) (omega arith))
      ∙ ap (λ (v : ℕ). Some (Byte v (at + 4))) (sym value) in
      record {
        next = at + 4;
        is = escape line at (omega arith) slash (omega arith) x ∙ two;
        behind = behind line at (92 ∷ (120 ∷ (hi ∷ (lo ∷ [])))) rest h;
      }

  pub byte-back : drop at line ≡ shown_byte b ++ rest → PieceBack (quoted_piece line at) b line rest
  unfolding shown_byte hex_text
  byte-back h = by (plain b) refl h
    where
      by : (p : Bool) → plain b ≡ p → drop at line ≡ cond p (b ∷ []) (92 ∷ (120 ∷ (hex_digit (b / 16) ∷ (hex_digit (b % 16) ∷ [])))) ++ rest
          → PieceBack (quoted_piece line at) b line rest
      by true e k = as-itself e k
      by false e k = as-escape k

-- ---- all bytes

-- every entry is a byte
abbrev pub Below : List ℕ → Type 0
Below [] = Unit {0}
Below (b ∷ bs) = (b < 256) × Below bs

set-behind : (front : List ℕ) (x b : ℕ) (rest : List ℕ) → set (front ++ (x ∷ rest)) (length front) b ≡ front ++ (b ∷ rest)
set-behind [] x b rest = refl
set-behind (f ∷ front) x b rest = ap (λ (l : List ℕ). f ∷ l) (set-behind front x b rest)

pub record BytesBack (r : Read ℕ) (area line : List ℕ) : Type 0 where
  pub end : ℕ
  pub is : r ≡ read area (Ok end)
  pub rest : drop end line ≡ []

abbrev by-quoted : ℕ → ℕ → List ℕ → List ℕ → Option Piece → Read ℕ
by-quoted room n m line p = by-piece true room n m line (ok_or p BadMessage)

abbrev at-last : List ℕ → Option Piece → Read ℕ
at-last m p = elim (ok_or p BadMessage) [ Ok x ↦ read m (ended x) | Err why ↦ read m (Err why) ]

quoted-end : (line : List ℕ) (at : ℕ) → drop at line ≡ 34 ∷ [] → quoted_piece line at ≡ Some (End (at + 1))
quoted-end line at h = quote-ends line at (stands line at 34 [] h) (stands-there line at 34 [] h)

-- the quote, and then bytes before it
none_left : (room : ℕ) (front line : List ℕ) (at : ℕ) → drop at line ≡ 34 ∷ []
    → BytesBack (bytes_from true room (length front) (front ++ zeros room) line at) (front ++ zeros room) line
none_left zero front line at h =
    record { end = at + 1; is = ap (at-last (front ++ zeros 0)) (quoted-end line at h); rest = next-stands line at 34 [] h }
none_left (suc room) front line at h = record {
  end = at + 1;
  is = ap (by-quoted room (length front) (front ++ zeros (suc room)) line) (quoted-end line at h);
  rest = next-stands line at 34 [] h;
}

pub bytes_back : (bs : List ℕ) (room : ℕ) (front line : List ℕ) (at : ℕ) → Below bs → length bs ≤ room → drop at line ≡ joined (map shown_byte bs) ++ (34 ∷ [])
    → BytesBack (bytes_from true room (length front) (front ++ zeros room) line at) (front ++ (bs ++ zeros (room - length bs))) line
bytes_back [] room front line at below few h =
    let same : room ≡ room - 0 = omega arith in
    let r = none_left room front line at h in
    record { end = r.end; is = r.is ∙ ap (λ (k : ℕ). read (front ++ zeros k) (Ok r.end)) same; rest = r.rest }
bytes_back (b ∷ bs) zero front line at below few h = absurd (omega arith)
bytes_back (b ∷ bs) (suc room) front line at below few h =
    let more = joined (map shown_byte bs) ++ (34 ∷ []) in
    let p = byte-back line at b more below.0 (h ∙ append_assoc (shown_byte b) (joined (map shown_byte bs)) (34 ∷ [])) in
    let wider : set (front ++ (0 ∷ zeros room)) (length front) b ≡ (front ++ (b ∷ [])) ++ zeros room =
    set-behind front 0 b (zeros room) ∙ sym (append_assoc front (b ∷ []) (zeros room)) in
    let longer : suc (length front) ≡ length (front ++ (b ∷ [])) = omega (arith, length-append front (b ∷ [])) in
    let r = bytes_back bs room (front ++ (b ∷ [])) line p.next below.1 (omega arith) p.behind in
    let left : room - length bs ≡ suc room - suc (length bs) = omega arith in
    record {
      end = r.end;
      is = ap (by-quoted room (length front) (front ++ zeros (suc room)) line) p.is
          ∙ ap₂ (λ (n : ℕ) (m : List ℕ). bytes_from true room n m line p.next) longer wider ∙ r.is
          ∙ ap (λ (m : List ℕ). read m (Ok r.end)) (append_assoc front (b ∷ []) (bs ++ zeros (room - length bs)))
          ∙ ap (λ (k : ℕ). read (front ++ (b ∷ (bs ++ zeros k))) (Ok r.end)) left;
      rest = r.rest;
    }

-- ---- the zeros that fill it up

before_back : (b : ℕ) (t bs : List ℕ) → t ++ zeros (length bs - length t) ≡ bs → before b t ++ zeros (suc (length bs) - length (before b t)) ≡ b ∷ bs
before_back zero [] bs e =
    let k : suc (length bs) - 0 ≡ suc (length bs - 0) = omega arith in
    ap zeros k ∙ ap (λ (l : List ℕ). 0 ∷ l) e
before_back (suc b) [] bs e =
    let k : suc (length bs) - 1 ≡ length bs - 0 = omega arith in
    ap (λ (n : ℕ). suc b ∷ zeros n) k ∙ ap (λ (l : List ℕ). suc b ∷ l) e
before_back zero (c ∷ t) bs e =
    let k : suc (length bs) - suc (suc (length t)) ≡ length bs - suc (length t) = omega arith in
    ap (λ (n : ℕ). 0 ∷ (c ∷ (t ++ zeros n))) k ∙ ap (λ (l : List ℕ). 0 ∷ l) e
before_back (suc b) (c ∷ t) bs e =
    let k : suc (length bs) - suc (suc (length t)) ≡ length bs - suc (length t) = omega arith in
    ap (λ (n : ℕ). suc b ∷ (c ∷ (t ++ zeros n))) k ∙ ap (λ (l : List ℕ). suc b ∷ l) e

trimmed-back : (m : List ℕ) → trimmed m ++ zeros (length m - length (trimmed m)) ≡ m
unfolding trimmed
trimmed-back [] = refl
trimmed-back (b ∷ bs) = before_back b (trimmed bs) bs (trimmed-back bs)

before-below : (b : ℕ) (t : List ℕ) → b < 256 → Below t → Below (before b t)
before-below zero [] h k = tt
before-below (suc b) [] h k = (h, tt)
before-below zero (c ∷ t) h k = (h, k)
before-below (suc b) (c ∷ t) h k = (h, k)

trimmed-below : (m : List ℕ) → Below m → Below (trimmed m)
unfolding trimmed
trimmed-below [] h = tt
trimmed-below (b ∷ bs) h = before-below b (trimmed bs) h.0 (trimmed-below bs h.1)

trimmed-short : (m : List ℕ) → length (trimmed m) ≤ length m
trimmed-short m = omega (arith, ap length (trimmed-back m), length-append (trimmed m) (zeros (length m - length (trimmed m))))

-- ---- a message behind the fields

pub record MessageBack (r : Read ℕ) (size : ℕ) (message line : List ℕ) : Type 0 where
  pub end : ℕ
  pub area : List ℕ
  pub is : r ≡ read area (Ok end)
  pub bytes : take size area ≡ message
  pub rest : drop end line ≡ []

in-quotes : (m line : List ℕ) (at : ℕ) → at < length line → line ! at ≡ 34 → message_at m line at ≡ bytes_from true (length m) 0 m line (at + 1)
unfolding message_at
in-quotes m line at here e = rw (lt-ltb at (length line) here, e, message_at) refl

pub no-message-back : (m line : List ℕ) (at : ℕ) → drop at line ≡ [] → MessageBack (message_read m 0 line at) 0 [] line
unfolding message_read
no-message-back m line at h = record { end = at; area = m; is = refl; bytes = refl; rest = h }

pub message-back : (b : ℕ) (bs line : List ℕ) (at : ℕ) → length (b ∷ bs) ≡ message_bytes → Below (b ∷ bs) → drop at line ≡ message_text (b ∷ bs)
    → MessageBack (message_read (zeros message_bytes) message_bytes line at) message_bytes (b ∷ bs) line
unfolding message_text quoted message_read
message-back b bs line at size below h =
    let m = b ∷ bs in
    let t = trimmed m in
    let inner = joined (map shown_byte t) ++ (34 ∷ []) in
    let start : word_start line at ≡ at + 1 = one-blank line at (34 ∷ inner) h refl in
    let at-quote : drop (at + 1) line ≡ 34 ∷ inner = next-stands line at 32 (34 ∷ inner) h in
    let there = stands-there line (at + 1) 34 inner at-quote in
    let r = bytes_back t message_bytes [] line (at + 1 + 1) (trimmed-below m below) (omega (arith, trimmed-short m))
    (next-stands line (at + 1) 34 inner at-quote) in
    let filled : t ++ zeros (message_bytes - length t) ≡ m = ap (λ (n : ℕ). t ++ zeros (n - length t)) (sym size) ∙ trimmed-back m in
    record {
      end = r.end;
      area = m;
      is = ap (message_at (zeros message_bytes) line) start
          ∙ in-quotes (zeros message_bytes) line (at + 1) (stands line (at + 1) 34 inner at-quote) there ∙ r.is
          ∙ ap (λ (l : List ℕ). read l (Ok r.end)) filled;
      bytes = take_all message_bytes m (omega arith);
      rest = r.rest;
    }

-- ---- a message is on one line

hex-in-line : (d : ℕ) → in_line (hex_digit d) ≡ true
hex-in-line d = elim (ltb d 10) as (λ b. in_line (cond b (48 + d) (55 + d)) ≡ true)
    [ true ↦ ap not (ne_eqb (48 + d) 10 (λ e. omega (arith, e))) | false ↦ ap not (ne_eqb (55 + d) 10 (λ e. omega (arith, e))) ]

plain-in-line : (b : ℕ) → plain b ≡ true → in_line b ≡ true
unfolding plain
plain-in-line b h = ap not (ne_eqb b 10 (λ e. false≢true (rw e at h)))

byte-in-line : (b : ℕ) (p : Bool) → plain b ≡ p → all in_line (cond p (b ∷ []) (92 ∷ (120 ∷ (hex_digit (b / 16) ∷ (hex_digit (b % 16) ∷ []))))) ≡ true
byte-in-line b true e = and-true (in_line b) true (plain-in-line b e) refl
byte-in-line b false e =
    and-true (in_line (hex_digit (b / 16))) (all in_line (hex_digit (b % 16) ∷ [])) (hex-in-line (b / 16))
    (and-true (in_line (hex_digit (b % 16))) true (hex-in-line (b % 16)) refl)

bytes-in-line : (bs : List ℕ) → all in_line (joined (map shown_byte bs)) ≡ true
unfolding shown_byte hex_text
bytes-in-line [] = refl
bytes-in-line (b ∷ bs) = all_append in_line (shown_byte b) (joined (map shown_byte bs)) (byte-in-line b (plain b) refl) (bytes-in-line bs)

pub message-in-line : (m : List ℕ) → all in_line (message_text m) ≡ true
unfolding message_text quoted
message-in-line [] = refl
message-in-line (b ∷ bs) =
    let t = trimmed (b ∷ bs) in
    all_append in_line (joined (map shown_byte t)) (34 ∷ []) (bytes-in-line t) refl
