-- The line that `show` writes of a record comes to that record again, and is one line. Assumes nothing.
use Prim.Native.Nat.{ℕ, zero, suc, ◌+◌, ◌/◌, ◌≤◌, ◌<◌}
use native.Mathlib.Nat.{add-zero}
use native.Mathlib.Omega.{arith}
use mathlib.Core.Path.{◌≡◌, ◌∙◌, refl, sym, ap, ap₂}
use mathlib.Core.Bool.{Bool, true, false, ◌||◌, cond, false≢true}
use mathlib.Core.List.{List, [], ◌∷◌, ◌++◌, map, append_assoc, append-nil}
use mathlib.Core.Option as maybe
use mathlib.Core.Option.{none, some}
use Rattle.std.specs.Prelude.{Option, Some, None, Ok}
use Rattle.std.specs.List.{prefix_len}
use lib.ListN.{length, take, drop, length-map}
use lib.IntN.{ℤ}
use lib.Dec.{eqb, leb}
use Rattle.model.specs.declared.call.Call.{Call}
use Rattle.model.specs.declared.call.Call.TheVariants.{CreTsk, DelTsk, StaTsk, ExtTsk, TerTsk, ChgPri, CreMtx, DelMtx, LocMtx, UnlMtx, CreMbf, DelMbf, SndMbf, RcvMbf, CreMpf, DelMpf, GetMpf, RelMpf, Tick}
use Rattle.model.specs.Record.{Row, kinds, row_of, body_length, field, message_here, kind_of, fields_of, FieldsFit, record_bytes}
use Rattle.model.specs.Code.{code_bytes}
use Rattle.model.proofs.Terms.{◌!◌, all, joined, count_from, zeros, message_bytes, le-leb}
use Rattle.script.specs.Body.{body_parts, call_in}
use Rattle.script.specs.Write.{message_length}
use Rattle.script.proofs.Rows.{row-of-parts, message-size, fields_made}
use Rattle.script.proofs.Reading.{WasRead, was_read}
use Rattle.script.proofs.RoundTrip.{written-reads, message-reads}
use Rattle.text.specs.Names.{template}
use Rattle.text.specs.Numbers.{signed_decimal}
use Rattle.text.specs.Place.{word_value, letter as letter_text, with_values, message_text, call_text, unknown_text, cut_text, here_text}
use Rattle.assemble.specs.Words.{is_blank, word_start, word_end, word_at, is_over, compute_words}
use Rattle.assemble.specs.Read.{Read, read}
use Rattle.assemble.specs.Calls.{kind_named, compute_calls}
use Rattle.assemble.specs.Fields.{in_name, fields_read}
use Rattle.assemble.specs.Messages.{message_read}
use Rattle.assemble.specs.Lines.{Blank, Bytes, no_fields, with_message, with_fields, with_parts, call_line, with_kind, line_at, line_of}
use Rattle.assemble.specs.Statements.{ShownComesBack}
use Rattle.assemble.proofs.ShownFields.{in_line, both, all_append, not-or, Stops, run_is, in_word, letter, is_name, name-letters, name-begins, letters-in-word, the_word, behind-word, spaced, spaced-stops, shown, shown-stops, shown-in-line, puts, FieldsBack, fields_back}
use Rattle.assemble.proofs.ShownMessages.{Below, MessageBack, no-message-back, message-back, message-in-line}

-- ---- every call's names, which antt computes

-- a template cut at its spaces: the call's name, and those of its fields
abbrev cut : List ℕ → List ℕ × List (List ℕ)
cut [] = ([], [])
cut (c ∷ cs) = cond (eqb c 32) ([], (cut cs).0 ∷ (cut cs).1) (c ∷ (cut cs).0, (cut cs).1)

record Names (c : Call) : Type 0 where
  pub name : List ℕ
  pub words : List (List ℕ)
  pub fields : ℕ
  pub size : ℕ
  pub is : template (kind_of c) ≡ name ++ spaced words
  pub letters : is_name name ≡ true
  pub all-letters : all is_name words ≡ true
  pub in-line : all in_line name ≡ true
  pub all-in-line : all (all in_line) words ≡ true
  pub named : kind_named name ≡ Some (kind_of c)
  pub body : body_parts (kind_of c) ≡ Some (record { fields = fields; message = size })
  pub few : fields / 4 ≡ length words
  pub many : length words ≡ length (fields_of c)
  pub long : message_length (kind_of c) ≡ size
  pub made : call_in kinds (kind_of c) (puts no_fields 0 (fields_of c)) ≡ c

module _ (c : Call) where
  abbrev its : List ℕ × List (List ℕ)
  its = cut (template (kind_of c))

  told : {fields size : ℕ} → template (kind_of c) ≡ its.0 ++ spaced its.1 → is_name its.0 ≡ true → all is_name its.1 ≡ true → all in_line its.0 ≡ true → all (all in_line) its.1 ≡ true
      → kind_named its.0 ≡ Some (kind_of c) → body_parts (kind_of c) ≡ Some (record { fields = fields; message = size }) → fields / 4 ≡ length its.1
      → length its.1 ≡ length (fields_of c) → message_length (kind_of c) ≡ size → call_in kinds (kind_of c) (puts no_fields 0 (fields_of c)) ≡ c → Names c
  told {fields} {size} a b d k l e f g h i j = record {
    name = its.0;
    words = its.1;
    fields = fields;
    size = size;
    is = a;
    letters = b;
    all-letters = d;
    in-line = k;
    all-in-line = l;
    named = e;
    body = f;
    few = g;
    many = h;
    long = i;
    made = j;
  }

names : (c : Call) → Names c
unfolding compute_words compute_calls template kinds row_of kind_of fields_of body_parts message_length call_in
names (CreTsk a) = told (CreTsk a) refl refl refl refl refl refl refl refl refl refl refl
names (DelTsk a) = told (DelTsk a) refl refl refl refl refl refl refl refl refl refl refl
names (StaTsk a) = told (StaTsk a) refl refl refl refl refl refl refl refl refl refl refl
names ExtTsk = told ExtTsk refl refl refl refl refl refl refl refl refl refl refl
names (TerTsk a) = told (TerTsk a) refl refl refl refl refl refl refl refl refl refl refl
names (ChgPri a b) = told (ChgPri a b) refl refl refl refl refl refl refl refl refl refl refl
names (CreMtx a b) = told (CreMtx a b) refl refl refl refl refl refl refl refl refl refl refl
names (DelMtx a) = told (DelMtx a) refl refl refl refl refl refl refl refl refl refl refl
names (LocMtx a b) = told (LocMtx a b) refl refl refl refl refl refl refl refl refl refl refl
names (UnlMtx a) = told (UnlMtx a) refl refl refl refl refl refl refl refl refl refl refl
names (CreMbf a b c) = told (CreMbf a b c) refl refl refl refl refl refl refl refl refl refl refl
names (DelMbf a) = told (DelMbf a) refl refl refl refl refl refl refl refl refl refl refl
names (SndMbf a b c) = told (SndMbf a b c) refl refl refl refl refl refl refl refl refl refl refl
names (RcvMbf a b) = told (RcvMbf a b) refl refl refl refl refl refl refl refl refl refl refl
names (CreMpf a b c) = told (CreMpf a b c) refl refl refl refl refl refl refl refl refl refl refl
names (DelMpf a) = told (DelMpf a) refl refl refl refl refl refl refl refl refl refl refl
names (GetMpf a b) = told (GetMpf a b) refl refl refl refl refl refl refl refl refl refl refl
names (RelMpf a b) = told (RelMpf a b) refl refl refl refl refl refl refl refl refl refl refl
names Tick = told Tick refl refl refl refl refl refl refl refl refl refl refl

-- ---- the text of a call

either-false : (a b : Bool) → a || b ≡ false → a ≡ false
either-false true b e = absurd (let z : ◌≡◌ {A = Bool} true false = e in false≢true (sym z))
either-false false b e = refl

no-space : (c : ℕ) → letter c ≡ true → eqb c 32 ≡ false
no-space c h =
    either-false (eqb c 32) (eqb c 9)
    (either-false (eqb c 32 || eqb c 9) (eqb c 13) (not-or (is_blank c) (eqb c 35) (both (in_word c) (in_name c) h).0).0)

name-text : (w : List ℕ) (body : List ℕ) (k : ℕ) (cs : List ℕ) → all letter w ≡ true → with_values body k (w ++ cs) ≡ w ++ with_values body k cs
unfolding letter_text
name-text [] body k cs h = refl
name-text (c ∷ w) body k cs h =
    let e = both (letter c) (all letter w) h in
    rw (no-space c e.0) (ap (λ (l : List ℕ). c ∷ l) (name-text w body k cs e.1))

fields-text : (ws : List (List ℕ)) (body : List ℕ) (k : ℕ) → all is_name ws ≡ true
    → with_values body k (spaced ws) ≡ word_value body k ++ shown ws (map (field body) (count_from k (length ws))) []
unfolding letter_text word_value
fields-text [] body k h = sym (append-nil (word_value body k))
fields-text (w ∷ ws) body k h =
    let e = both (is_name w) (all is_name ws) h in
    ap (λ (l : List ℕ). (word_value body k ++ (32 ∷ [])) ++ l)
    (name-text w body (suc k) (spaced ws) (name-letters w e.0) ∙ ap (λ (l : List ℕ). w ++ l) (fields-text ws body (suc k) e.1))
    ∙ append_assoc (word_value body k) (32 ∷ []) _

shown-tail : (ws : List (List ℕ)) (zs : List ℤ) (tail : List ℕ) → shown ws zs [] ++ tail ≡ shown ws zs tail
shown-tail [] zs tail = refl
shown-tail (w ∷ ws) [] tail = refl
shown-tail (w ∷ ws) (z ∷ zs) tail =
    let s = signed_decimal z in
    let more = shown ws zs [] in
    ap (λ (l : List ℕ). 32 ∷ l)
    (append_assoc w (61 ∷ (s ++ more)) tail
    ∙ ap (λ (l : List ℕ). w ++ (61 ∷ l)) (append_assoc s more tail ∙ ap (λ (l : List ℕ). s ++ l) (shown-tail ws zs tail)))

count_long : (a n : ℕ) → length (count_from a n) ≡ n
count_long a zero = refl
count_long a (suc n) = ap suc (count_long (suc a) n)

-- ---- a line of it

below : (m : List ℕ) → ((i : ℕ) → m ! i < 256) → Below m
below [] h = tt
below (b ∷ bs) h = (h 0, below bs (λ i. h (suc i)))

whole-size : (t : Bool) (size n : ℕ) → size ≡ cond t message_bytes 0 → size ≡ suc n → size ≡ message_bytes
whole-size true size n e k = e
whole-size false size n e k = absurd (omega (arith, e, k))

module _ (c : Call) where
  abbrev n : Names c
  n = names c

  abbrev kind : ℕ
  kind = kind_of c

  with-message : (k : ℕ) → n.size ≡ suc k → n.size ≡ message_bytes
  with-message k e =
      let p = row-of-parts kind (record { fields = n.fields; message = n.size }) n.body in
      whole-size (eqb p.row.kind 0x22) n.size k (sym p.message ∙ message-size kind p.row p.is) e

  message-there : (message line : List ℕ) (at : ℕ) → length message ≡ n.size → Below message → drop at line ≡ message_text message
      → MessageBack (message_read (zeros message_bytes) n.size line at) n.size message line
  unfolding message_text
  message-there [] line at long bytes h = rw (sym long) (no-message-back (zeros message_bytes) line at h)
  message-there (b ∷ bs) line at long bytes h =
      let whole = with-message (length bs) (sym long) in
      rw whole (message-back b bs line at (long ∙ whole) bytes h)

  message-stops : (message : List ℕ) → Stops in_word (message_text message)
  unfolding message_text
  message-stops [] = tt
  message-stops (b ∷ bs) = refl

  module _ (message line : List ℕ) (e : line ≡ n.name ++ shown n.words (fields_of c) (message_text message)) (fit : FieldsFit c)
      (long : length message ≡ n.size) (bytes : Below message) where
    abbrev tail : List ℕ
    tail = message_text message

    abbrev values : List ℕ
    values = shown n.words (fields_of c) tail

    begins : Stops is_blank (n.name ++ values) × (is_over (n.name ++ values) ≡ false)
    begins = name-begins n.name values n.letters

    start : word_start line 0 ≡ 0
    unfolding word_start
    start = ap (λ (l : List ℕ). 0 + prefix_len is_blank l) e ∙ ap (λ (k : ℕ). 0 + k) (run_is is_blank [] (n.name ++ values) refl begins.0)

    in-word : all in_word n.name ≡ true
    in-word = letters-in-word n.name (name-letters n.name n.letters)

    stops : Stops in_word values
    stops = shown-stops n.words (fields_of c) tail (message-stops message)

    call-is : line_of line ≡ call_line kind line (word_end line 0)
    unfolding line_of line_at
    call-is =
        ap (λ (k : ℕ). cond (is_over (drop k line)) Blank (with_kind line (word_end line k) (kind_named (word_at line k)))) start
        ∙ ap (λ (b : Bool). cond b Blank (with_kind line (word_end line 0) (kind_named (word_at line 0)))) (ap is_over e ∙ begins.1)
        ∙ ap (λ (x : Option ℕ). with_kind line (word_end line 0) x) (ap kind_named (the_word line 0 n.name values e in-word stops) ∙ n.named)

    read_back : FieldsBack (fields_read (n.fields / 4) no_fields kind line (word_end line 0)) (puts no_fields 0 (fields_of c)) line tail
    unfolding fields_read
    read_back =
        rw n.few
        (fields_back n.words (fields_of c) no_fields 0 (template kind) (word_end (template kind) 0) line (word_end line 0) tail
        (behind-word (template kind) 0 n.name (spaced n.words) n.is in-word (spaced-stops n.words)) (behind-word line 0 n.name values e in-word stops)
        n.many n.all-letters fit (message-stops message))

    ends : (area : List ℕ) (end : ℕ) → drop end line ≡ [] → take n.size area ≡ message
        → with_message c n.size line (read area (Ok end)) ≡ Bytes (record_bytes c message)
    unfolding word_start
    ends area end h b =
        let over : is_over (drop (end + prefix_len is_blank (drop end line)) line) ≡ true =
        ap (λ (l : List ℕ). is_over (drop (end + prefix_len is_blank l) line)) h ∙ ap (λ (k : ℕ). is_over (drop k line)) (add-zero end) ∙ ap is_over h in
        rw over (ap (λ (m : List ℕ). Bytes (record_bytes c m)) b)

    line-back : line_of line ≡ Bytes (record_bytes c message)
    unfolding call_line
    line-back =
        let f = read_back in
        let m = message-there message line f.end long bytes f.rest in
        call-is ∙ ap (with_parts kind line (word_end line 0)) n.body
        ∙ ap (λ (x : Read ℤ). with_fields kind n.size line x.area x.step) f.is
        ∙ ap (λ (d : Call). with_message d n.size line (message_read (zeros message_bytes) n.size line f.end)) n.made
        ∙ ap (with_message c n.size line) m.is ∙ ends m.area m.end m.rest m.bytes

-- ---- what stands at a place

abbrev length_of : maybe.Option Row → Option ℕ
length_of found = elim found [ none ↦ None | some r ↦ Some r.body ]

abbrev text_by : ℕ → List ℕ → Option ℕ → List ℕ
text_by kind body x =
    elim x [ None ↦ unknown_text kind | Some n ↦ cond (leb n (length body)) (call_text kind body) (cut_text kind n (length body)) ]

call-text : (kind : ℕ) (body : List ℕ) (r : Row) → row_of kind ≡ some r → r.body ≤ length body → here_text (kind ∷ body) ≡ call_text kind body
unfolding here_text body_length
call-text kind body r is fits = ap (text_by kind body) (ap length_of is) ∙ rw (le-leb r.body (length body) fits) refl

module _ (c : Call) (message rest : List ℕ) (fit : FieldsFit c) (size : length message ≡ message_length (kind_of c)) where
  abbrev body : List ℕ
  body = (joined (map code_bytes (fields_of c)) ++ message) ++ rest

  was : WasRead 0 (kind_of c) body c (record { at = 0 + length (record_bytes c message) })
  unfolding record_bytes
  was = was_read 0 (kind_of c) body c (record { at = 0 + length (record_bytes c message) }) (written-reads 0 c message rest fit size)

  its-fields : map (field body) (count_from 0 (length (names c).words)) ≡ fields_of c
  its-fields =
      let fs : fields_of c ≡ map (field body) (count_from 0 was.row.fields) =
      ap fields_of (sym was.made) ∙ fields_made (kind_of c) was.row was.is (field body) in
      let many : length (names c).words ≡ was.row.fields =
      (names c).many ∙ ap length fs ∙ length-map (count_from 0 was.row.fields) (field body) ∙ count_long 0 was.row.fields in
      ap (λ (k : ℕ). map (field body) (count_from 0 k)) many ∙ sym fs

  its-message : message_here (kind_of c ∷ body) ≡ message
  unfolding record_bytes
  its-message = message-reads 0 c message rest fit size

  text-is : here_text (record_bytes c message ++ rest) ≡ (names c).name ++ shown (names c).words (fields_of c) (message_text message)
  unfolding record_bytes call_text word_value
  text-is =
      let w = (names c).words in
      let name = (names c).name in
      call-text (kind_of c) body was.row was.is was.fits
      ∙ ap₂ (λ (l m : List ℕ). with_values body 0 l ++ message_text m) (names c).is its-message
      ∙ ap (λ (l : List ℕ). l ++ message_text message)
      (name-text name body 0 (spaced w) (name-letters name (names c).letters) ∙ ap (λ (l : List ℕ). name ++ l) (fields-text w body 0 (names c).all-letters))
      ∙ append_assoc name (shown w (map (field body) (count_from 0 (length w))) []) (message_text message)
      ∙ ap (λ (l : List ℕ). name ++ l)
      (shown-tail w (map (field body) (count_from 0 (length w))) (message_text message) ∙ ap (λ (zs : List ℤ). shown w zs (message_text message)) its-fields)

  -- it has no line feed
  pub text_in-line : all in_line (here_text (record_bytes c message ++ rest)) ≡ true
  text_in-line =
      ap (all in_line) text-is
      ∙ all_append in_line (names c).name (shown (names c).words (fields_of c) (message_text message)) (names c).in-line
      (shown-in-line (names c).words (fields_of c) (message_text message) (names c).all-in-line (message-in-line message))

pub shown-comes-back : ShownComesBack
shown-comes-back c message rest h =
    line-back c message (here_text (record_bytes c message ++ rest)) (text-is c message rest h.fields h.size) h.fields (h.size ∙ (names c).long)
    (below message h.bytes)
