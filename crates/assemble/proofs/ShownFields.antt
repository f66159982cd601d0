-- A field as `show` writes it, read again. Assumes nothing.
use Prim.Native.Nat.pow
use Prim.Native.Nat.{ℕ, zero, suc, ◌+◌, ◌*◌, ◌-◌, ◌/◌, ◌%◌, ◌^◌, ◌≤◌, ◌<◌}
use native.Mathlib.Omega.{arith}
use mathlib.Core.Path.{◌≡◌, ◌∙◌, refl, sym, ap, ap₂}
use mathlib.Core.Bool.{Bool, true, false, not, ◌&&◌, ◌||◌, cond, false≢true}
use mathlib.Core.List.{List, [], ◌∷◌, ◌++◌, foldl, append_assoc, foldl-append}
use lib.ListN.{length, take, drop, set, length-append, length-drop}
use lib.Seq.{drop-drop, drop_at, take_at, get_or-drop}
use lib.IntN.{ℤ, pos, negsuc}
use lib.Signed.{mag}
use lib.Dec.{eqb, ltb}
use Rattle.model.proofs.Terms.{◌!◌, all, Fit, eq-eqb, ne_eqb, le-leb, leb-true, lt-ltb, ltb-true}
use Rattle.text.specs.Numbers.{digit, digits_of, decimal, signed_decimal}
use Rattle.std.specs.Prelude.{Option, Some, Ok, ok_or, option_and_then, bytes_eq}
use Rattle.std.specs.List.{prefix_len}
use Rattle.assemble.specs.declared.reason.Reason.TheVariants.{NotANumber}
use Rattle.assemble.specs.Words.{is_blank, ends_word, word_start, word_length, word_end, word_at, is_over}
use Rattle.assemble.specs.Numbers.{largest, is_digit, with_digit, and_digit, magnitude, from_zero_up, below_zero, number_at}
use Rattle.assemble.specs.Read.{Read, read}
use Rattle.assemble.specs.Fields.{in_name, name_length, number_from, field_of, field_at, fields_from}
use Rattle.assemble.proofs.Fielding.{by_field}

-- what a line is made of
abbrev pub in_line : ℕ → Bool
in_line c = not (eqb c 10)

-- ---- tests of every byte

pub both : (a b : Bool) → a && b ≡ true → (a ≡ true) × (b ≡ true)
both true b h = (refl, h)
both false b h = absurd (false≢true h)

pub and-true : (a b : Bool) → a ≡ true → b ≡ true → a && b ≡ true
and-true a b p q = rw (p, q) refl

pub all_append : (p : ℕ → Bool) (a b : List ℕ) → all p a ≡ true → all p b ≡ true → all p (a ++ b) ≡ true
all_append p [] b h k = k
all_append p (c ∷ a) b h k = let e = both (p c) (all p a) h in and-true (p c) (all p (a ++ b)) e.0 (all_append p a b e.1 k)

pub all_so : (p q : ℕ → Bool) (l : List ℕ) → ((c : ℕ) → p c ≡ true → q c ≡ true) → all p l ≡ true → all q l ≡ true
all_so p q [] f h = refl
all_so p q (c ∷ l) f h = let e = both (p c) (all p l) h in and-true (q c) (all q l) (f c e.0) (all_so p q l f e.1)

-- ---- a run, and the word at a place, by what stands from there on

-- a run ends where nothing follows, or a byte of which the test does not hold
abbrev pub Stops : (ℕ → Bool) → List ℕ → Type 0
Stops p [] = Unit {0}
Stops p (c ∷ l) = p c ≡ false

pub run_is : (p : ℕ → Bool) (w tail : List ℕ) → all p w ≡ true → Stops p tail → prefix_len p (w ++ tail) ≡ length w
run_is p [] [] h s = refl
run_is p [] (c ∷ t) h s = rw s refl
run_is p (c ∷ w) tail h s = let e = both (p c) (all p w) h in rw e.0 (omega (arith, run_is p w tail e.1 s))

abbrev pub in_word : ℕ → Bool
in_word c = not (ends_word c)

-- what a name is made of
abbrev pub letter : ℕ → Bool
letter c = in_word c && in_name c

module _ (line : List ℕ) (at : ℕ) (w tail : List ℕ) (here : drop at line ≡ w ++ tail) where
  pub behind : drop (at + length w) line ≡ tail
  behind = sym (drop-drop (length w) at line) ∙ ap (drop (length w)) here ∙ drop_at w tail (length w) refl

  module _ (word : all in_word w ≡ true) (end : Stops in_word tail) where
    word-long : word_length line at ≡ length w
    unfolding word_length
    word-long = ap (prefix_len in_word) here ∙ run_is in_word w tail word end

    pub the_word : word_at line at ≡ w
    unfolding word_at
    the_word = ap₂ (λ (n : ℕ) (l : List ℕ). take n l) word-long here ∙ take_at w tail (length w) refl

    pub behind-word : drop (word_end line at) line ≡ tail
    unfolding word_end
    behind-word = ap (λ (n : ℕ). drop (at + n) line) word-long ∙ behind

pub one-blank : (line : List ℕ) (at : ℕ) (l : List ℕ) → drop at line ≡ 32 ∷ l → Stops is_blank l → word_start line at ≡ at + 1
unfolding word_start
one-blank line at l h s = ap (λ (x : List ℕ). at + prefix_len is_blank x) h ∙ ap (λ (n : ℕ). at + n) (run_is is_blank (32 ∷ []) l refl s)

-- ---- letters

pub not-or : (a b : Bool) → not (a || b) ≡ true → (a ≡ false) × (b ≡ false)
not-or true b h = absurd (false≢true h)
not-or false true h = absurd (false≢true h)
not-or false false h = (refl, refl)

pub letter-begins : (w tail : List ℕ) → all letter w ≡ true → Stops is_blank tail → is_over tail ≡ false → Stops is_blank (w ++ tail) × (is_over (w ++ tail) ≡ false)
letter-begins [] tail h s o = (s, o)
letter-begins (c ∷ w) tail h s o =
    let e = both (letter c) (all letter w) h in
    not-or (is_blank c) (eqb c 35) (both (in_word c) (in_name c) e.0).0

pub letters-in-word : (w : List ℕ) → all letter w ≡ true → all in_word w ≡ true
letters-in-word w h = all_so letter in_word w (λ c e. (both (in_word c) (in_name c) e).0) h

-- a name has one at least
abbrev pub is_name : List ℕ → Bool
is_name [] = false
is_name (c ∷ w) = all letter (c ∷ w)

pub name-letters : (w : List ℕ) → is_name w ≡ true → all letter w ≡ true
name-letters [] h = refl
name-letters (c ∷ w) h = h

pub name-begins : (w tail : List ℕ) → is_name w ≡ true → Stops is_blank (w ++ tail) × (is_over (w ++ tail) ≡ false)
name-begins [] tail h = absurd (false≢true h)
name-begins (c ∷ w) tail h = not-or (is_blank c) (eqb c 35) (both (in_word c) (in_name c) (both (letter c) (all letter w) h).0).0

letters-in-name : (w : List ℕ) → all letter w ≡ true → all in_name w ≡ true
letters-in-name w h = all_so letter in_name w (λ c e. (both (in_word c) (in_name c) e).1) h

-- ---- digits

digit-in-word : (c : ℕ) → is_digit c ≡ true → in_word c ≡ true
digit-in-word c h =
    let low : 48 ≤ c = leb-true 48 c (both _ _ h).0 in
    rw (ne_eqb c 32 (λ e. omega arith), ne_eqb c 9 (λ e. omega arith), ne_eqb c 13 (λ e. omega arith), ne_eqb c 35 (λ e. omega arith)) refl

is_digit-digit : (n : ℕ) → n < 10 → is_digit (digit n) ≡ true
is_digit-digit n h = rw (le-leb 48 (48 + n) (omega arith), le-leb (48 + n) 57 (omega arith)) refl

digits-by : (most n : ℕ) (b : Bool) → ltb n 10 ≡ b → all is_digit (digits_of most (n / 10)) ≡ true
    → all is_digit (cond b (digit n ∷ []) (digits_of most (n / 10) ++ (digit (n % 10) ∷ []))) ≡ true
digits-by most n true e h = and-true (is_digit (digit n)) true (is_digit-digit n (ltb-true n 10 e)) refl
digits-by most n false e h =
    all_append is_digit (digits_of most (n / 10)) (digit (n % 10) ∷ []) h (and-true (is_digit (digit (n % 10))) true (is_digit-digit (n % 10) (omega arith)) refl)

all_digits : (most n : ℕ) → all is_digit (digits_of most n) ≡ true
all_digits zero n = refl
all_digits (suc most) n = digits-by most n (ltb n 10) refl (all_digits most (n / 10))

one_more : (n d : ℕ) → d < 10 → 10 * n + d ≤ largest → with_digit n (digit d) ≡ Some (10 * n + d)
unfolding with_digit
one_more n d h l =
    let e : 10 * n + (48 + d - 48) ≡ 10 * n + d = omega arith in
    rw (le-leb 48 (48 + d) (omega arith), le-leb (48 + d) 57 (omega arith), le-leb (10 * n + (48 + d - 48)) largest (omega arith), with_digit) (ap Some e)

power : (k : ℕ) → 10 ^ suc k ≡ 10 * 10 ^ k
power k = pow.suc 10 k ∙ omega arith

back_by : (most n : ℕ) (b : Bool) → ltb n 10 ≡ b → n ≤ largest → foldl and_digit (Some 0) (digits_of most (n / 10)) ≡ Some (n / 10)
    → foldl and_digit (Some 0) (cond b (digit n ∷ []) (digits_of most (n / 10) ++ (digit (n % 10) ∷ []))) ≡ Some n
back_by most n true e l h = one_more 0 n (ltb-true n 10 e) (omega arith) ∙ ap Some (let z : 10 * 0 + n ≡ n = omega arith in z)
back_by most n false e l h =
    let whole : 10 * (n / 10) + n % 10 ≡ n = omega arith in
    foldl-append and_digit (Some 0) (digits_of most (n / 10)) (digit (n % 10) ∷ []) ∙ ap (λ (m : Option ℕ). and_digit m (digit (n % 10))) h
    ∙ one_more (n / 10) (n % 10) (omega arith) (omega arith) ∙ ap Some whole

digits-back : (most n : ℕ) → n < 10 ^ most → n ≤ largest → foldl and_digit (Some 0) (digits_of most n) ≡ Some n
digits-back zero n h l = ap Some (let z : 0 ≡ n = omega arith in z)
digits-back (suc most) n h l =
    let p = power most in
    back_by most n (ltb n 10) refl l (digits-back most (n / 10) (omega (arith, p)) (omega arith))

decimal-back : (n : ℕ) → n ≤ largest → foldl and_digit (Some 0) (decimal n) ≡ Some n
unfolding decimal
decimal-back n l = digits-back 20 n (omega arith) l

decimal-digits : (n : ℕ) → all is_digit (decimal n) ≡ true
unfolding decimal
decimal-digits n = all_digits 20 n

decimal-some : (n : ℕ) → 1 ≤ length (decimal n)
unfolding decimal
decimal-some n = elim (ltb n 10) as (λ b. 1 ≤ length (cond b (digit n ∷ []) (digits_of 19 (n / 10) ++ (digit (n % 10) ∷ []))))
    [ true ↦ omega arith | false ↦ omega (arith, length-append (digits_of 19 (n / 10)) (digit (n % 10) ∷ [])) ]

-- ---- a number

-- a list that begins with a byte, from a place of a longer one on
module _ (l : List ℕ) (at c : ℕ) (rest : List ℕ) (here : drop at l ≡ c ∷ rest) where
  pub stands : at < length l
  stands = omega (arith, ap length here, length-drop at l)

  pub stands-there : l ! at ≡ c
  stands-there =
      ap (λ (k : ℕ). l ! k) (let e : at ≡ at + 0 = omega arith in e) ∙ sym (get_or-drop at l 0 0) ∙ ap (λ (x : List ℕ). x ! 0) here

  pub next-stands : drop (at + 1) l ≡ rest
  next-stands = behind l at (c ∷ []) rest here

magnitude-back : (w : List ℕ) (from n : ℕ) (ds : List ℕ) → drop from w ≡ decimal n → ds ≡ decimal n → n ≤ largest → magnitude w from ≡ Some n
unfolding magnitude
magnitude-back w from n [] h e l = absurd (omega (arith, ap length e, decimal-some n))
magnitude-back w from n (d ∷ ds) h e l =
    rw (lt-ltb from (length w) (stands w from d ds (h ∙ sym e)), magnitude) (ap (foldl and_digit (Some 0)) h ∙ decimal-back n l)

below-back : (n : ℕ) → n < largest → below_zero (suc n) ≡ Some (negsuc n)
unfolding below_zero
below-back n l = rw (le-leb (suc n) largest (omega arith), below_zero) refl

up-back : (n : ℕ) → n < largest → from_zero_up n ≡ Some (pos n)
unfolding from_zero_up
up-back n l = rw (lt-ltb n largest l, from_zero_up) refl

module _ (w : List ℕ) (from : ℕ) where
  positive : (n : ℕ) (ds : List ℕ) → drop from w ≡ decimal n → ds ≡ decimal n → n < largest → number_at w from ≡ Some (pos n)
  unfolding number_at
  positive n [] h e l = absurd (omega (arith, ap length e, decimal-some n))
  positive n (d ∷ ds) h e l =
      let here : drop from w ≡ d ∷ ds = h ∙ sym e in
      let all_are : all is_digit (d ∷ ds) ≡ true = ap (all is_digit) e ∙ decimal-digits n in
      let low : 48 ≤ d = leb-true 48 d (both _ _ (both (is_digit d) (all is_digit ds) all_are).0).0 in
      let there = stands-there w from d ds here in
      rw (lt-ltb from (length w) (stands w from d ds here), ne_eqb (w ! from) 45 (λ q. omega (arith, q, there)), number_at)
      (ap (option_and_then from_zero_up) (magnitude-back w from n (d ∷ ds) h e (omega arith)) ∙ up-back n l)

  negative : (n : ℕ) → drop from w ≡ 45 ∷ decimal (suc n) → n < largest → number_at w from ≡ Some (negsuc n)
  unfolding number_at
  negative n h l =
      let next = next-stands w from 45 (decimal (suc n)) h in
      rw (lt-ltb from (length w) (stands w from 45 (decimal (suc n)) h), eq-eqb (w ! from) 45 (stands-there w from 45 (decimal (suc n)) h), number_at)
      (ap (option_and_then below_zero) (magnitude-back w (from + 1) (suc n) (decimal (suc n)) next refl (omega arith)) ∙ below-back n l)

  pub number-back : (z : ℤ) → drop from w ≡ signed_decimal z → mag z < 2 ^ 31 → number_at w from ≡ Some z
  unfolding signed_decimal
  number-back (pos n) h l = positive n (decimal n) h refl l
  number-back (negsuc n) h l = negative n h l

signed-in-word : (z : ℤ) → all in_word (signed_decimal z) ≡ true
unfolding signed_decimal
signed-in-word (pos n) = all_so is_digit in_word (decimal n) digit-in-word (decimal-digits n)
signed-in-word (negsuc n) = all_so is_digit in_word (decimal (suc n)) digit-in-word (decimal-digits (suc n))

-- ---- a field

pub same_self : (l : List ℕ) → bytes_eq l l ≡ true
same_self [] = refl
same_self (c ∷ l) = rw (eq-eqb c c refl) (same_self l)

-- with its name in front
module _ (name : List ℕ) (z : ℤ) (ok : all letter name ≡ true) (fits : mag z < 2 ^ 31) where
  abbrev word : List ℕ
  word = name ++ (61 ∷ signed_decimal z)

  name-long : name_length word ≡ length name
  unfolding name_length
  name-long = run_is in_name name (61 ∷ signed_decimal z) (letters-in-name name ok) refl

  number-there : number_from word (length name + 1) ≡ Ok z
  unfolding number_from
  number-there =
      let at-equals : drop (length name) word ≡ 61 ∷ signed_decimal z = drop_at name (61 ∷ signed_decimal z) (length name) refl in
      ap (λ (m : Option ℤ). ok_or m NotANumber) (number-back word (length name + 1) z (next-stands word (length name) 61 (signed_decimal z) at-equals) fits)

  word-is-field : field_of name word ≡ Ok z
  unfolding field_of
  word-is-field =
      let longer : length name < length word = omega (arith, length-append name (61 ∷ signed_decimal z)) in
      let its : bytes_eq (take (length name) word) name ≡ true =
      ap (λ (l : List ℕ). bytes_eq l name) (take_at name (61 ∷ signed_decimal z) (length name) refl) ∙ same_self name in
      rw (field_of, name-long, lt-ltb (length name) (length word) longer, its) number-there

  word-in-word : all in_word word ≡ true
  word-in-word = all_append in_word name (61 ∷ signed_decimal z) (letters-in-word name ok) (signed-in-word z)

  -- behind a space
  module _ (line : List ℕ) (at : ℕ) (tail : List ℕ) (here : drop at line ≡ 32 ∷ (name ++ (61 ∷ (signed_decimal z ++ tail)))) (end : Stops in_word tail) where
    begins : Stops is_blank (name ++ (61 ∷ (signed_decimal z ++ tail))) × (is_over (name ++ (61 ∷ (signed_decimal z ++ tail))) ≡ false)
    begins = letter-begins name (61 ∷ (signed_decimal z ++ tail)) ok refl refl

    start : word_start line at ≡ at + 1
    start = one-blank line at (name ++ (61 ∷ (signed_decimal z ++ tail))) here begins.0

    from_start : drop (word_start line at) line ≡ name ++ (61 ∷ (signed_decimal z ++ tail))
    from_start = ap (λ (k : ℕ). drop k line) start ∙ next-stands line at 32 (name ++ (61 ∷ (signed_decimal z ++ tail))) here

    word-there : drop (word_start line at) line ≡ word ++ tail
    word-there = from_start ∙ sym (append_assoc name (61 ∷ signed_decimal z) tail)

    pub field_back : field_at name line (word_start line at) ≡ Ok z
    unfolding field_at
    field_back =
        rw (field_at, ap is_over from_start ∙ begins.1)
        (ap (field_of name) (the_word line (word_start line at) word tail word-there word-in-word end) ∙ word-is-field)

    pub behind-field : drop (word_end line (word_start line at)) line ≡ tail
    behind-field = behind-word line (word_start line at) word tail word-there word-in-word end

-- ---- all fields

-- the names of a template behind the call's, and the same with their values
abbrev pub spaced : List (List ℕ) → List ℕ
spaced [] = []
spaced (w ∷ ws) = 32 ∷ (w ++ spaced ws)

abbrev pub shown : List (List ℕ) → List ℤ → List ℕ → List ℕ
shown [] zs tail = tail
shown (w ∷ ws) [] tail = tail
shown (w ∷ ws) (z ∷ zs) tail = 32 ∷ (w ++ (61 ∷ (signed_decimal z ++ shown ws zs tail)))

digit-in-line : (c : ℕ) → is_digit c ≡ true → in_line c ≡ true
digit-in-line c h = let low : 48 ≤ c = leb-true 48 c (both _ _ h).0 in ap not (ne_eqb c 10 (λ e. omega arith))

signed-in-line : (z : ℤ) → all in_line (signed_decimal z) ≡ true
unfolding signed_decimal
signed-in-line (pos n) = all_so is_digit in_line (decimal n) digit-in-line (decimal-digits n)
signed-in-line (negsuc n) = all_so is_digit in_line (decimal (suc n)) digit-in-line (decimal-digits (suc n))

pub shown-in-line : (ws : List (List ℕ)) (zs : List ℤ) (tail : List ℕ) → all (all in_line) ws ≡ true → all in_line tail ≡ true
    → all in_line (shown ws zs tail) ≡ true
shown-in-line [] zs tail h k = k
shown-in-line (w ∷ ws) [] tail h k = k
shown-in-line (w ∷ ws) (z ∷ zs) tail h k =
    let e = both (all in_line w) (all (all in_line) ws) h in
    all_append in_line w (61 ∷ (signed_decimal z ++ shown ws zs tail)) e.0
    (all_append in_line (signed_decimal z) (shown ws zs tail) (signed-in-line z) (shown-in-line ws zs tail e.1 k))

-- what they are put in
abbrev pub puts : List ℤ → ℕ → List ℤ → List ℤ
puts values i [] = values
puts values i (z ∷ zs) = puts (set values i z) (suc i) zs

pub record FieldsBack (r : Read ℤ) (values : List ℤ) (line tail : List ℕ) : Type 0 where
  pub end : ℕ
  pub is : r ≡ read values (Ok end)
  pub rest : drop end line ≡ tail

pub spaced-stops : (ws : List (List ℕ)) → Stops in_word (spaced ws)
spaced-stops [] = tt
spaced-stops (w ∷ ws) = refl

pub shown-stops : (ws : List (List ℕ)) (zs : List ℤ) (tail : List ℕ) → Stops in_word tail → Stops in_word (shown ws zs tail)
shown-stops [] zs tail s = s
shown-stops (w ∷ ws) [] tail s = s
shown-stops (w ∷ ws) (z ∷ zs) tail s = refl

pub fields_back : (ws : List (List ℕ)) (zs values : List ℤ) (i : ℕ) (names : List ℕ) (t : ℕ) (line : List ℕ) (at : ℕ) (tail : List ℕ)
    → drop t names ≡ spaced ws → drop at line ≡ shown ws zs tail → length ws ≡ length zs → all is_name ws ≡ true → Fit zs → Stops in_word tail
    → FieldsBack (fields_from (length ws) i values names t line at) (puts values i zs) line tail
fields_back [] [] values i names t line at tail hn hl long ok fit s = record { end = at; is = refl; rest = hl }
fields_back [] (z ∷ zs) values i names t line at tail hn hl long ok fit s = absurd (omega arith)
fields_back (w ∷ ws) [] values i names t line at tail hn hl long ok fit s = absurd (omega arith)
fields_back (w ∷ ws) (z ∷ zs) values i names t line at tail hn hl long ok fit s =
    let k = both (is_name w) (all is_name ws) ok in
    let letters = name-letters w k.0 in
    let more = shown ws zs tail in
    let here : drop at line ≡ 32 ∷ (w ++ (61 ∷ (signed_decimal z ++ more))) = hl in
    let stops = shown-stops ws zs tail s in
    let name-start : drop (word_start names t) names ≡ w ++ spaced ws =
    ap (λ (n : ℕ). drop n names) (one-blank names t (w ++ spaced ws) hn (name-begins w (spaced ws) k.0).0) ∙ next-stands names t 32 (w ++ spaced ws) hn in
    let in-word = letters-in-word w letters in
    let its-name = the_word names (word_start names t) w (spaced ws) name-start in-word (spaced-stops ws) in
    let f : field_at (word_at names (word_start names t)) line (word_start line at) ≡ Ok z =
    ap (λ (x : List ℕ). field_at x line (word_start line at)) its-name ∙ field_back w z letters fit.0 line at more here stops in
    let r = fields_back ws zs (set values i z) (suc i) names (word_end names (word_start names t)) line (word_end line (word_start line at)) tail
    (behind-word names (word_start names t) w (spaced ws) name-start in-word (spaced-stops ws))
    (behind-field w z letters fit.0 line at more here stops) (omega arith) k.1 fit.1 s
    in record { end = r.end; is = ap (by_field (length ws) i values names (word_end names (word_start names t)) line (word_end line (word_start line at))) f ∙ r.is; rest = r.rest }
