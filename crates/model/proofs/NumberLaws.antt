-- Laws of numbers of objects: what a word names, and what a list by number has there. Assumes nothing.
use Prim.Native.Nat.{ℕ, zero, suc, ◌*◌, ◌+◌, ◌/◌, ◌%◌, ◌^◌, ◌≤◌, ◌<◌}
use native.Mathlib.Nat.{div-div-eq-div-mul, div-add-mod'}
use native.Mathlib.Decide.{dec_le, ℕ_discrete}
use native.Mathlib.Omega.{arith}
use mathlib.Core.Path.{◌≡◌, ◌∙◌, refl, sym, ap}
use mathlib.Core.Logic.{◌≢◌, ◌⊎◌, inl, inr}
use mathlib.Core.Bool.{Bool, true, false, ◌||◌, cond}
use mathlib.Core.List.{List, [], ◌∷◌}
use lib.ListN.{length, set, get_or-eq_default}
use lib.Seq.{get_or-set_same, get_or-set_other}
use lib.Dec.{eqb, ltb}
use lib.IntN.{ℤ, pos, negsuc}
use borrow.Author.Tests.{ne_eqb, eqb-true, eq-eqb, eqb-false, lt-ltb, le-ltb}
use Rattle.model.specs.Sizes.{tasks, mutexes, buffers, pools}
use Rattle.model.specs.Lists.{◌!◌}
use Rattle.model.specs.Kernel.{numbered}
use Rattle.model.specs.Code.{number, number4}
use Rattle.model.specs.Number.{TaskNumber, MutexNumber, BufferNumber, PoolNumber, word_number, field_number, numbered_as, maybe_number, maybe_task, maybe_mutex}
use Rattle.model.specs.Refusal.{outside}
use Rattle.model.specs.Valid.{From}
use Rattle.model.proofs.ListLaws.{or_right}
use Rattle.std.specs.Prelude.{Option, Some, None}
use Rattle.model.specs.declared.number.Number.{Number}
use Rattle.model.specs.declared.number.Task.{Task}
use Rattle.model.specs.declared.number.Mutex.{Mutex}
use Rattle.model.specs.declared.number.Buffer.{Buffer}
use Rattle.model.specs.declared.number.Pool.{Pool}

-- four bytes give the number that they were made of
pub number4-bytes4 : (n : ℕ) → n < 2 ^ 32 → number4 (n % 256) (n / 256 % 256) (n / 65536 % 256) (n / 16777216 % 256) ≡ n
number4-bytes4 n h =
    let a : ℕ = n / 256 in
    let b : ℕ = n / 65536 in
    let c : ℕ = n / 16777216 in
    let p : b ≡ a / 256 = sym (div-div-eq-div-mul n 256 256) in
    let q : c ≡ b / 256 = sym (div-div-eq-div-mul n 65536 256) in
    four n a b c (n % 256) (a % 256) (b % 256) (sym (div-add-mod' n 256)) (rw p (sym (div-add-mod' a 256))) (rw q (sym (div-add-mod' b 256))) h
  where
    four : (n a b c x y z : ℕ) → n ≡ a * 256 + x → a ≡ b * 256 + y → b ≡ c * 256 + z → n < 2 ^ 32 → number4 x y z (c % 256) ≡ n
    four n a b c x y z e f g h = omega arith

-- a word is a number up to the last, or it names nothing
abbrev pub Names : ℕ → ℕ → ℕ → Type 0
Names last u n = (n ≡ u) × (1 ≤ u) × (u ≤ last)

abbrev pub NamesNone : ℕ → ℕ → Type 0
NamesNone last u = (u ≡ 0) ⊎ (last < u)

pub names-one : (last u : ℕ) → (NamesNone last u → ⊥) → From 1 last u
names-one last u h =
    (elim (dec_le 1 u) [ yes a ↦ a | no a ↦ absurd (h (inl (omega arith))) ], elim (dec_le u last) [ yes b ↦ b | no b ↦ absurd (h (inr (omega arith))) ])

abbrev WordCases : ℕ → ℕ → Type 0
WordCases last u = Names last u (word_number u last) ⊎ ((word_number u last ≡ 0) × NamesNone last u)

word-cases : (last u : ℕ) → WordCases last u
unfolding word_number
word-cases last u = go (ℕ_discrete u 0) (dec_le u last)
  where
    go : Dec (u ≡ 0) → Dec (u ≤ last) → Names last u (cond (ltb last u) 0 u) ⊎ ((cond (ltb last u) 0 u ≡ 0) × NamesNone last u)
    go (yes e) d = inr (rw (e, le-ltb last 0 (omega arith)), inl e)
    go (no n) (yes h) = inl (rw (le-ltb last u h), omega arith, h)
    go (no n) (no h) = inr (rw (lt-ltb last u (omega arith)), inr (omega arith))

pub word-in-range : (last u : ℕ) → u ≤ last → word_number u last ≡ u
unfolding word_number
word-in-range last u h = rw (le-ltb last u h)

-- a list by number: none's entry and those beyond the end are 0, the others are the list's
pub numbered-at : (xs : List ℕ) (n : ℕ) → 1 ≤ n → numbered xs ! n ≡ xs ! n
numbered-at [] zero h = refl
numbered-at [] (suc n) h = refl
numbered-at (x ∷ xs) zero h = absurd (omega arith)
numbered-at (x ∷ xs) (suc n) h = refl

pub numbered-none : (last : ℕ) (xs : List ℕ) (u : ℕ) → length xs ≡ suc last → NamesNone last u → numbered xs ! u ≡ 0
numbered-none last xs u n (inl e) = rw e
numbered-none last xs u n (inr h) = numbered-at xs u (omega arith) ∙ get_or-eq_default xs 0 {n = u} (omega arith)

-- an entry that is not some number above 0 is not so in the numbered list either
pub numbered-not : (xs : List ℕ) (n a : ℕ) → xs ! n ≢ suc a → numbered xs ! n ≢ suc a
numbered-not xs zero a d e = omega arith
numbered-not xs (suc n) a d e = d (sym (numbered-at xs (suc n) (omega arith)) ∙ e)

-- it is as long as the list
pub numbered-long : (last : ℕ) (xs : List ℕ) → length xs ≡ suc last → length (numbered xs) ≡ suc last
numbered-long last [] e = absurd (omega arith)
numbered-long last (x ∷ xs) e = e

-- one entry exchanged
pub numbered-other : (xs : List ℕ) (t v n : ℕ) → n ≢ t → numbered (set xs t v) ! n ≡ numbered xs ! n
numbered-other xs t v zero d = refl
numbered-other xs t v (suc n) d =
    numbered-at (set xs t v) (suc n) (omega arith) ∙ get_or-set_other xs t (suc n) v 0 d ∙ sym (numbered-at xs (suc n) (omega arith))

pub numbered-same : (xs : List ℕ) (t v : ℕ) → 1 ≤ t → t < length xs → numbered (set xs t v) ! t ≡ v
numbered-same xs t v low high = numbered-at (set xs t v) t low ∙ get_or-set_same xs t v 0 high

-- a field that is in range is the number of something; one that is not is refused by order 5
pub field-inside : (last : ℕ) (n : ℤ) → field_number n last ≢ 0 → (outside (pos 1) (pos last) n ≡ false) × (number n ≡ field_number n last)
unfolding field_number
field-inside last (negsuc n) h = absurd (h refl)
field-inside last (pos n) h = go (word-cases last n)
  where
    go : WordCases last n → (ltb n 1 || ltb last n ≡ false) × (n ≡ word_number n last)
    go (inl q) = (rw (le-ltb n 1 q.1, le-ltb last n q.2), sym q.0)
    go (inr q) = absurd (h q.0)

pub field-outside : (last : ℕ) (n : ℤ) → field_number n last ≡ 0 → outside (pos 1) (pos last) n ≡ true
unfolding field_number
field-outside last (negsuc n) e = refl
field-outside last (pos n) e = go (word-cases last n)
  where
    beyond : NamesNone last n → ltb n 1 || ltb last n ≡ true
    beyond (inl z) = rw (lt-ltb n 1 (omega arith))
    beyond (inr l) = or_right (ltb n 1) (ltb last n) (lt-ltb last n l)

    go : WordCases last n → ltb n 1 || ltb last n ≡ true
    go (inl q) = absurd (let z = q.0 in let o = q.1 in omega arith)
    go (inr q) = beyond q.1

-- ---- the kinds of numbers, all of one make: from 1 to a last one, and an enum of nothing, or something with its number

pub record Kind (A : Type 0) : Type 0 where
  pub last : ℕ
  pub none : A
  pub some : ℕ → A
  -- what a number makes
  pub make : ℕ → A
  pub made : (n : ℕ) → make n ≡ cond (eqb n 0) none (some n)
  -- a number for each: 0 for nothing, else one more than its own
  pub code : A → ℕ
  pub none-code : code none ≡ 0
  pub some-code : (n : ℕ) → code (some n) ≡ suc n

module _ {A : Type 0} (kind : Kind A) {found : A} where
  -- what the number was that it was made from
  module _ {n : ℕ} (made : found ≡ kind.make n) where
    coded : kind.code found ≡ kind.code (cond (eqb n 0) kind.none (kind.some n))
    coded = ap kind.code (made ∙ kind.made n)

    pub is_some : {x : ℕ} → found ≡ kind.some x → (x ≡ n) × (n ≢ 0)
    is_some {x} e = go (eqb n 0) refl (sym coded ∙ ap kind.code e ∙ kind.some-code x)
      where
        go : (b : Bool) → eqb n 0 ≡ b → kind.code (cond b kind.none (kind.some n)) ≡ suc x → (x ≡ n) × (n ≢ 0)
        go true f q = absurd (omega (arith, sym kind.none-code ∙ q))
        go false f q = (omega (arith, sym (kind.some-code n) ∙ q), eqb-false n 0 f)

    pub is_none : found ≡ kind.none → n ≡ 0
    is_none e = go (eqb n 0) refl (sym coded ∙ ap kind.code e ∙ kind.none-code)
      where
        go : (b : Bool) → eqb n 0 ≡ b → kind.code (cond b kind.none (kind.some n)) ≡ 0 → n ≡ 0
        go true f q = eqb-true n 0 f
        go false f q = absurd (omega (arith, sym (kind.some-code n) ∙ q))

  -- the same of a word
  module _ {u : ℕ} (made : found ≡ kind.make (word_number u kind.last)) where
    pub named : {x : ℕ} → found ≡ kind.some x → Names kind.last u x
    named {x} e = go (is_some made e) (word-cases kind.last u)
      where
        go : (x ≡ word_number u kind.last) × (word_number u kind.last ≢ 0) → WordCases kind.last u → Names kind.last u x
        go q (inl w) = (q.0 ∙ w.0, w.1, w.2)
        go q (inr w) = absurd (q.1 w.0)

    pub unnamed : found ≡ kind.none → NamesNone kind.last u
    unnamed e = go (is_none made e) (word-cases kind.last u)
      where
        go : word_number u kind.last ≡ 0 → WordCases kind.last u → NamesNone kind.last u
        go q (inl w) = inl (sym w.0 ∙ q)
        go q (inr w) = w.1

    -- every number from 1 to the last names something
    pub never-unnamed : 1 ≤ u → u ≤ kind.last → found ≡ kind.none → ⊥
    never-unnamed low high e = go (unnamed e)
      where
        go : NamesNone kind.last u → ⊥
        go (inl z) = omega arith
        go (inr l) = omega arith

pub number-made : {K : Type 0} (n : ℕ) → maybe_number {K = K} n ≡ cond (eqb n 0) None (Some (numbered_as n))
unfolding maybe_number
number-made n = refl

pub number-some : {K : Type 0} (n : ℕ) → Some (numbered_as {K = K} (n + 1)) ≡ maybe_number (n + 1)
unfolding maybe_number
number-some n = rw (ne_eqb (n + 1) 0 (omega arith))

pub number-none : {K : Type 0} → None ≡ maybe_number {K = K} 0
unfolding maybe_number
number-none = refl

abbrev pub number_kind : (K : Type 0) (last : ℕ) → Kind (Option (Number K))
number_kind K last =
    record {
      last = last;
      none = None;
      some = λ n. Some (numbered_as n);
      make = maybe_number;
      made = number-made;
      code = λ x. elim x [ None ↦ 0 | Some n ↦ suc n.0 ];
      none-code = refl;
      some-code = λ n. refl;
    }

abbrev pub task_kind : Kind (Option TaskNumber)
task_kind = number_kind Task tasks

abbrev pub mutex_kind : Kind (Option MutexNumber)
mutex_kind = number_kind Mutex mutexes

abbrev pub buffer_kind : Kind (Option BufferNumber)
buffer_kind = number_kind Buffer buffers

abbrev pub pool_kind : Kind (Option PoolNumber)
pool_kind = number_kind Pool pools

-- ---- the same, each kind by its name

pub task-is : (n : ℕ) (x : TaskNumber) → maybe_task n ≡ Some x → (x.0 ≡ n) × (n ≢ 0)
task-is n x e = is_some task_kind refl e

pub task-is-none : (n : ℕ) → maybe_task n ≡ None → n ≡ 0
task-is-none n e = is_none task_kind refl e

pub task-zero : (n : ℕ) → n ≡ 0 → maybe_task n ≡ None
task-zero n e = number-made n ∙ rw (eq-eqb n 0 e)

pub task-there : (u : ℕ) (x : TaskNumber) → maybe_task (word_number u tasks) ≡ Some x → Names tasks u x.0
task-there u x e = named task_kind refl e

pub task-none : (u : ℕ) → maybe_task (word_number u tasks) ≡ None → NamesNone tasks u
task-none u e = unnamed task_kind refl e

pub mutex-there : (u : ℕ) (x : MutexNumber) → maybe_mutex (word_number u mutexes) ≡ Some x → Names mutexes u x.0
mutex-there u x e = named mutex_kind refl e

pub mutex-none : (u : ℕ) → maybe_mutex (word_number u mutexes) ≡ None → NamesNone mutexes u
mutex-none u e = unnamed mutex_kind refl e
