-- Laws of the state as words: nothing is lost between the words and the kernel. Assumes nothing.
use Prim.Native.Nat.{ℕ, suc}
use native.Mathlib.Omega.{arith}
use mathlib.Core.Path.{◌≡◌, ◌∙◌, refl, sym, ap}
use mathlib.Core.List.{List, [], ◌∷◌, map}
use lib.ListN.{length, get_or, set, get_or-map}
use Rattle.model.specs.Sizes.{tasks, mutexes, buffers, pools}
use Rattle.model.specs.Lists.{◌!◌, joined, sum}
use Rattle.model.specs.Kernel.{Kernel}
use Rattle.model.specs.Words.{cut, sizes, word_count, from_fields, fields, kernel, words}
use Rattle.model.specs.Field as field
use Rattle.state.specs.Words.{Represents}
use Rattle.state.specs.declared.layout.TheConstants.{WORDS}
use Rattle.state.proofs.LayoutLaws.{joined-cut, cut-joined, lengths-cut, length-joined}

-- an array of words has as many as the definitions say
pub long : (w : List ℕ) → length w ≡ WORDS → length w ≡ word_count
unfolding sizes
long w e = e

-- each list of the kernel has its field's size
unfoldable pub Sized : Kernel → Type 0
Sized k = map length (fields k) ≡ sizes

-- ---- nothing is lost between the words and the kernel

pub words-kernel : (w : List ℕ) → length w ≡ word_count → words (kernel w) ≡ w
unfolding kernel words fields from_fields sizes
words-kernel w h = joined-cut sizes w h

pub sized : (w : List ℕ) → length w ≡ word_count → Sized (kernel w)
unfolding kernel Sized fields from_fields sizes
sized w h = lengths-cut sizes w h

pub represented : {w : List ℕ} {k : Kernel} → Represents w k → w ≡ words k
represented {w} r = sym (words-kernel w r.length) ∙ ap words r.kernel

module _ (k : Kernel) (s : Sized k) where
  pub kernel-words : kernel (words k) ≡ k
  unfolding kernel words Sized fields from_fields
  kernel-words = ap (λ ns. from_fields (cut ns (joined (fields k)))) (sym s) ∙ ap from_fields (cut-joined (fields k))

  pub represents : Represents (words k) k
  unfolding words Sized
  represents = record { length = length-joined (fields k) ∙ ap sum s; kernel = kernel-words }

  -- a list's length by its field's number, as in `size_of k s field.arrivals` under `unfolding fields sizes`
  pub size_of : (f : ℕ) → length (get_or (fields k) f []) ≡ get_or sizes f 0
  unfolding Sized
  size_of f = sym (get_or-map length (fields k) f []) ∙ ap (λ ns. get_or ns f 0) s

-- a list of one word is that word, and a store in it leaves the stored one
pub one_word : (xs : List ℕ) → length xs ≡ 1 → xs ≡ xs ! 0 ∷ []
one_word [] h = absurd (omega arith)
one_word (x ∷ []) h = refl
one_word (x ∷ y ∷ xs) h = absurd (omega arith)

pub one-stored : (xs : List ℕ) (v : ℕ) → length xs ≡ 1 → set xs 0 v ≡ v ∷ []
one-stored xs v h = rw (one_word xs h)

-- ---- how long the lists of any words of a state are

module _ (w : List ℕ) (h : length w ≡ word_count) where
  pub places-long : length (kernel w).tasks.place ≡ suc tasks
  unfolding fields sizes
  places-long = size_of (kernel w) (sized w h) field.place

  pub currents-long : length (kernel w).tasks.current ≡ suc tasks
  unfolding fields sizes
  currents-long = size_of (kernel w) (sized w h) field.current

  pub arrivals-long : length (kernel w).arrivals ≡ tasks
  unfolding fields sizes
  arrivals-long = size_of (kernel w) (sized w h) field.arrivals

  pub bitmap-long : length (kernel w).bitmap ≡ 1
  unfolding fields sizes
  bitmap-long = size_of (kernel w) (sized w h) field.bitmap

  pub mutexes-long : length (kernel w).mutexes.attribute ≡ suc mutexes
  unfolding fields sizes
  mutexes-long = size_of (kernel w) (sized w h) field.mutex_attribute

  pub buffers-long : length (kernel w).buffers.attribute ≡ suc buffers
  unfolding fields sizes
  buffers-long = size_of (kernel w) (sized w h) field.buffer_attribute

  pub pools-long : length (kernel w).pools.attribute ≡ suc pools
  unfolding fields sizes
  pools-long = size_of (kernel w) (sized w h) field.pool_attribute
