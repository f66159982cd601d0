-- Functions on lists that the definitions are made of.
use Rattle.std.specs.Prelude.{ℕ, zero, suc, ◌+◌, Bool, true, false, ◌&&◌, ◌||◌, not, List, [], ◌∷◌, ◌++◌, length, get_or, take, replicate, eqb, leb}

-- the entry at a number, 0 beyond the end
infixl 80 ◌!◌
abbrev pub ◌!◌ : List ℕ → ℕ → ℕ
xs ! i = get_or xs i 0

-- n numbers from a on; the numbers 1 to n
abbrev pub count_from : ℕ → ℕ → List ℕ
count_from a zero = []
count_from a (suc n) = a ∷ count_from (suc a) n

abbrev pub up_to : ℕ → List ℕ
up_to n = count_from 1 n

abbrev pub zeros : ℕ → List ℕ
zeros n = replicate n 0

-- n entries: those of xs, then zeros
abbrev pub padded : ℕ → List ℕ → List ℕ
padded n xs = take n (xs ++ zeros n)

-- lists put one behind the other
abbrev pub joined : List (List ℕ) → List ℕ
joined [] = []
joined (x ∷ xs) = x ++ joined xs

abbrev pub sum : List ℕ → ℕ
sum [] = 0
sum (x ∷ xs) = x + sum xs

module _ {A : Type 0} where
  -- one more element in front, if the test says so
  abbrev pub keep : Bool → A → List A → List A
  keep true x xs = x ∷ xs
  keep false x xs = xs

  -- those that pass a test, in their order
  abbrev pub select : (A → Bool) → List A → List A
  select p [] = []
  select p (x ∷ xs) = keep (p x) x (select p xs)

  abbrev pub all : (A → Bool) → List A → Bool
  all p [] = true
  all p (x ∷ xs) = p x && all p xs

  abbrev pub any : (A → Bool) → List A → Bool
  any p [] = false
  any p (x ∷ xs) = p x || any p xs

  -- the place of the first that passes a test, counted from 0; the length if none does
  abbrev pub place_where : (A → Bool) → List A → ℕ
  place_where p [] = 0
  place_where p (x ∷ xs) = elim (p x) [ true ↦ 0 | false ↦ suc (place_where p xs) ]

-- the first that passes a test, 0 if none does
abbrev pub first_where : (ℕ → Bool) → List ℕ → ℕ
first_where p [] = 0
first_where p (x ∷ xs) = elim (p x) [ true ↦ x | false ↦ first_where p xs ]

abbrev pub member : ℕ → List ℕ → Bool
member x = any (eqb x)

abbrev pub without : ℕ → List ℕ → List ℕ
without x = select (λ y. not (eqb x y))

-- the first of a list, 0 if it is empty
abbrev pub head_of : List ℕ → ℕ
head_of [] = 0
head_of (x ∷ xs) = x

-- how often a number stands in a list
abbrev pub occurrences : ℕ → List ℕ → ℕ
occurrences x xs = length (select (eqb x) xs)

-- two lists of numbers are the same; a list has only zeros
abbrev pub same : List ℕ → List ℕ → Bool
same [] [] = true
same [] (y ∷ ys) = false
same (x ∷ xs) [] = false
same (x ∷ xs) (y ∷ ys) = eqb x y && same xs ys

abbrev pub all_zero : List ℕ → Bool
all_zero = all (eqb 0)

-- a test that is asked only where another holds
abbrev pub implies : Bool → Bool → Bool
implies a b = not a || b

-- a number from the first to the second
abbrev pub within : ℕ → ℕ → ℕ → Bool
within low high n = leb low n && leb n high
