-- Flags that are asked together, as contracts of the check of a state cite them.
use Rattle.std.specs.Prelude.{ℕ, Bool, true, ◌&&◌, List, [], ◌∷◌}
use Rattle.model.specs.Lists.{all}

-- every flag is set
abbrev pub every : List Bool → Bool
every = all (λ b. b)

-- flags side by side, as `&` joins them
abbrev pub joined_to : Bool → List Bool → Bool
joined_to a [] = a
joined_to a (b ∷ bs) = joined_to (a && b) bs

abbrev pub joined_flags : List Bool → Bool
joined_flags [] = true
joined_flags (b ∷ bs) = joined_to b bs

-- whether a number passes all of some tests
abbrev pub passes : List (ℕ → Bool) → ℕ → Bool
passes ps n = all (λ p. p n) ps
