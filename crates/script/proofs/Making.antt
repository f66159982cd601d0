-- Three fields of a record as the machine has them. Assumes nothing.
use mathlib.Core.Path.{◌≡◌}
use mathlib.Core.List.{List, [], ◌∷◌}
use lib.IntN.{ℤ}
use mir.Syntax.{w32}
use mir.Val.{SFits, to_z, of_z}
use mir.Facts.{to_z-of_z}

-- three fields as the machine reads them back
abbrev pub three_back : ℤ → ℤ → ℤ → List ℤ
three_back a b c = to_z w32 (of_z w32 a) ∷ to_z w32 (of_z w32 b) ∷ to_z w32 (of_z w32 c) ∷ []

pub same : {a b c : ℤ} → SFits w32 a → SFits w32 b → SFits w32 c → three_back a b c ≡ a ∷ b ∷ c ∷ []
same f g h = rw (to_z-of_z f, to_z-of_z g, to_z-of_z h)
