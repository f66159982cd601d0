-- How the most urgent of a queue is found: the best so far is compared with each that arrived after it.
use Rattle.std.specs.Prelude.{ℕ, cond, List, eqb, ltb}
use Rattle.model.specs.Lists.{◌!◌}

-- the better of the best so far (0 for none) and one that arrived after it
abbrev pub better : List ℕ → ℕ → ℕ → ℕ
better current b t = cond (eqb b 0) t (cond (ltb (current ! t) (current ! b)) t b)
