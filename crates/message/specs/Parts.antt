-- Where part n of an area lies: areas are cut into parts of one size, counted from 1.
use Rattle.std.specs.Prelude.{ℕ, pred, ◌+◌, ◌*◌, min, ◌≡◌}

-- from a up to e, both within the area's length
pub record Bounds (size n length a e : ℕ) : Type 0 where
  pub begins : a ≡ min (pred n * size) length
  pub ends : e ≡ min (a + size) length
