-- One packed message at the front of a list: what is read of it, and what lies behind it. Assumes nothing.
use Prim.Native.Nat.{ℕ, ◌+◌, ◌-◌, ◌<◌, ◌^◌, min}
use native.Mathlib.Omega.{arith}
use mathlib.Core.List.{List, ◌++◌, append_assoc}
use mathlib.Core.Path.{◌≡◌, ◌∙◌, ap}
use lib.ListN.{length, take, drop, length-append, length-replicate}
use lib.Seq.{take-append_seam, drop_at}
use Rattle.model.proofs.NumberLaws.{number4-bytes4}
use Rattle.model.specs.Lists.{zeros}
use Rattle.model.specs.Message.{rounded_up, cost, packed, oldest_length, oldest, removed}

pub length-packed : (m : List ℕ) → length (packed m) ≡ cost (length m)
unfolding packed cost
length-packed m = simp (length-append, length-replicate) (omega arith)

module _ (m z : List ℕ) where
  pub oldest_length-packed : length m < 2 ^ 32 → oldest_length (packed m ++ z) ≡ length m
  unfolding oldest_length packed
  oldest_length-packed h = number4-bytes4 (length m) h

  bytes_packed : take (length m) (drop 4 (packed m ++ z)) ≡ m
  unfolding packed
  bytes_packed =
      let zs : List ℕ = zeros (rounded_up (length m) - length m) in
      ap (take (length m)) (append_assoc m zs z) ∙ take-append_seam m (zs ++ z)

  pub oldest-packed : length m < 2 ^ 32 → oldest (packed m ++ z) ≡ m
  unfolding oldest
  oldest-packed h = rw (oldest_length-packed h) bytes_packed

  pub behind-packed : drop (cost (length m)) (packed m ++ z) ≡ z
  behind-packed = drop_at (packed m) z (cost (length m)) (length-packed m)

  pub removed-packed : length m < 2 ^ 32 → removed (packed m ++ z) ≡ z ++ zeros (cost (length m))
  unfolding removed
  removed-packed h =
      let n : ℕ = cost (length m) in
      let l : length (packed m ++ z) ≡ n + length z = length-append (packed m) z ∙ ap (λ (k : ℕ). k + length z) (length-packed m) in
      let e : min n (length (packed m ++ z)) ≡ n = omega arith in
      rw (oldest_length-packed h) (rw (e, behind-packed))
