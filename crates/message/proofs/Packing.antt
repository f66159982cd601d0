-- Packing as a run of stores, which is how the code does it. Assumes nothing.
use Prim.Native.Nat.{ℕ, ◌+◌, ◌-◌, ◌≤◌, min}
use native.Mathlib.Omega.{arith}
use mathlib.Core.List.{List, [], ◌++◌, append-nil}
use mathlib.Core.Path.{◌≡◌, ◌∙◌, sym, ap}
use lib.ListN.{length, take, drop, length-append, length-take, length-drop, length-replicate, drop_of_length-le}
use lib.Seq.{sets, take_all, length-sets}
use Rattle.model.specs.Lists.{zeros, padded}
use Rattle.model.specs.Code.{bytes4}
use Rattle.model.specs.Message.{rounded_up, cost, packed, appended, oldest_length, removed}
use Rattle.message.proofs.Parts.{take_min, drop_min}
use Rattle.message.proofs.Stores.{sets-append, overwritten-sets, sets-front, sets-whole}

pub appended-sets : (r : List ℕ) (used : ℕ) (m : List ℕ) → appended r used m ≡ sets r used (packed m)
unfolding appended
appended-sets r used m = overwritten-sets r used (packed m)

pub length-appended : (r : List ℕ) (used : ℕ) (m : List ℕ) → length (appended r used m) ≡ length r
length-appended r used m = ap length (appended-sets r used m) ∙ length-sets r used (packed m)

-- a message is stored in three steps: its length, its bytes, the zeros behind them
pub packed-sets : (r m : List ℕ) (n : ℕ) → let k = min n (length m) in
    sets (sets (sets r 0 (bytes4 k)) 4 (take k m)) (4 + k) (zeros (rounded_up k - k)) ≡ sets r 0 (packed (take n m))
unfolding packed
packed-sets r m n = rw (take_min n m) (rw (← length-take n m) (sym (sets-append (take n m) _ _ 4)))

-- what is left of a region moves to its front, and zeros follow
pub removed-sets : (r : List ℕ) → let k = min (cost (oldest_length r)) (length r) in
    sets (sets r 0 (drop k r)) (length r - k) (zeros k) ≡ removed r
unfolding removed
removed-sets r =
    let c : ℕ = cost (oldest_length r) in
    let k : ℕ = min c (length r) in
    let e : length r - k ≡ 0 + length (drop c r) = omega (arith, length-drop c r) in
    let whole : length (drop c r ++ zeros k) ≡ length r = length-append (drop c r) (zeros k) ∙ rw (length-drop, length-replicate) (omega arith) in
    rw (drop_min c r) (rw e (sym (sets-append (drop c r) (zeros k) r 0) ∙ sets-whole (drop c r ++ zeros k) r whole))

pub length_removed : (r : List ℕ) → length (removed r) ≡ length r
length_removed r = sym (ap length (removed-sets r)) ∙ simp length-sets

-- bytes at the front of a part, and zeros up to its end, in two steps
pub padded-sets : (p m : List ℕ) (n : ℕ) → let k = min n (length m) in
    sets (sets p 0 (take k m)) k (zeros (length p)) ≡ padded (length p) (take n m)
padded-sets p m n =
    let xs : List ℕ = take n m in
    let e : min n (length m) ≡ 0 + length xs = omega (arith, length-take n m) in
    let long : length p ≤ length (xs ++ zeros (length p)) = rw (length-append, length-replicate) (omega arith) in
    rw (take_min n m) (rw e
    (sym (sets-append xs (zeros (length p)) p 0) ∙ sym (sets-front (xs ++ zeros (length p)) p)
    ∙ rw (drop_of_length-le p long, append-nil)))

pub zeros-padded : (n : ℕ) → zeros n ≡ padded n []
zeros-padded n = sym (take_all n (zeros n) (rw length-replicate (omega arith)))
