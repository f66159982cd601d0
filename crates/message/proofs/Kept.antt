-- A region that is laid out validly stays so: when it is cleared, when a message is appended, when the oldest is removed.
-- Assumes nothing.
use Prim.Native.Nat.{ℕ, zero, suc, ◌+◌, ◌-◌, ◌≤◌, ◌<◌, ◌^◌}
use native.Mathlib.Omega.{arith}
use mathlib.Core.List.{List, [], ◌∷◌, ◌++◌, map, append_assoc}
use mathlib.Core.Path.{◌≡◌, ◌∙◌, refl, sym, ap}
use lib.ListN.{length, get_or, replicate-append-replicate}
use Rattle.model.specs.Sizes.{region_bytes}
use Rattle.model.specs.Lists.{joined, zeros}
use Rattle.model.specs.Message.{cost, packed, appended, oldest_length, oldest, removed}
use Rattle.model.specs.Valid.{From, Layout}
use Rattle.message.proofs.Contents.{total_cost, region_of}
use Rattle.message.proofs.Messages.{oldest_length-packed, oldest-packed, removed-packed}
use Rattle.message.proofs.Regions.{length-joined, joined-more, total_cost-more, appended-behind}

pub layout-clear : (maxmsz : ℕ) → Layout maxmsz 0 (zeros region_bytes)
layout-clear maxmsz = record { messages = []; each = λ i h. absurd (omega arith); costs = refl; bytes = refl }

-- the messages of a region are those of which it is made
pub layout-region_of : {maxmsz used : ℕ} {r : List ℕ} (d : Layout maxmsz used r) → r ≡ region_of d.messages
unfolding region_of
layout-region_of d = d.bytes ∙ rw d.costs

-- of each of some messages and of one more
each-newest : (maxmsz : ℕ) (ms : List (List ℕ)) (m : List ℕ) → ((i : ℕ) → i < length ms → From 1 maxmsz (length (get_or ms i []))) → From 1 maxmsz (length m)
    → (i : ℕ) → i < length (ms ++ m ∷ []) → From 1 maxmsz (length (get_or (ms ++ m ∷ []) i []))
each-newest maxmsz [] m p q zero h = q
each-newest maxmsz [] m p q (suc i) h = absurd (omega arith)
each-newest maxmsz (x ∷ ms) m p q zero h = p 0 (omega arith)
each-newest maxmsz (x ∷ ms) m p q (suc i) h = each-newest maxmsz ms m (λ i k. p (suc i) (omega arith)) q i (omega arith)

pub layout-append : {maxmsz used : ℕ} {r : List ℕ} → Layout maxmsz used r → (m : List ℕ) → From 1 maxmsz (length m) → used + cost (length m) ≤ region_bytes
    → Layout maxmsz (used + cost (length m)) (appended r used m)
layout-append {maxmsz} {used} {r} d m range fit =
    let ms : List (List ℕ) = d.messages in
    let j : List ℕ = joined (map packed ms) in
    let k : ℕ = region_bytes - used in
    let e : k - cost (length m) ≡ region_bytes - (used + cost (length m)) = omega arith in
    record {
      messages = ms ++ m ∷ [];
      each = each-newest maxmsz ms m d.each range;
      costs = total_cost-more ms m ∙ rw d.costs;
      bytes =
          ap (λ (l : List ℕ). appended l used m) d.bytes ∙ appended-behind j m used k (length-joined ms ∙ d.costs) (omega arith)
          ∙ rw (e, joined-more ms m);
    }

-- what is known of the oldest message, and of the region without it
pub record Removal (maxmsz used : ℕ) (r : List ℕ) : Type 0 where
  pub range : From 1 maxmsz (oldest_length r)
  pub size : length (oldest r) ≡ oldest_length r
  pub fit : cost (oldest_length r) ≤ used
  pub layout : Layout maxmsz (used - cost (oldest_length r)) (removed r)

pub layout-remove : {maxmsz used : ℕ} {r : List ℕ} → maxmsz < 256 → used ≤ region_bytes → (used ≡ 0 → ⊥) → Layout maxmsz used r → Removal maxmsz used r
layout-remove {maxmsz} {used} {r} small room some d = go d.messages d.each d.costs d.bytes
  where
    go : (ms : List (List ℕ)) → ((i : ℕ) → i < length ms → From 1 maxmsz (length (get_or ms i []))) → total_cost ms ≡ used
        → r ≡ joined (map packed ms) ++ zeros (region_bytes - used) → Removal maxmsz used r
    go [] each costs bytes = absurd (some (sym costs))
    go (m ∷ ms) each costs bytes =
        let j : List ℕ = joined (map packed ms) in
        let k : ℕ = region_bytes - used in
        let y : List ℕ = j ++ zeros k in
        let c : ℕ = cost (length m) in
        let short : length m < 2 ^ 32 = let p = each 0 (omega arith) in omega arith in
        let front : r ≡ packed m ++ y = bytes ∙ append_assoc (packed m) j (zeros k) in
        let len : oldest_length r ≡ length m = ap oldest_length front ∙ oldest_length-packed m y short in
        let old : oldest r ≡ m = ap oldest front ∙ oldest-packed m y short in
        let all : k + c ≡ region_bytes - (used - c) = omega arith in
        let gone : removed r ≡ j ++ zeros (region_bytes - (used - c)) =
        ap removed front ∙ removed-packed m y short ∙ append_assoc j (zeros k) (zeros c)
        ∙ rw (replicate-append-replicate {A = ℕ} k c 0) (ap (λ (i : ℕ). j ++ zeros i) all)
        in
        record {
          range = rw len (each 0 (omega arith));
          size = rw (old, len);
          fit = rw len (omega arith);
          layout =
              rw len
              (record { messages = ms; each = λ i h. each (suc i) (omega arith); costs = omega arith; bytes = gone });
        }
