-- A region is laid out validly exactly if the computed test of `specs/Valid.antt` of crate model says so. Assumes nothing.
use Prim.Native.Nat.{ℕ, zero, suc, ◌+◌, ◌-◌, ◌/◌, ◌%◌, ◌≤◌, ◌<◌, ◌^◌}
use native.Mathlib.Decide.{ℕ_discrete}
use native.Mathlib.Omega.{arith}
use mathlib.Core.Bool.{Bool, true, ◌&&◌, and-eq-true_iff}
use mathlib.Core.List.{List, [], ◌∷◌, ◌++◌, map, append_assoc}
use mathlib.Core.Path.{◌≡◌, ◌∙◌, refl, sym, ap, subst}
use lib.Dec.{eqb, leb}
use lib.ListN.{length, get_or, take, drop, length-append, length-drop, length-replicate, take-append-drop}
use lib.Seq.{drop-nil, take_at, drop_at, take-take, take-add, length-take-le}
use borrow.Author.Tests.{eqb-true, ne_eqb, leb-true, le-leb}
use Rattle.model.specs.Sizes.{region_bytes}
use Rattle.model.specs.Lists.{joined, zeros, padded, all_zero, within}
use Rattle.model.specs.Code.{bytes4, number4}
use Rattle.model.specs.Message.{rounded_up, cost, packed, oldest_length, oldest}
use Rattle.model.specs.Valid.{From, Layout, layout}
use Rattle.model.proofs.ListLaws.{take-zeros}
use Rattle.message.proofs.Contents.{total_cost}
use Rattle.message.proofs.Messages.{length-packed, oldest_length-packed, behind-packed}
use Rattle.message.proofs.Regions.{cost-above, length-joined, drop-zeros, total-few}

-- ---- tests

both : (a b : Bool) → a ≡ true → b ≡ true → a && b ≡ true
both a b p q = (and-eq-true_iff a b).1 (p, q)

zeros-all_zero : (r : List ℕ) → all_zero r ≡ true → r ≡ zeros (length r)
zeros-all_zero [] e = refl
zeros-all_zero (x ∷ r) e =
    let p = (and-eq-true_iff (eqb 0 x) (all_zero r)).0 e in
    rw (← eqb-true 0 x p.0) (ap (λ (l : List ℕ). 0 ∷ l) (zeros-all_zero r p.1))

all_zero-zeros : (k : ℕ) → all_zero (zeros k) ≡ true
all_zero-zeros zero = refl
all_zero-zeros (suc k) = all_zero-zeros k

filled-behind : (n p q : ℕ) (m : List ℕ) → p ≤ q → all_zero (drop n (take p (m ++ zeros q))) ≡ all_zero (drop n (take p m))
filled-behind n zero q m h = refl
filled-behind n (suc p) q [] h = rw (take-zeros (suc p) q h, drop-nil, drop-zeros n (suc p)) (all_zero-zeros (suc p - n))
filled-behind zero (suc p) q (x ∷ m) h = ap (λ (b : Bool). eqb 0 x && b) (filled-behind zero p q m (omega arith))
filled-behind (suc n) (suc p) q (x ∷ m) h = filled-behind n p q m (omega arith)

-- whether only zeros lie behind the first n is seen without the padding
pub padded-behind : (n p : ℕ) (m : List ℕ) → all_zero (drop n (padded p m)) ≡ all_zero (drop n (take p m))
padded-behind n p m = filled-behind n p p m (omega arith)

-- ---- the first message

-- the four bytes before a message of less than 256 bytes are its length
length-bytes : (r : List ℕ) → 4 ≤ length r → oldest_length r < 256 → take 4 r ≡ bytes4 (oldest_length r)
unfolding oldest_length
length-bytes [] h s = absurd (omega arith)
length-bytes (a ∷ []) h s = absurd (omega arith)
length-bytes (a ∷ b ∷ []) h s = absurd (omega arith)
length-bytes (a ∷ b ∷ c ∷ []) h s = absurd (omega arith)
length-bytes (a ∷ b ∷ c ∷ d ∷ r) h s = four (number4 a b c d) a b c d refl s
  where
    four : (n a b c d : ℕ) → n ≡ number4 a b c d → n < 256 → a ∷ b ∷ c ∷ d ∷ [] ≡ bytes4 n
    four n a b c d e h =
        let p : a ≡ n % 256 = omega arith in
        let q : b ≡ n / 256 % 256 = omega arith in
        let s : c ≡ n / 65536 % 256 = omega arith in
        let t : d ≡ n / 16777216 % 256 = omega arith in
        cc

packed-of : (m : List ℕ) (l : ℕ) → length m ≡ l → bytes4 l ++ m ++ zeros (rounded_up l - l) ≡ packed m
unfolding packed
packed-of m l e = rw e

module _ (r : List ℕ) (small : oldest_length r < 256) (fit : cost (oldest_length r) ≤ length r) where
  pub length-oldest : length (oldest r) ≡ oldest_length r
  unfolding oldest
  length-oldest = length-take-le (oldest_length r) (drop 4 r) (rw length-drop (omega (arith, cost-above (oldest_length r))))

  pub first-packed : all_zero (drop (4 + oldest_length r) (take (cost (oldest_length r)) r)) ≡ true → take (cost (oldest_length r)) r ≡ packed (oldest r)
  unfolding packed oldest cost
  first-packed e =
      let l : ℕ = oldest_length r in
      let c : ℕ = cost l in
      let room : 4 + l ≤ c = omega arith in
      let m : List ℕ = take l (drop 4 r) in
      let rest : length (drop (4 + l) (take c r)) ≡ rounded_up l - l = length-drop (4 + l) (take c r) ∙ rw (length-take-le c r fit) (omega arith) in
      sym (take-append-drop (4 + l) (take c r))
      ∙ rw (take-take (4 + l) c r room, take-add 4 l r) (rw (length-bytes r (omega arith) small)
      (ap (λ (z : List ℕ). bytes4 l ++ m ++ z) (zeros-all_zero _ e ∙ ap zeros rest) ∙ packed-of m l length-oldest))

-- ---- from the test to the statement

-- Layout in a region of any length
record Laid (maxmsz used : ℕ) (r : List ℕ) : Type 0 where
  messages : List (List ℕ)
  each : (i : ℕ) → i < length messages → From 1 maxmsz (length (get_or messages i []))
  costs : total_cost messages ≡ used
  bytes : r ≡ joined (map packed messages) ++ zeros (length r - used)

laid_none : (maxmsz : ℕ) (r : List ℕ) → all_zero r ≡ true → Laid maxmsz 0 r
laid_none maxmsz r e =
    record {
      messages = [];
      each = λ i h. absurd (omega arith);
      costs = refl;
      bytes = let k : length r ≡ length r - 0 = omega arith in zeros-all_zero r e ∙ ap zeros k;
    }

-- what the test asks where bytes are used
record First (n maxmsz used : ℕ) (r : List ℕ) : Type 0 where
  range : From 1 maxmsz (oldest_length r)
  fit : cost (oldest_length r) ≤ used
  pads : all_zero (drop (4 + oldest_length r) (take (cost (oldest_length r)) r)) ≡ true
  rest : layout n maxmsz (used - cost (oldest_length r)) (drop (cost (oldest_length r)) r) ≡ true

module _ (n maxmsz used : ℕ) (r : List ℕ) (some : used ≡ 0 → ⊥) where
  abbrev l : ℕ
  l = oldest_length r

  abbrev fits : Bool
  fits = leb (cost l) used

  abbrev pads : Bool
  pads = all_zero (drop (4 + l) (take (cost l) r))

  abbrev rest : Bool
  rest = layout n maxmsz (used - cost l) (drop (cost l) r)

  layout-more : layout (suc n) maxmsz used r ≡ within 1 maxmsz l && fits && pads && rest
  layout-more = rw (layout, ne_eqb used 0 some)

  first-of-test : layout (suc n) maxmsz used r ≡ true → First n maxmsz used r
  first-of-test e =
      let x = (and-eq-true_iff (within 1 maxmsz l && fits && pads) rest).0 (sym layout-more ∙ e) in
      let y = (and-eq-true_iff (within 1 maxmsz l && fits) pads).0 x.0 in
      let z = (and-eq-true_iff (within 1 maxmsz l) fits).0 y.0 in
      let w = (and-eq-true_iff (leb 1 l) (leb l maxmsz)).0 z.0 in
      record { range = (leb-true 1 l w.0, leb-true l maxmsz w.1); fit = leb-true (cost l) used z.1; pads = y.1; rest = x.1 }

  test-of-first : First n maxmsz used r → layout (suc n) maxmsz used r ≡ true
  test-of-first f =
      let w : within 1 maxmsz l ≡ true = both _ _ (le-leb 1 l f.range.0) (le-leb l maxmsz f.range.1) in
      layout-more ∙ both _ _ (both _ _ (both _ _ w (le-leb (cost l) used f.fit)) f.pads) f.rest

-- of each of some messages with one more in front
each_more : (maxmsz : ℕ) (m : List ℕ) (ms : List (List ℕ)) → From 1 maxmsz (length m) → ((i : ℕ) → i < length ms → From 1 maxmsz (length (get_or ms i [])))
    → (i : ℕ) → i < length (m ∷ ms) → From 1 maxmsz (length (get_or (m ∷ ms) i []))
each_more maxmsz m ms p q zero h = p
each_more maxmsz m ms p q (suc i) h = q i (omega arith)

laid_more : (n maxmsz used : ℕ) (r : List ℕ) → maxmsz < 256 → used ≤ length r → First n maxmsz used r
    → Laid maxmsz (used - cost (oldest_length r)) (drop (cost (oldest_length r)) r) → Laid maxmsz used r
laid_more n maxmsz used r s h f d =
    let l : ℕ = oldest_length r in
    let small : l < 256 = let p = f.range.1 in omega arith in
    let fit : cost l ≤ length r = let p = f.fit in omega arith in
    let size : length (oldest r) ≡ l = length-oldest r small fit in
    let k : length (drop (cost l) r) - (used - cost l) ≡ length r - used = rw length-drop (let p = f.fit in omega arith) in
    let j : List ℕ = joined (map packed d.messages) in
    record {
      messages = oldest r ∷ d.messages;
      each = each_more maxmsz (oldest r) d.messages (rw size f.range) d.each;
      costs = rw size (let p = d.costs in let q = f.fit in omega arith);
      bytes =
          sym (take-append-drop (cost l) r)
          ∙ rw (first-packed r small fit f.pads) (ap (λ (z : List ℕ). packed (oldest r) ++ z) (d.bytes ∙ ap (λ (i : ℕ). j ++ zeros i) k))
          ∙ sym (append_assoc (packed (oldest r)) j (zeros (length r - used)));
    }

pub layout-none : (n maxmsz : ℕ) (r : List ℕ) → layout n maxmsz 0 r ≡ all_zero r
layout-none zero maxmsz r = refl
layout-none (suc n) maxmsz r = refl

pads-packed : (m : List ℕ) → all_zero (drop (4 + length m) (packed m)) ≡ true
unfolding packed
pads-packed m =
    let zs : List ℕ = zeros (rounded_up (length m) - length m) in
    let h : length (bytes4 (length m) ++ m) ≡ 4 + length m = omega arith in
    rw (drop_at (bytes4 (length m) ++ m) zs (4 + length m) h) (all_zero-zeros (rounded_up (length m) - length m))

module _ (maxmsz : ℕ) (small : maxmsz < 256) where
  laid-zero : (n used : ℕ) (r : List ℕ) → used ≡ 0 → layout n maxmsz used r ≡ true → Laid maxmsz used r
  laid-zero n used r q e = rw q (laid_none maxmsz r (sym (layout-none n maxmsz r) ∙ rw q at e))

  laid : (n used : ℕ) (r : List ℕ) → used ≤ length r → layout n maxmsz used r ≡ true → Laid maxmsz used r
  laid zero used r h e = laid-zero zero used r (eqb-true used 0 ((and-eq-true_iff (eqb used 0) (all_zero r)).0 e).0) e
  laid (suc n) used r h e = go (ℕ_discrete used 0) (laid n)
    where
      go : Dec (used ≡ 0) → ((used : ℕ) (r : List ℕ) → used ≤ length r → layout n maxmsz used r ≡ true → Laid maxmsz used r) → Laid maxmsz used r
      go (yes q) rest = laid-zero (suc n) used r q e
      go (no q) rest =
          let f : First n maxmsz used r = first-of-test n maxmsz used r q e in
          let l : ℕ = oldest_length r in
          laid_more n maxmsz used r small h f (rest (used - cost l) (drop (cost l) r) (rw length-drop (omega arith)) f.rest)

  -- ---- from the statement to the test

  tested : (ms : List (List ℕ)) (n k : ℕ) → length ms ≤ n → ((i : ℕ) → i < length ms → From 1 maxmsz (length (get_or ms i [])))
      → layout n maxmsz (total_cost ms) (joined (map packed ms) ++ zeros k) ≡ true
  tested [] n k h e = layout-none n maxmsz (zeros k) ∙ all_zero-zeros k
  tested (m ∷ ms) zero k h e = absurd (omega arith)
  tested (m ∷ ms) (suc n) k h e =
      let y : List ℕ = joined (map packed ms) ++ zeros k in
      let used : ℕ = total_cost (m ∷ ms) in
      let short : length m < 2 ^ 32 = let p = e 0 (omega arith) in omega arith in
      let q : used - cost (length m) ≡ total_cost ms = omega arith in
      let len : oldest_length (packed m ++ y) ≡ length m = oldest_length-packed m y short in
      let f : First n maxmsz used (packed m ++ y) =
      record {
        range = rw len (e 0 (omega arith));
        fit = rw len (omega arith);
        pads = rw len (rw (take_at (packed m) y (cost (length m)) (length-packed m)) (pads-packed m));
        rest = rw len (rw (behind-packed m y, q) (tested ms n k (omega arith) (λ i p. e (suc i) (omega arith))));
      }
      in
      ap (λ (r : List ℕ). layout (suc n) maxmsz used r) (append_assoc (packed m) (joined (map packed ms)) (zeros k))
      ∙ test-of-first n maxmsz used (packed m ++ y) (λ z. omega (arith, cost-above (length m))) f

  -- ---- for a region

  -- The sizes that validity bounds anyway: a message's length stands in one byte, and no more is used than there is.
  pub layout-valid : (used : ℕ) (r : List ℕ) → length r ≡ region_bytes → used ≤ region_bytes → layout region_bytes maxmsz used r ≡ true → Layout maxmsz used r
  layout-valid used r size h e =
      let d : Laid maxmsz used r = laid region_bytes used r (rw size h) e in
      record {
        messages = d.messages;
        each = d.each;
        costs = d.costs;
        bytes = d.bytes ∙ rw size;
      }

  valid-within : (n used : ℕ) (r : List ℕ) → length r ≡ region_bytes → region_bytes ≤ n → Layout maxmsz used r → layout n maxmsz used r ≡ true
  valid-within n used r size h d =
      let ms : List (List ℕ) = d.messages in
      let k : ℕ = region_bytes - used in
      let whole : length r ≡ total_cost ms + k =
      ap length d.bytes ∙ length-append (joined (map packed ms)) (zeros k) ∙ rw (length-joined ms, length-replicate)
      in
      let few : length ms ≤ n = let c = d.costs in omega (arith, total-few ms) in
      ap (λ (l : List ℕ). layout n maxmsz used l) d.bytes
      ∙ subst (λ (u : ℕ). layout n maxmsz u (joined (map packed ms) ++ zeros k) ≡ true) d.costs (tested ms n k few d.each)

  pub valid-layout : (used : ℕ) (r : List ℕ) → length r ≡ region_bytes → Layout maxmsz used r → layout region_bytes maxmsz used r ≡ true
  valid-layout used r size d = valid-within region_bytes used r size (omega arith) d

  -- the test says exactly what the statement does
  pub layout-exact : (used : ℕ) (r : List ℕ) → length r ≡ region_bytes → used ≤ region_bytes
      → (layout region_bytes maxmsz used r ≡ true → Layout maxmsz used r) × (Layout maxmsz used r → layout region_bytes maxmsz used r ≡ true)
  layout-exact used r size h = (layout-valid used r size h, valid-layout used r size)
