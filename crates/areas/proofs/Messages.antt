-- The test of a region's layout, message after message: those that are left decide. Assumes nothing.
use Prim.Native.Nat.{ℕ, suc, ◌+◌, ◌-◌, ◌≤◌, ◌<◌}
use native.Mathlib.Omega.{arith}
use mathlib.Core.Path.{◌≡◌, ◌∙◌, refl, sym, ap}
use mathlib.Core.Logic.{◌≢◌}
use mathlib.Core.Bool.{Bool, true, false, ◌&&◌, and-eq-true_iff}
use mathlib.Core.List.{List}
use lib.ListN.{take, drop}
use lib.Dec.{eqb, leb}
use borrow.Author.Tests.{eqb-true, eqb-false, ne_eqb, leb-true}
use Rattle.model.specs.Sizes.{region_bytes}
use Rattle.model.specs.Lists.{◌!◌, all_zero, within}
use Rattle.model.specs.Kernel.{Kernel}
use Rattle.model.specs.Message.{cost, oldest_length, region}
use Rattle.message.proofs.Layouts.{layout-none}
use Rattle.model.specs.Valid.{layout, region_layout}
use Rattle.areas.specs.Messages.{oldest_laid_out}

-- ---- the oldest message

oldest-fits : (maxmsz used : ℕ) (r : List ℕ) → oldest_laid_out maxmsz used r ≡ true → cost (oldest_length r) ≤ used
unfolding oldest_laid_out
oldest-fits maxmsz used r e =
    let l : ℕ = oldest_length r in
    let a = (and-eq-true_iff (within 1 maxmsz l && leb (cost l) used) (all_zero (drop (4 + l) (take (cost l) r)))).0 e in
    leb-true (cost l) used ((and-eq-true_iff (within 1 maxmsz l) (leb (cost l) used)).0 a.0).1

layout-more : (n maxmsz used : ℕ) (r : List ℕ) → used ≢ 0
    → layout (suc n) maxmsz used r ≡ oldest_laid_out maxmsz used r && layout n maxmsz (used - cost (oldest_length r)) (drop (cost (oldest_length r)) r)
unfolding oldest_laid_out
layout-more n maxmsz used r some = rw (layout, ne_eqb used 0 some)

-- ---- the region of a buffer

pub region-tests : (k : Kernel) (store : List ℕ) (b : ℕ) {maxmsz used : ℕ} {r : List ℕ} {ok : Bool} → maxmsz ≡ k.buffers.maxmsz ! b → used ≡ k.buffers.used ! b
    → r ≡ region b store → ok ≡ layout region_bytes maxmsz used r → ok ≡ region_layout k store b
region-tests k store b m u s e = rw (e, m, u, s)

-- ---- message after message

-- The whole answer is that of the messages that are left; so many bytes are used by them, and so many messages are passed.
pub record Rest (whole : Bool) (most maxmsz : ℕ) (rest : List ℕ) (left passed : ℕ) : Type 0 where
  pub decides : whole ≡ layout (most - passed) maxmsz left rest

pub rest-start : (most maxmsz used : ℕ) (r : List ℕ) → Rest (layout most maxmsz used r) most maxmsz r used 0
rest-start most maxmsz used r =
    let e : most ≡ most - 0 = omega arith in
    record { decides = ap (λ (n : ℕ). layout n maxmsz used r) e }

module _ {whole : Bool} {most maxmsz left passed : ℕ} {r : List ℕ} (rest : Rest whole most maxmsz r left passed) where
  -- the test's answer of the oldest of them
  module _ (some : left ≢ 0) (few : passed < most) {ok : Bool} (e : ok ≡ oldest_laid_out maxmsz left r) where
    abbrev then : ℕ → Bool → Bool
    then gone b = b && layout (most - (passed + 1)) maxmsz (left - gone) (drop gone r)

    step : whole ≡ then (cost (oldest_length r)) ok
    step =
        let n : most - passed ≡ suc (most - (passed + 1)) = omega arith in
        rest.decides ∙ rw n (layout-more (most - (passed + 1)) maxmsz left r some) ∙ ap (then (cost (oldest_length r))) (sym e)

    pub rest-stop : ok ≡ false → false ≡ whole
    rest-stop f = sym (step ∙ ap (then (cost (oldest_length r))) f)

    module _ (t : ok ≡ true) {l n : ℕ} (length : l ≡ oldest_length r) (costs : n ≡ cost l) {tail : List ℕ} (behind : tail ≡ drop n r) where
      gone : n ≡ cost (oldest_length r)
      gone = costs ∙ ap cost length

      pub rest-fits : n ≤ left
      rest-fits = rw gone (oldest-fits maxmsz left r (sym e ∙ t))

      pub rest_more : Rest whole most maxmsz tail (left - n) (passed + 1)
      rest_more = record { decides = step ∙ rw (t, behind, gone) }

  -- no bytes are used any more, or as many messages are passed as there can be
  pub rest-done : (left ≢ 0 → most ≤ passed) → {zeros : Bool} → zeros ≡ all_zero r → eqb left 0 && zeros ≡ whole
  rest-done f z = rw z (sym (rest.decides ∙ go (eqb left 0) refl))
    where
      go : (b : Bool) → eqb left 0 ≡ b → layout (most - passed) maxmsz left r ≡ b && all_zero r
      go true z = rw (eqb-true left 0 z) (layout-none (most - passed) maxmsz r)
      go false z =
          let n : most - passed ≡ 0 = omega (arith, f (eqb-false left 0 z)) in
          rw (n, layout, z)
