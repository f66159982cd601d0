-- The room for a message: over or lacking, its sign, and as the machine has it. Assumes nothing.
use Prim.Native.Nat.{ℕ, suc, ◌+◌, ◌-◌, ◌^◌, ◌≤◌, ◌<◌, min}
use native.Mathlib.Omega.{arith}
use mathlib.Core.Path.{◌≡◌, ◌∙◌, refl, sym, ap}
use mathlib.Core.Logic.{inl, inr}
use mathlib.Core.Bool.{Bool, true, false, not}
use lib.IntN.{ℤ, pos, negsuc, ◌-ℤ◌}
use lib.Signed.{mag, lt_z, le_z, non_neg}
use lib.Dec.{leb}
use Rattle.std.specs.Int.{int_max, int_min}
use Rattle.std.proofs.lemmas.Int.{clamps}
use mir.Syntax.{w32, w64}
use mir.Val.{SFits, to_z, of_z}
use mir.Facts.{to_z_pos, to_z-of_z}
use borrow.Author.Tests.{leb-true, leb-false, le-leb, le-ltb}
use Rattle.model.specs.Sizes.{message_bytes, region_bytes, longest}
use Rattle.model.specs.Lists.{◌!◌}
use Rattle.model.specs.Code.{saturated}
use Rattle.model.specs.Kernel.{Kernel}
use Rattle.model.specs.Message.{cost, room}
use Rattle.model.specs.Act.{fits}
use Rattle.model.specs.Valid.{BufferRange}
use Rattle.model.proofs.IntegerLaws.{minus-less, minus-more, below-minus}
use Rattle.message.specs.Room.{RoomAnswersFits, RoomIsExact}

-- a number clamped to 32 bits
nearest : (z : ℤ) → int_max (negsuc longest) (int_min z (pos longest)) ≡ saturated z
nearest (pos m) = grind (arith, clamps)
nearest (negsuc m) = grind (arith, clamps)

saturated-fits : (z : ℤ) → mag (saturated z) < 2 ^ 31
saturated-fits (pos m) = omega arith
saturated-fits (negsuc m) = omega arith

module _ (bufsz used n : ℕ) where
  room-over : used + cost n ≤ bufsz → room bufsz used n ≡ pos (bufsz - (used + cost n))
  unfolding room
  room-over h = rw (minus-less bufsz used (omega arith), minus-less (bufsz - used) (cost n) (omega arith)) (ap pos (omega arith))

  room-lacking : bufsz < used + cost n → room bufsz used n ≡ negsuc (used + cost n - bufsz - 1)
  unfolding room
  room-lacking h = go (leb used bufsz) refl
    where
      go : (b : Bool) → leb used bufsz ≡ b → pos bufsz -ℤ pos used -ℤ pos (cost n) ≡ negsuc (used + cost n - bufsz - 1)
      go true e =
          let l = leb-true used bufsz e in
          rw (minus-less bufsz used l, minus-more (bufsz - used) (cost n) (omega arith)) (ap negsuc (omega arith))
      go false e =
          let l = leb-false used bufsz e in
          rw (minus-more bufsz used l, below-minus (used - suc bufsz) (cost n)) (ap negsuc (omega arith))

  -- its sign is the answer to "at most bufsz in all"
  room-answers : non_neg (room bufsz used n) ≡ leb (used + cost n) bufsz
  room-answers = go (leb (used + cost n) bufsz) refl
    where
      go : (b : Bool) → leb (used + cost n) bufsz ≡ b → non_neg (room bufsz used n) ≡ b
      go true e = rw (room-over (leb-true _ _ e)) refl
      go false e = rw (room-lacking (leb-false _ _ e)) refl

  -- ---- as the machine has it: the difference in 64 bits, and the nearest number of 32 bits

  below-63 : bufsz < 2 ^ 32 → used < 2 ^ 32 → n < 2 ^ 32 → mag (room bufsz used n) < 2 ^ 63
  below-63 a b c = go (leb (used + cost n) bufsz) refl
    where
      go : (f : Bool) → leb (used + cost n) bufsz ≡ f → mag (room bufsz used n) < 2 ^ 63
      go true e = rw (room-over (leb-true _ _ e)) (omega arith)
      go false e = rw (room-lacking (leb-false _ _ e)) (unfold cost in omega arith)

  module _ {need : ℕ} (need-is : need ≡ used + cost n) (a : bufsz < 2 ^ 32) (b : used < 2 ^ 32) (c : n < 2 ^ 32) where
    pub machine-difference : to_z w64 bufsz -ℤ to_z w64 need ≡ room bufsz used n
    machine-difference =
        rw (to_z_pos w64 {n = bufsz} (omega arith), to_z_pos w64 {n = need} (unfold cost in omega arith), need-is) (go (leb (used + cost n) bufsz) refl)
      where
        go : (f : Bool) → leb (used + cost n) bufsz ≡ f → pos bufsz -ℤ pos (used + cost n) ≡ room bufsz used n
        go true e = minus-less bufsz _ (leb-true _ _ e) ∙ sym (room-over (leb-true _ _ e))
        go false e =
            let l = leb-false _ _ e in
            minus-more bufsz _ l ∙ ap negsuc (omega arith) ∙ sym (room-lacking l)

    pub machine-fits : SFits w64 (to_z w64 bufsz -ℤ to_z w64 need)
    machine-fits = rw machine-difference (record { sfits = below-63 a b c })

    pub machine-room : {r : ℤ} → r ≡ int_max (negsuc longest) (int_min (to_z w64 (of_z w64 (to_z w64 bufsz -ℤ to_z w64 need))) (pos longest))
        → to_z w32 (of_z w32 (to_z w64 (of_z w64 r))) ≡ saturated (room bufsz used n)
    machine-room {r} e =
        let z = room bufsz used n in
        let r-is : r ≡ saturated z =
        e ∙ ap (λ (x : ℤ). int_max (negsuc longest) (int_min x (pos longest))) (to_z-of_z machine-fits ∙ machine-difference) ∙ nearest z in
        let small : mag (saturated z) < 2 ^ 31 = saturated-fits z in
        rw (r-is, to_z-of_z {w = w64} {z = saturated z} (record { sfits = omega arith })) (to_z-of_z {w = w32} {z = saturated z} (record { sfits = small }))

-- ---- its sign, asked by `>= 0` and by `< 0` of the answer as the machine reads it back

from_zero : (z : ℤ) → non_neg z ≡ le_z (pos 0) (saturated z)
from_zero (pos n) = sym (le-leb 0 (min n longest) (omega arith))
from_zero (negsuc n) = refl

below-zero : (z : ℤ) → non_neg z ≡ not (lt_z (saturated z) (pos 0))
below-zero (pos n) = ap not (sym (le-ltb (min n longest) 0 (omega arith)))
below-zero (negsuc n) = refl

module _ (k : Kernel) (b n : ℕ) {bufsz used : ℕ} {r y : ℤ} (s : bufsz ≡ k.buffers.bufsz ! b) (u : used ≡ k.buffers.used ! b)
    (r-is : r ≡ saturated (room bufsz used n)) (y-is : y ≡ r) where
  pub fits-asked : fits k b n ≡ le_z (pos 0) y
  unfolding fits
  fits-asked = rw (y-is, r-is, ← s, ← u) (from_zero (room bufsz used n))

  pub lacks-asked : fits k b n ≡ not (lt_z y (pos 0))
  unfolding fits
  lacks-asked = rw (y-is, r-is, ← s, ← u) (below-zero (room bufsz used n))

-- ---- what was asked before

pub room-answers-fits : RoomAnswersFits
unfolding fits
room-answers-fits k b n = room-answers (k.buffers.bufsz ! b) (k.buffers.used ! b) n

module _ (k : Kernel) (b n : ℕ) where
  pub fits-within : fits k b n ≡ true → k.buffers.used ! b + cost n ≤ k.buffers.bufsz ! b
  fits-within e = leb-true _ _ (sym (room-answers-fits k b n) ∙ e)

  pub within-fits : k.buffers.used ! b + cost n ≤ k.buffers.bufsz ! b → fits k b n ≡ true
  within-fits h = room-answers-fits k b n ∙ le-leb _ _ h

-- ---- a valid state

small : (bufsz used n : ℕ) → bufsz ≤ region_bytes → used ≤ region_bytes → n ≤ message_bytes → mag (room bufsz used n) < 2 ^ 31
small bufsz used n a b c = go (leb (used + cost n) bufsz) refl
  where
    go : (f : Bool) → leb (used + cost n) bufsz ≡ f → mag (room bufsz used n) < 2 ^ 31
    go true e = rw (room-over bufsz used n (leb-true _ _ e)) (omega arith)
    go false e = rw (room-lacking bufsz used n (leb-false _ _ e)) (unfold cost in omega arith)

saturated-small : (z : ℤ) → mag z < 2 ^ 31 → saturated z ≡ z
saturated-small (pos n) h = ap pos (omega arith)
saturated-small (negsuc n) h = ap negsuc (omega arith)

pub room-is-exact : RoomIsExact
unfolding BufferRange
room-is-exact x v b low high n h = saturated-small _ (elim (v.is_buffer_range b low high) [
  | inl a ↦ small _ _ n (omega (arith, a.2)) (omega (arith, a.4)) h
  | inr t ↦ small _ _ n t.2 (omega (arith, t.2, t.4)) h
])
