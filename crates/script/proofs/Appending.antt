-- Laws of bytes in an area: what an append leaves with room and without, and that two appends in a row are one. Assumes nothing.
use Prim.Native.Nat.{ℕ, ◌+◌, ◌≤◌, ◌<◌}
use native.Mathlib.Nat.{add-zero, zero-add}
use native.Mathlib.Omega.{arith}
use mathlib.Core.Path.{◌≡◌, ◌∙◌, refl, sym, ap}
use mathlib.Core.Bool.{Bool, true, false, cond}
use mathlib.Core.List.{List, [], ◌++◌, append_assoc}
use lib.ListN.{length, take, drop, length-append}
use lib.Seq.{paste, paste-zero, length-paste, take-paste, drop-paste, take-length, take_all, drop-drop}
use borrow.Author.Tests.{le-leb, lt-leb}
use Rattle.model.specs.World.{Ended}
use Rattle.model.specs.Log.{ended_bytes, delivery_bytes}
use Rattle.script.specs.Place.{room, placed, next_place, Appends, Wrote}
use Rattle.model.specs.Message.{over, overwritten}
use Rattle.script.specs.Item.{ended_with}

-- the whole of the bytes, as a copy of their full length
pub over-paste : (area : List ℕ) (at : ℕ) (bytes : List ℕ) → paste area at bytes (length bytes) ≡ over area at bytes
unfolding over
over-paste area at bytes = rw take-length

module _ (area : List ℕ) (at : ℕ) (bytes : List ℕ) where
  pub placed-room : at + length bytes ≤ length area → placed area at bytes ≡ over area at bytes
  unfolding placed
  placed-room h = rw (le-leb (at + length bytes) (length area) h, placed)

  pub next-room : at + length bytes ≤ length area → next_place area at bytes ≡ at + length bytes
  unfolding next_place
  next-room h = rw (le-leb (at + length bytes) (length area) h, next_place)

  pub placed-none : length area < at + length bytes → placed area at bytes ≡ area
  unfolding placed
  placed-none h = rw (lt-leb (at + length bytes) (length area) h, placed)

  pub next-none : length area < at + length bytes → next_place area at bytes ≡ at
  unfolding next_place
  next-none h = rw (lt-leb (at + length bytes) (length area) h, next_place)

  -- an append with room, and one without
  pub appended : (after : List ℕ) (next : ℕ) → at + length bytes ≤ length area → after ≡ over area at bytes → next ≡ at + length bytes
      → Appends area at bytes after next
  appended after next h a n = record { area = a ∙ sym (placed-room h); place = n ∙ sym (next-room h) }

  pub left_out : length area < at + length bytes → Appends area at bytes area at
  left_out h = record { area = sym (placed-none h); place = sym (next-none h) }

  pub length_over : at + length bytes ≤ length area → length (over area at bytes) ≡ length area
  length_over h = ap length (sym (over-paste area at bytes)) ∙ length-paste area at bytes (length bytes) h (omega arith)

module _ (area : List ℕ) (at : ℕ) (a b : List ℕ) (h : at + length a + length b ≤ length area) where
  size : length (a ++ b) ≡ length a + length b
  size = length-append a b

  over-append : over (over area at a) (at + length a) b ≡ over area at (a ++ b)
  unfolding over
  over-append =
      let e = over-paste area at a in
      let end : at + length a + length b ≡ at + length (a ++ b) = omega (arith, size) in
      ap (λ (l : List ℕ). l ++ b ++ drop (at + length a + length b) (over area at a))
      (ap (take (at + length a)) (sym e) ∙ take-paste area at a (length a) (omega arith) (omega arith) ∙ ap (λ (l : List ℕ). take at area ++ l) (take-length a))
      ∙ ap (λ (l : List ℕ). take at area ++ a ++ b ++ l)
      (sym (drop-drop (length b) (at + length a) (over area at a))
      ∙ ap (drop (length b)) (ap (drop (at + length a)) (sym e) ∙ drop-paste area at a (length a) (omega arith) (omega arith))
      ∙ drop-drop (length b) (at + length a) area)
      ∙ ap (λ (l : List ℕ). l ++ drop (at + length a + length b) area) (append_assoc (take at area) a b)
      ∙ ap (λ (n : ℕ). take at area ++ (a ++ b) ++ drop n area) end

  -- two appends in a row, where there is room for both, are one append
  pub two : (mid end : List ℕ) (m n : ℕ) → Appends area at a mid m → Appends mid m b end n → Appends area at (a ++ b) end n
  two mid end m n p q =
      let em : m ≡ at + length a = p.place ∙ next-room area at a (omega arith) in
      let ea : mid ≡ over area at a = p.area ∙ placed-room area at a (omega arith) in
      let el : length mid ≡ length area = ap length ea ∙ length_over area at a (omega arith) in
      let fit : m + length b ≤ length mid = omega arith in
      appended area at (a ++ b) end n (omega (arith, size))
      (q.area ∙ placed-room mid m b fit ∙ ap (λ (l : List ℕ). over l m b) ea ∙ ap (λ (k : ℕ). over (over area at a) k b) em ∙ over-append)
      (q.place ∙ next-room mid m b fit ∙ omega (arith, size))

-- no bytes change nothing, with room or without
module _ (area : List ℕ) (at : ℕ) where
  over_none : over area at [] ≡ area
  unfolding over
  over_none = sym (paste-zero area at [])

  either : (has : Bool) → (cond has (over area at []) area ≡ area) × (cond has (at + 0) at ≡ at)
  either true = (over_none, add-zero at)
  either false = (refl, refl)

  pub none : Appends area at [] area at
  unfolding placed next_place
  none = let e = either (room (length area) at 0) in record { area = sym e.0; place = sym e.1 }

-- One append, and appends behind appends: nothing is asked of the room.
pub wrote : {before : List ℕ} {at : ℕ} {bytes after : List ℕ} {next : ℕ} → Appends before at bytes after next → Wrote before at bytes after next
wrote p = record { all = λ h. p }

pub wrote-more : {before mid after xs ys : List ℕ} {at m next : ℕ} → Wrote before at xs mid m → Wrote mid m ys after next
    → Wrote before at (xs ++ ys) after next
wrote-more {before} {mid} {after} {xs} {ys} {at} {m} {next} f g =
    record {
      all = λ h.
          let size = length-append xs ys in
          let first = f.all (omega (arith, size)) in
          let em : m ≡ at + length xs = first.place ∙ next-room before at xs (omega (arith, size)) in
          let el : length mid ≡ length before =
          ap length (first.area ∙ placed-room before at xs (omega (arith, size))) ∙ length_over before at xs (omega (arith, size)) in
          two before at xs ys (omega (arith, size)) mid after m next first (g.all (omega (arith, size)));
    }

-- an append at the front of an area, as the definition of a record's log has it
pub front : (area bytes after : List ℕ) (next : ℕ) → length bytes ≤ length area → Appends area 0 bytes after next
    → (after ≡ overwritten area 0 bytes) × (next ≡ length bytes)
unfolding overwritten
front area bytes after next h p =
    let fits : 0 + length bytes ≤ length area = omega arith in
    let whole : length (over area 0 bytes) ≤ length area = omega (arith, length_over area 0 bytes fits) in (
      p.area ∙ placed-room area 0 bytes fits ∙ sym (take_all (length area) (over area 0 bytes) whole),
      p.place ∙ next-room area 0 bytes fits ∙ zero-add (length bytes),
    )

-- an ended wait is logged as its code, and then what it delivers
pub ended-parts : (e : Ended) → ended_bytes e ≡ ended_bytes (ended_with e.task e.code) ++ delivery_bytes e.task e.delivery
unfolding ended_bytes delivery_bytes
ended-parts e = refl
