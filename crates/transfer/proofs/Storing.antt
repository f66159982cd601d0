-- A message goes into a buffer's region or leaves it, in the order of the code's steps. Assumes nothing.
use Prim.Native.Nat.{ℕ, ◌+◌, ◌-◌, ◌≤◌, min}
use native.Mathlib.Omega.{arith}
use mathlib.Core.Path.{◌≡◌, refl, subst}
use mathlib.Core.Bool.{true}
use mathlib.Core.List.{List}
use lib.ListN.{length, get_or, take}
use lib.Seq.{take-length}
use lib.Dec.{ltb}
use mir.Syntax.{w32}
use mir.Val.{Fits}
use Rattle.model.specs.Lists.{◌!◌}
use Rattle.model.specs.Field as field
use Rattle.model.specs.Kernel.{with_used}
use Rattle.model.specs.World.{with_kernel, with_store}
use Rattle.model.specs.Message.{cost, appended, removed, oldest_length, region, with_region}
use Rattle.model.specs.Act.{fits, store_message}
use Rattle.model.specs.Effect.{take_oldest}
use Rattle.model.specs.Words.{sizes, from_fields, kernel}
use Rattle.model.proofs.ListLaws.{either}
use Rattle.message.proofs.RoomLaws.{fits-within}
use Rattle.state.specs.Words.{Represents}
use Rattle.state.proofs.LayoutLaws.{read}
use Rattle.act.specs.Held.{DoesInStore}
use Rattle.act.proofs.Doing.{does}

-- where a message fits, its length is a word, and so are the bytes used with it: they are no more than the buffer's size
module _ (s : List ℕ) (b : ℕ) (words : (i : ℕ) → Fits w32 (s ! i)) where
  bufsz-word : Fits w32 ((kernel s).buffers.bufsz ! b)
  unfolding kernel from_fields sizes
  bufsz-word = subst (Fits w32) (read sizes s field.bufsz b) (either (Fits w32) (ltb b (get_or sizes field.bufsz 0)) (words _) (record { fits = omega arith }))

  module _ (n : ℕ) (e : fits (kernel s) b n ≡ true) where
    pub used-word : {used c : ℕ} → used ≡ (kernel s).buffers.used ! b → c ≡ cost n → Fits w32 (used + c)
    used-word u f = record { fits = omega (arith, fits-within (kernel s) b n e, bufsz-word.fits) }

    pub length-word : Fits w32 n
    length-word = let l : n ≤ cost n = unfold cost in omega arith in record { fits = omega (arith, (used-word refl refl).fits) }

module _ (b : ℕ) {used : ℕ} {s st s' st' : List ℕ} (u : used ≡ (kernel s).buffers.used ! b) where
  pub stores : (m : List ℕ) {c : ℕ} → st' ≡ with_region b st (appended (region b st) used (take (length m) m)) → c ≡ cost (length m)
      → Represents s' (with_used (kernel s) b (used + c)) → DoesInStore (λ w. store_message w b m) s st s' st'
  unfolding store_message with_store with_kernel
  stores m e f r =
      record {
        does = λ outbox log at. does λ k es h.
            record { state = rw (f, u) at r; store = rw (take-length m, u) at e; outbox = refl; log = h.log };
      }

  pub takes : {n c l : ℕ} → n ≡ oldest_length (region b st) → c ≡ cost n → st' ≡ with_region b st (removed (region b st)) → l ≡ used - c
      → Represents s' (with_used (kernel s) b l) → DoesInStore (λ w. take_oldest w b) s st s' st'
  unfolding take_oldest with_store with_kernel
  takes {n} {c} {l} f g e m r =
      record {
        does = λ outbox log at. does λ k es h.
            record { state = rw (m, g, f, u) at r; store = e; outbox = refl; log = h.log };
      }
