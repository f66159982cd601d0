-- `set_bits` meets its contract: it stores in its field, which has no other word. Assumes nothing.
use mathlib.Core.Path.{◌∙◌, refl, ap}
use mathlib.Core.List.{List}
use Prim.Native.Nat.{ℕ}
use lib.ListN.{set}
use native.Mathlib.Omega.{arith}
use borrow.Author.Rules.{rules}
use Rattle.model.specs.Words.{cut, kernel, sizes, from_fields}
use Rattle.model.specs.Field as field
use Rattle.state.proofs.Accessor.{put}
use Rattle.state.proofs.WordLaws.{bitmap-long, one-stored}
use Rattle.state.proofs.bitmap.set_bits.Goals as goal

pub put-requires : goal.put-requires
unfolding kernel sizes from_fields
put-requires c = omega arith

pub returns : goal.returns
unfolding kernel sizes from_fields
returns c =
    let a = c.args in
    let s = put a.state.now field.bitmap {n = 0} {i = 0} a.v c.put.ensures refl (search rules) in
    record {
      length = s.length;
      kernel = s.kernel ∙ ap (λ (x : List ℕ). from_fields (set (cut sizes a.state.now) field.bitmap x)) (one-stored (kernel a.state.now).bitmap a.v (bitmap-long a.state.now (search rules)));
    }
