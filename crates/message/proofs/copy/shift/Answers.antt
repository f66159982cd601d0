-- `shift` meets its contract: what is moved is stored at the front. Assumes nothing.
use Prim.Native.Nat.{◌-◌}
use native.Mathlib.Nat.{zero-add}
use native.Mathlib.Omega.{arith}
use mathlib.Core.Path.{◌∙◌, refl}
use lib.ListN.{length, drop, length-drop}
use Rattle.message.proofs.Stores.{sets-part}
use Rattle.message.proofs.copy.shift.Goals as goal

pub returns-then-by-r : goal.returns-then-by-r
returns-then-by-r c =
    let a = c.args in
    rw zero-add at c.copy_within.ensures.after
    ∙ sets-part (drop a.by a.r.now) a.r.now 0 (length a.r.now - a.by) (rw length-drop (omega arith)) refl
