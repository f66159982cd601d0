-- That the bits are kept: what is to be proved, as a type; `KeptLaws` proves it.
use Rattle.std.specs.Prelude.{ℕ, ◌≡◌, List}
use Rattle.std.proofs.Math.Option.{none}
use Rattle.model.specs.declared.call.Call.{Call}
use Rattle.model.specs.World.{World}
use Rattle.model.specs.Refusal.{first_refusal, refusals}
use Rattle.model.specs.Effect.{effect}
use Rattle.model.specs.Valid.{Bitmap}

-- Where the bits are right, a call that nothing refuses leaves them right, whatever its fields and whatever else the state holds.
abbrev pub CallsKeepBits : Type 0
CallsKeepBits =
    (w : World) (c : Call) (bytes : List ℕ) → Bitmap w.kernel → first_refusal (refusals w.kernel c bytes) ≡ none → Bitmap (effect w c bytes).world.kernel
