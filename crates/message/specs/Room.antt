-- 02, request Nine: what the signed number says of a buffer, in a state. To be proved; `proofs/RoomLaws` does.
use Rattle.std.specs.Prelude.{ℕ, ◌+◌, ◌≤◌, ◌≡◌, leb}
use Rattle.model.specs.Sizes.{buffers, message_bytes}
use Rattle.model.specs.Lists.{◌!◌}
use Rattle.model.specs.Code.{saturated}
use Rattle.model.specs.Kernel.{Kernel}
use Rattle.model.specs.World.{Lent}
use Rattle.model.specs.Message.{cost, room}
use Rattle.model.specs.Act.{fits}
use Rattle.model.specs.Valid.{Each, Valid}

-- "Does this message fit in this buffer": the number's sign answers what was asked before, on every state; 01, "at most bufsz in all"
abbrev pub RoomAnswersFits : Type 0
RoomAnswersFits = (k : Kernel) (b n : ℕ) → fits k b n ≡ leb (k.buffers.used ! b + cost n) (k.buffers.bufsz ! b)

-- "as one signed number": in a valid state 32 bits hold it, whichever message is asked for, so that what the code answers is the number itself
abbrev pub RoomIsExact : Type 0
RoomIsExact =
    (x : Lent) → Valid x
    → Each buffers (λ b. (n : ℕ) → n ≤ message_bytes
    → let r = room (x.kernel.buffers.bufsz ! b) (x.kernel.buffers.used ! b) n in saturated r ≡ r)
