-- `room` meets its contract: 64 bits hold the room, and its nearest number of 32 bits is the answer. Assumes nothing.
use Prim.Native.Nat.{ℕ, ◌+◌}
use native.Mathlib.Omega.{arith}
use mathlib.Core.Path.{ap}
use Rattle.model.specs.Message.{cost}
use Rattle.message.proofs.RoomLaws.{machine-fits, machine-room}
use Rattle.message.proofs.room.room.Goals as goal

pub overflow_add-need : goal.overflow_add-need
unfolding cost
overflow_add-need c = omega arith

pub overflow_cast-over-2 : goal.overflow_cast-over-2
unfolding cost
overflow_cast-over-2 c = record { sfits = omega arith }

pub overflow_sub-over : goal.overflow_sub-over
overflow_sub-over c =
    let a = c.args in
    machine-fits a.bufsz a.used a.n (ap (λ (k : ℕ). a.used + k) c.cost.ensures) (omega arith) (omega arith) (omega arith)

pub returns : goal.returns
returns c = search (arith, machine-room)
