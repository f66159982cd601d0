-- `start_of` meets its contract, case by case. Assumes nothing.
use Prim.Native.Nat.{ℕ, pred, ◌+◌, ◌*◌}
use mathlib.Core.Path.{◌∙◌, sym, ap}
use Rattle.model.specs.Sizes.{region_bytes, message_bytes}
use Rattle.shinepod_c.specs.Shown.{start_of}
use Rattle.shinepod_c.proofs.place.start_of.Goals as goal

pub returns-in-Stored : goal.returns-in-Stored
returns-in-Stored c =
    ap (λ (n : ℕ). n * region_bytes + 4) (c.parts_before.ensures ∙ ap pred c.word.ensures)
    ∙ ap start_of (sym c.in-Stored.is)

pub returns-in-Sent : goal.returns-in-Sent
returns-in-Sent c =
    ap (λ (n : ℕ). n * message_bytes) (c.parts_before-in-Sent.ensures ∙ ap pred c.word-in-Sent.ensures)
    ∙ ap start_of (sym c.in-Sent.is)

pub returns-in-Nowhere : goal.returns-in-Nowhere
returns-in-Nowhere c = ap start_of (sym c.in-Nowhere.is)
