-- 01, "Log for each record": an outcome's bytes, and those of a script that stops.
use Rattle.std.specs.Prelude.{ℕ, List, [], ◌∷◌, ◌++◌, map}
use Rattle.model.specs.declared.call.Answer.{Answer}
use Rattle.model.specs.declared.call.Answer.TheVariants.{Code, Waits, Exits}
use Rattle.model.specs.Sizes.{message_bytes}
use Rattle.model.specs.Lists.{joined, padded}
use Rattle.model.specs.Code.{low_byte, bytes4, code_bytes}
use Rattle.model.specs.World.{Delivery, Nothing, Message, Block, Ended}
use Rattle.model.specs.Step.{Outcome}

-- "80 + code (4 bytes) if answered, 81 if the caller waits, 82 for a good ext_tsk"
unfoldable pub answer_bytes : Answer → List ℕ
answer_bytes (Code c) = 0x80 ∷ code_bytes c
answer_bytes Waits = 0x81 ∷ []
answer_bytes Exits = 0x82 ∷ []

-- "A received message is logged right after its code as 84 + task + 32 bytes (zero filled), a block as 85 + task + block (4)."
unfoldable pub delivery_bytes : ℕ → Delivery → List ℕ
delivery_bytes t Nothing = []
delivery_bytes t (Message m) = 0x84 ∷ low_byte t ∷ padded message_bytes m
delivery_bytes t (Block b) = 0x85 ∷ low_byte t ∷ bytes4 b

-- "for each wait ended, in order, 83 + task (1) + code (4)"
unfoldable pub ended_bytes : Ended → List ℕ
ended_bytes e = 0x83 ∷ low_byte e.task ∷ code_bytes e.code ++ delivery_bytes e.task e.delivery

-- "then 8F + running task (1, 0 for none)"
unfoldable pub runs_bytes : ℕ → List ℕ
runs_bytes t = 0x8F ∷ low_byte t ∷ []

-- the log of one record, whose call the task handed over made
unfoldable pub outcome_log : ℕ → Outcome → List ℕ
outcome_log caller o =
    answer_bytes o.answer ++ delivery_bytes caller o.delivery ++ joined (map ended_bytes o.ended) ++ runs_bytes o.runs

-- "an unknown kind or a cut body logs 8E + its offset (4 bytes) and ends the log"
abbrev pub stop_bytes : ℕ → List ℕ
stop_bytes offset = 0x8E ∷ bytes4 offset

-- "A script above 16,384 bytes logs 8D alone."
abbrev pub too_long_bytes : List ℕ
too_long_bytes = 0x8D ∷ []

-- what has to unfold for the definitions of this file to compute
unfoldable pub compute_log : Unit {0}
unfolding answer_bytes delivery_bytes ended_bytes runs_bytes outcome_log
compute_log = tt
