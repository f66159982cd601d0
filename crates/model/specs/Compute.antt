-- What has to unfold for the definitions to compute. `unfolding compute` under a signature lets the definitions run there: a script's
-- log, a case's outcome. Each topic's file has its own list.
use Rattle.model.specs.Number.{compute_number}
use Rattle.model.specs.Bits.{compute_bits}
use Rattle.model.specs.Priority.{compute_priority}
use Rattle.model.specs.Queue.{compute_queue}
use Rattle.model.specs.Kernel.{compute_kernel}
use Rattle.model.specs.World.{compute_world}
use Rattle.model.specs.Message.{compute_message}
use Rattle.model.specs.Act.{compute_act}
use Rattle.model.specs.Refusal.{compute_refusal}
use Rattle.model.specs.Effect.{compute_effect}
use Rattle.model.specs.Valid.{compute_valid}
use Rattle.model.specs.Words.{compute_words}
use Rattle.model.specs.Step.{compute_step}
use Rattle.model.specs.Record.{compute_record}
use Rattle.model.specs.Log.{compute_log}
use Rattle.model.specs.Lent.{compute_lent}
use Rattle.model.specs.Ledger.{compute_ledger}

unfoldable pub compute : Unit {0}
unfolding compute_number compute_bits compute_priority compute_queue compute_kernel compute_world compute_message compute_act compute_refusal compute_effect compute_valid compute_words compute_step compute_record compute_log compute_lent compute_ledger
compute = tt
