-- The entries that are asked.
use Rattle.model.specs.Words.{kernel}
use Rattle.pool.proofs.delete.refuse_del_mpf.Given as goal

abbrev pub ghost-refuse_deletion : goal.ghost-refuse_deletion
ghost-refuse_deletion a = (kernel a.exists.0.now).pools.exists
