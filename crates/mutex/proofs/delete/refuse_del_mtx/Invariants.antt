-- The entries that are asked.
use Rattle.model.specs.Words.{kernel}
use Rattle.mutex.proofs.delete.refuse_del_mtx.Given as goal

abbrev pub ghost-refuse_deletion : goal.ghost-refuse_deletion
ghost-refuse_deletion a = (kernel a.exists.0.now).mutexes.exists
