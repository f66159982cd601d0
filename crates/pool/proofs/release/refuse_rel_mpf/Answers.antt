-- `refuse_rel_mpf` meets its contract: each test is a condition of the table, in its order. Assumes nothing.
use mir.Facts.{to_z-of_z}
use Rattle.pool.proofs.Returning.{return-numberless, return-missing, return_kept, return-allowed}
use Rattle.pool.proofs.release.refuse_rel_mpf.Goals as goal

pub returns-in_default : goal.returns-in_default
returns-in_default c = search (return-numberless, to_z-of_z)

pub returns-then-exists-eq0 : goal.returns-then-exists-eq0
returns-then-exists-eq0 c = search (return-missing, to_z-of_z)

pub returns-then-not-handed_out : goal.returns-then-not-handed_out
returns-then-not-handed_out c = search (return_kept, to_z-of_z)

pub returns : goal.returns
returns c = search (return-allowed, to_z-of_z)
