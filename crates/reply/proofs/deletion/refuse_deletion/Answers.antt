-- `refuse_deletion` meets its contract: the number, and then what exists. Assumes nothing.
use mir.Facts.{to_z-of_z}
use Rattle.model.proofs.NumberLaws.{number_kind}
use Rattle.reply.proofs.Deletions.{delete-numberless, delete-missing, delete-allowed}
use Rattle.reply.proofs.deletion.refuse_deletion.Goals as goal

pub returns-in_default : goal.returns-in_default
returns-in_default g c =
    delete-numberless (number_kind g.row.K.Denot g.K.Object.LAST) g.entries c.args.n (to_z-of_z c.ranges.n) c.from_field.ensures c.in_default.is

pub returns-then-exists-eq0 : goal.returns-then-exists-eq0
returns-then-exists-eq0 g c =
    delete-missing (number_kind g.row.K.Denot g.K.Object.LAST) g.entries c.args.n (to_z-of_z c.ranges.n) c.from_field.ensures c.in-Some.is
    (c.requires.1.1.1 _ _ c.exists.ensures) c.if-exists-eq0.true

pub returns : goal.returns
returns g c =
    delete-allowed (number_kind g.row.K.Denot g.K.Object.LAST) g.entries c.args.n (to_z-of_z c.ranges.n) c.from_field.ensures c.in-Some.is
    (c.requires.1.1.1 _ _ c.exists.ensures) c.if-exists-eq0.false
