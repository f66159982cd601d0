-- `put_report` meets its contract, text by text. Assumes nothing.
use Rattle.assemble.proofs.Reporting.{reported}
use Rattle.assemble.proofs.reason.put_report.Goals as goal

pub returns : goal.returns
returns c =
    reported _ _ _ _ _ _ _ _ _ _ _ _ _ c.put-next.ensures c.put_number-next.ensures c.put-next-2.ensures c.put_reason-next.ensures
    c.put.ensures c.requires
