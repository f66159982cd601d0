-- `take_turn` meets its contract: what it runs is the record, and what was written lies in the log's area. Assumes nothing.
use Rattle.io.proofs.Counting.{prefix_len_of_le}
use Rattle.run.proofs.Writing.{written-fits}
use Rattle.run.proofs.Turning.{turned}
use Rattle.shinepod.proofs.take_turn.Goals as goal

pub slice_bounds-write_all-end : goal.slice_bounds-write_all-end
slice_bounds-write_all-end c = written-fits _ _ _ c.run_record-progress.ensures

pub slice_bounds-write_all-end-2 : goal.slice_bounds-write_all-end-2
slice_bounds-write_all-end-2 c = (prefix_len_of_le _ _ (written-fits _ _ _ c.run_record-progress.ensures)).1

pub returns : goal.returns
returns c = turned _ _ _ c.write_all.result c.run_record-progress.ensures c.turn_of.ensures
