-- `take_turn` meets its contract: what it runs is the record, and the log that it shows is what the record has written. Assumes nothing.
use Rattle.io.proofs.Counting.{prefix_len_of_le}
use Rattle.run.proofs.Writing.{written-fits, written-short}
use Rattle.show.proofs.Showing.{shows, front-short}
use Rattle.show.proofs.take_turn.Goals as goal

pub slice_bounds-turn_text-end : goal.slice_bounds-turn_text-end
slice_bounds-turn_text-end c = written-fits _ _ _ c.run_record-progress.ensures

pub slice_bounds-turn_text-end-2 : goal.slice_bounds-turn_text-end-2
slice_bounds-turn_text-end-2 c = (prefix_len_of_le _ _ (written-fits _ _ _ c.run_record-progress.ensures)).1

pub turn_text-n-requires : goal.turn_text-n-requires
turn_text-n-requires c = record { text_len = c.requires; log_len_bound = front-short _ (written-short _ _ _ c.run_record-progress.ensures) }

pub slice_bounds-write_all-end : goal.slice_bounds-write_all-end
slice_bounds-write_all-end c = c.turn_text-n.ensures.inside

pub slice_bounds-write_all-end-2 : goal.slice_bounds-write_all-end-2
slice_bounds-write_all-end-2 c = (prefix_len_of_le _ _ c.turn_text-n.ensures.inside).1

pub returns : goal.returns
returns c = shows _ _ _ c.write_all.result c.run_record-progress.ensures c.turn_text-n.ensures c.turn_of.ensures
