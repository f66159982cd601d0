-- `main` meets its contract: what it writes is the front of the area. Assumes nothing.
use Rattle.io.proofs.Counting.{prefix_len_of_le}
use Rattle.wall.proofs.main.Goals as goal

pub slice_bounds-write_all-end : goal.slice_bounds-write_all-end
slice_bounds-write_all-end c = (prefix_len_of_le _ _ c.run_and_show-shown.ensures.front.inside).1
