-- The deletion of a buffer in parts, as the code takes them.
use Rattle.std.specs.Prelude.{ℕ, ◌++◌}
use Rattle.model.specs.Sizes.{region_bytes}
use Rattle.model.specs.Lists.{zeros}
use Rattle.model.specs.Code.{E_DLT}
use Rattle.model.specs.Facts.{queue, sending, receiving}
use Rattle.model.specs.Kernel.{with_used}
use Rattle.model.specs.World.{World, with_kernel, with_store, queue_order}
use Rattle.model.specs.Message.{with_region}
use Rattle.model.specs.Act.{end_waits}
use Rattle.buffer.specs.Rows.{buffer_row}

-- "stored messages vanish"
unfoldable pub struck_out : ℕ → World → World
struck_out b w = with_store (with_kernel w (with_used (buffer_row w.kernel b 0 0 0 0) b 0)) (with_region b w.store (zeros region_bytes))

-- "receivers before senders", in the orders that stood before
unfoldable pub deleted : ℕ → World → World
deleted b w =
    end_waits (struck_out b w) (queue_order w.kernel (queue receiving b) ++ queue_order w.kernel (queue sending b)) E_DLT
