-- `bytes` meets its contract: the product of two words is a machine number. Assumes nothing.
use mir.Facts.{to_z-of_z}
use Rattle.search.proofs.Sums.{product-fits}
use Rattle.pool.proofs.create.bytes.Goals as goal

pub overflow_mul-result : goal.overflow_mul-result
overflow_mul-result c = search product-fits

pub returns : goal.returns
returns c = cc (to_z-of_z c.ranges.count, to_z-of_z c.ranges.size)
