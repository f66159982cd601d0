-- `refuse_cre_mpf` meets its contract: each test is a condition of the table, in its order. Assumes nothing.
use mathlib.Core.Path.{◌∙◌, sym}
use mir.Facts.{to_z-of_z}
use Rattle.pool.proofs.Creating.{create-attribute, create-count, create-size, create-full, create-beyond, create-allowed}
use Rattle.pool.proofs.create.refuse_cre_mpf.Goals as goal

pub returns-then-attribute-allowed : goal.returns-then-attribute-allowed
returns-then-attribute-allowed c = search (create-attribute, to_z-of_z)

pub returns-then-outside : goal.returns-then-outside
returns-then-outside c = search (create-count, to_z-of_z)

pub returns-then-outside-2 : goal.returns-then-outside-2
returns-then-outside-2 c = search (create-size, to_z-of_z)

pub returns-in_default : goal.returns-in_default
returns-in_default c = search (create-full, to_z-of_z)

-- The sum is tested with the new pool's bytes: the law is given what the test was asked, so that a test of something else is refused by that.
pub returns-then-pools_exceed : goal.returns-then-pools_exceed
returns-then-pools_exceed c =
    let fits = c.ranges in
    create-beyond _ _ _ _ (to_z-of_z fits.attribute) c.natural-a.ensures c.of_pool-allowed.ensures c.if-attribute-allowed.false
    (to_z-of_z fits.count) c.outside.ensures c.if-outside.false (to_z-of_z fits.size) c.outside-2.ensures c.if-outside-2.false
    c.unused_pool-found.ensures c.in-Some.is c.bytes-more.ensures c.pools_exceed.ensures c.if-pools_exceed.true

pub returns : goal.returns
returns c = search (create-allowed, to_z-of_z)
