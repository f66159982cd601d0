-- `store_message` meets its contract: what is used behind the message is a word, since it fits. Assumes nothing.
use native.Mathlib.Omega.{arith}
use borrow.Author.Rules.{rules}
use Rattle.transfer.proofs.Storing.{length-word, used-word, stores}
use Rattle.transfer.proofs.store.store_message.Goals as goal

pub overflow_cast-n : goal.overflow_cast-n
overflow_cast-n c =
    let a = c.args in
    length-word a.state.now a.b.0 (λ i. search rules) _ c.requires

pub overflow_add-after : goal.overflow_add-after
overflow_add-after c =
    let a = c.args in
    let u = c.used-used in
    record { fits = omega (arith, (used-word a.state.now a.b.0 (λ i. search rules) _ c.requires u.ensures c.cost.ensures).fits) }

pub overflow_cast-after : goal.overflow_cast-after
overflow_cast-after c =
    let a = c.args in
    let u = c.used-used in
    used-word a.state.now a.b.0 (λ i. search rules) _ c.requires u.ensures c.cost.ensures

pub returns : goal.returns
returns c =
    stores _ c.used-used.ensures _ c.store_append.ensures
    c.cost.ensures c.set_used.ensures
