-- The account balances after every call, and so after every list of calls and every script's records; it counts every block delivered.
use lib.ListN.{get_or-replicate}
use Rattle.model.proofs.Terms.{suc, arith, none, [], ◌∷◌, pools, fresh, fresh_lent}
use Rattle.preservation.specs.Entries.{outcome, next, entries_of}
use Rattle.preservation.proofs.Records.{scripts-fit, runs-are-lists}
use Rattle.preservation.proofs.Theorems.{fresh-is-valid, calls-keep-valid}
use Rattle.pool_account.specs.Account.{blocks_in, accounted}
use Rattle.pool_account.specs.Statements.{CallsKeepBalance, BlocksComeFromPools, ListsBalance, FreshListsBalance, RunsBalance}
use Rattle.pool_account.proofs.Calls.{call-balanced}

pub calls-keep-balance : CallsKeepBalance
calls-keep-balance x a c bytes v h = (call-balanced x v a c bytes).0 h

pub blocks-come-from-pools : BlocksComeFromPools
blocks-come-from-pools x c bytes v = (call-balanced x v (λ p. none) c bytes).1

pub lists-balance : ListsBalance
lists-balance x a [] fit v h = h
lists-balance x a (e ∷ es) fit v h =
    lists-balance (next x e) (accounted a e.call (outcome x e).answer (blocks_in (outcome x e).ended)) es fit.1
    (calls-keep-valid x e.call e.bytes fit.0 v) (calls-keep-balance x a e.call e.bytes v h)

pub fresh-lists-balance : FreshListsBalance
fresh-lists-balance es fit =
    lists-balance fresh_lent (λ p. none) es fit fresh-is-valid (unfold fresh_lent fresh in λ p low high. get_or-replicate (suc pools) p 0 0 (omega arith))

pub runs-balance : RunsBalance
runs-balance script = rw (runs-are-lists fresh_lent script) (fresh-lists-balance (entries_of script) (scripts-fit script))
