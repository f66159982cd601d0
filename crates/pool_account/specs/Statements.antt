-- "Since a pool's creation, blocks given minus blocks taken back, plus free ones, is its count": what is to be proved, each as a type;
-- `Theorems` proves them.
use Rattle.std.specs.Prelude.{◌+◌, ◌-◌, ◌≤◌, ◌≡◌, ◌∷◌}
use Rattle.model.proofs.Terms.{ℕ, Option, none, some, List, [], map, pools, ◌!◌, up_to, occurrences, Pools, slot, Lent, Each, Valid, fresh_lent, Outcome, step, run}
use Rattle.model.specs.declared.call.Call.{Call}
use Rattle.preservation.specs.Entries.{Entry, AllFit, outcome, next, after, entries_of}
use Rattle.pool_account.specs.Account.{PoolAccount, Account, block_in, blocks_in, accounted, handed_out}

-- "free ones": those of blocks 1 to the count whose flag is 0
abbrev pub free : Pools → ℕ → ℕ
free x p = occurrences 0 (map (λ b. x.taken ! slot p b) (up_to (x.count ! p)))

-- "blocks given minus blocks taken back, plus free ones, is its count"; no more are taken back than were given
pub record Balanced (x : Pools) (p : ℕ) (e : PoolAccount) : Type 0 where
  pub there : x.exists ! p ≡ 1
  pub counted : e.count ≡ x.count ! p
  pub enough : e.back ≤ e.given
  pub balance : e.given - e.back + free x p ≡ e.count

-- the account has a pool exactly if the kernel has it
abbrev pub OfPool : Pools → ℕ → Option PoolAccount → Type 0
OfPool x p none = x.exists ! p ≡ 0
OfPool x p (some e) = Balanced x p e

abbrev pub AllBalanced : Lent → Account → Type 0
AllBalanced x a = Each pools (λ p. OfPool x.kernel.pools p (a p))

-- over one call from any valid state
abbrev pub CallsKeepBalance : Type 0
CallsKeepBalance =
    (x : Lent) (a : Account) (c : Call) (bytes : List ℕ) → Valid x → AllBalanced x a
    → AllBalanced (step x c bytes).lent (accounted a c (step x c bytes).answer (blocks_in (step x c bytes).ended))

-- "blocks given" are all that are delivered: those that the account counts, and no other
abbrev pub OnlyHandedOut : Call → Outcome → Type 0
OnlyHandedOut c o = (block_in o.delivery, blocks_in o.ended) ≡ handed_out c o.answer (blocks_in o.ended)

abbrev pub BlocksComeFromPools : Type 0
BlocksComeFromPools = (x : Lent) (c : Call) (bytes : List ℕ) → Valid x → OnlyHandedOut c (step x c bytes)

-- the account after a list of calls, kept beside the state
abbrev pub account_after : Account → Lent → List Entry → Account
account_after a x [] = a
account_after a x (e ∷ es) = account_after (accounted a e.call (outcome x e).answer (blocks_in (outcome x e).ended)) (next x e) es

-- over any list of calls from any valid state
abbrev pub ListsBalance : Type 0
ListsBalance =
    (x : Lent) (a : Account) (es : List Entry) → AllFit es → Valid x → AllBalanced x a → AllBalanced (after x es) (account_after a x es)

-- "Since a pool's creation": over any list of calls from the fresh state
abbrev pub FreshListsBalance : Type 0
FreshListsBalance = (es : List Entry) → AllFit es → AllBalanced (after fresh_lent es) (account_after (λ p. none) fresh_lent es)

-- and of any script's records
abbrev pub RunsBalance : Type 0
RunsBalance = (script : List ℕ) → AllBalanced (run fresh_lent script).lent (account_after (λ p. none) fresh_lent (entries_of script))
