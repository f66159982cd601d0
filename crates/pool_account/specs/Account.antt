-- An account of the pools, "blocks given" and "blocks taken back", kept from the calls, their answers and the ended waits with what they
-- deliver, and from nothing else.
use Rattle.std.specs.Prelude.{◌+◌, ◌∷◌}
use Rattle.std.proofs.Math.Option.{map}
use Rattle.model.proofs.Terms.{ℕ, cond, Option, none, some, List, [], pos, negsuc, eqb, number, Delivery, Ended, Nothing, Message, Block}
use Rattle.model.specs.declared.call.Call.{Call}
use Rattle.model.specs.declared.call.Call.TheVariants.{CreTsk, DelTsk, StaTsk, ExtTsk, TerTsk, ChgPri, CreMtx, DelMtx, LocMtx, UnlMtx, CreMbf, DelMbf, SndMbf, RcvMbf, CreMpf, DelMpf, GetMpf, RelMpf, Tick}
use Rattle.model.specs.declared.call.Answer.{Answer}
use Rattle.model.specs.declared.call.Answer.TheVariants.{Code, Waits, Exits}

-- "Since a pool's creation": the count that it asked for, the blocks given and the blocks taken back
pub record PoolAccount : Type 0 where
  pub count : ℕ
  pub given : ℕ
  pub back : ℕ

-- by the pool's number; none for a pool that is not there
abbrev pub Account : Type 0
Account = ℕ → Option PoolAccount

-- one pool's entry exchanged, and with more blocks given and taken back
abbrev pub with_entry : Account → ℕ → Option PoolAccount → Account
with_entry a q e p = cond (eqb p q) e (a p)

abbrev pub with_blocks : ℕ → ℕ → PoolAccount → PoolAccount
with_blocks given back e = record { count = e.count; given = e.given + given; back = e.back + back }

abbrev pub with_pool_blocks : Account → ℕ → ℕ → ℕ → Account
with_pool_blocks a q given back = with_entry a q (map (with_blocks given back) (a q))

-- how many blocks some ended waits deliver
abbrev pub block_in : Delivery → ℕ
block_in Nothing = 0
block_in (Message m) = 0
block_in (Block b) = 1

abbrev pub blocks_in : List Ended → ℕ
blocks_in [] = 0
blocks_in (e ∷ es) = block_in e.delivery + blocks_in es

-- what comes of a code that is not negative, and of any other answer
abbrev pub on_success : {A : Type 0} → Answer → A → (ℕ → A) → A
on_success (Code (pos n)) a f = f n
on_success (Code (negsuc e)) a f = a
on_success Waits a f = a
on_success Exits a f = a

-- A call, its answer, and how many blocks its ended waits deliver. A get_mpf whose caller waits is given its block later, by the rel_mpf of
-- the same pool that ends the wait.
abbrev pub accounted : Account → Call → Answer → ℕ → Account
accounted a (CreMpf attribute count size) r delivered = on_success r a (λ n. with_entry a n (some (record { count = number count; given = 0; back = 0 })))
accounted a (DelMpf pool) r delivered = on_success r a (λ n. with_entry a (number pool) none)
accounted a (GetMpf pool timeout) r delivered = on_success r a (λ n. with_pool_blocks a (number pool) 1 0)
accounted a (RelMpf pool block) r delivered = on_success r a (λ n. with_pool_blocks a (number pool) delivered 1)
accounted a (CreTsk priority) r delivered = a
accounted a (DelTsk task) r delivered = a
accounted a (StaTsk task) r delivered = a
accounted a ExtTsk r delivered = a
accounted a (TerTsk task) r delivered = a
accounted a (ChgPri task priority) r delivered = a
accounted a (CreMtx attribute ceiling) r delivered = a
accounted a (DelMtx mutex) r delivered = a
accounted a (LocMtx mutex timeout) r delivered = a
accounted a (UnlMtx mutex) r delivered = a
accounted a (CreMbf attribute bufsz maxmsz) r delivered = a
accounted a (DelMbf buffer) r delivered = a
accounted a (SndMbf buffer msgsz timeout) r delivered = a
accounted a (RcvMbf buffer timeout) r delivered = a
accounted a Tick r delivered = a

-- How many blocks a call with this answer may hand out, with the answer and with the waits that it ends, where those deliver so many: a
-- get_mpf that succeeds gives one, a rel_mpf that succeeds passes some on, and no other call has any to give.
abbrev pub handed_out : Call → Answer → ℕ → ℕ × ℕ
handed_out (GetMpf pool timeout) r delivered = (on_success r 0 (λ n. 1), 0)
handed_out (RelMpf pool block) r delivered = (0, on_success r 0 (λ n. delivered))
handed_out (CreTsk priority) r delivered = (0, 0)
handed_out (DelTsk task) r delivered = (0, 0)
handed_out (StaTsk task) r delivered = (0, 0)
handed_out ExtTsk r delivered = (0, 0)
handed_out (TerTsk task) r delivered = (0, 0)
handed_out (ChgPri task priority) r delivered = (0, 0)
handed_out (CreMtx attribute ceiling) r delivered = (0, 0)
handed_out (DelMtx mutex) r delivered = (0, 0)
handed_out (LocMtx mutex timeout) r delivered = (0, 0)
handed_out (UnlMtx mutex) r delivered = (0, 0)
handed_out (CreMbf attribute bufsz maxmsz) r delivered = (0, 0)
handed_out (DelMbf buffer) r delivered = (0, 0)
handed_out (SndMbf buffer msgsz timeout) r delivered = (0, 0)
handed_out (RcvMbf buffer timeout) r delivered = (0, 0)
handed_out (CreMpf attribute count size) r delivered = (0, 0)
handed_out (DelMpf pool) r delivered = (0, 0)
handed_out Tick r delivered = (0, 0)
