-- The cases of `Cases` of specs/ hold, and so do its tables, each by computing. Assumes nothing.
use Rattle.std.specs.Prelude.{suc, pred, ◌≡◌, refl, true, length}
use mathlib.Core.List.{[], ◌∷◌}
use Rattle.model.specs.declared.call.Answer.TheVariants.{Code}
use Rattle.model.specs.Sizes.{store_bytes}
use Rattle.model.specs.Code.{E_SYS}
use Rattle.model.specs.Valid.{valid}
use Rattle.model.specs.Step.{fresh_lent}
use Rattle.model.specs.Lent.{Areas, with_log, not_valid}
use Rattle.model.specs.Compute.{compute}
use Rattle.model.specs.Script.{script_log}
use Rattle.model.specs.Cases.{observed, OK, no_message, one_byte, eighth_waits, too_small, just_fits, oldest_first, handed_over, few_bytes, longest_message}
use Rattle.model.specs.Cases.{timeouts, ceilings, no_passing, last_drained, sender_deleted, next_dirty, last_dirty, dirty_behind31, clean_tail, no_tail}
use Rattle.model.specs.Cases.{beyond_message, too_long, too_long_clean, too_long_missing, dirty_missing, dirty_numberless, RoomsHold, EndsHold, BitsHold}
use Rattle.model.specs.Cases.{WrongBitsFail, one_lacking28, exactly28, one_over28, one_lacking29, exactly29, one_over29, three_over, no_room, last_exactly}
use Rattle.model.specs.Cases.{last_lacking, last_byte_lacking, still_lacking, now_exactly, chain_raises, chain_lowers, circle_stands, circle_raises, circle_lowers}
use Rattle.model.specs.Cases.{not_raised, initial_again, equal_afterwards, kept_up, raised_exactly, kept_up_afterwards, kept_up_lowered, holder_lowered}
use Rattle.model.specs.Cases.{ceiling_keeps_up, ceiling_exactly, pool_kept_up, pool_exactly, pool_not_raised, arrival_kept_up, arrival_exactly, arrival_not_raised}
use Rattle.model.specs.Cases.{sender_kept_up, sender_exactly, circle_keeps_up, circle_exactly, not_held, store_of, table, AllHold, order_one_log}

-- Each case by computing: its own name stands in the refusal of one that does not hold.
no_message-holds : observed no_message ≡ no_message.seen
unfolding compute observed no_message
no_message-holds = refl

one_byte-holds : observed one_byte ≡ one_byte.seen
unfolding compute observed one_byte
one_byte-holds = refl

eighth_waits-holds : observed eighth_waits ≡ eighth_waits.seen
unfolding compute observed eighth_waits
eighth_waits-holds = refl

too_small-holds : observed too_small ≡ too_small.seen
unfolding compute observed too_small
too_small-holds = refl

just_fits-holds : observed just_fits ≡ just_fits.seen
unfolding compute observed just_fits
just_fits-holds = refl

oldest_first-holds : observed oldest_first ≡ oldest_first.seen
unfolding compute observed oldest_first
oldest_first-holds = refl

handed_over-holds : observed handed_over ≡ handed_over.seen
unfolding compute observed handed_over
handed_over-holds = refl

few_bytes-holds : observed few_bytes ≡ few_bytes.seen
unfolding compute observed few_bytes
few_bytes-holds = refl

longest_message-holds : observed longest_message ≡ longest_message.seen
unfolding compute observed longest_message
longest_message-holds = refl

timeouts-holds : observed timeouts ≡ timeouts.seen
unfolding compute observed timeouts
timeouts-holds = refl

ceilings-holds : observed ceilings ≡ ceilings.seen
unfolding compute observed ceilings
ceilings-holds = refl

no_passing-holds : observed no_passing ≡ no_passing.seen
unfolding compute observed no_passing
no_passing-holds = refl

last_drained-holds : observed last_drained ≡ last_drained.seen
unfolding compute observed last_drained
last_drained-holds = refl

sender_deleted-holds : observed sender_deleted ≡ sender_deleted.seen
unfolding compute observed sender_deleted
sender_deleted-holds = refl

next_dirty-holds : observed next_dirty ≡ next_dirty.seen
unfolding compute observed next_dirty
next_dirty-holds = refl

last_dirty-holds : observed last_dirty ≡ last_dirty.seen
unfolding compute observed last_dirty
last_dirty-holds = refl

dirty_behind31-holds : observed dirty_behind31 ≡ dirty_behind31.seen
unfolding compute observed dirty_behind31
dirty_behind31-holds = refl

clean_tail-holds : observed clean_tail ≡ clean_tail.seen
unfolding compute observed clean_tail
clean_tail-holds = refl

no_tail-holds : observed no_tail ≡ no_tail.seen
unfolding compute observed no_tail
no_tail-holds = refl

beyond_message-holds : observed beyond_message ≡ beyond_message.seen
unfolding compute observed beyond_message
beyond_message-holds = refl

too_long-holds : observed too_long ≡ too_long.seen
unfolding compute observed too_long
too_long-holds = refl

too_long_clean-holds : observed too_long_clean ≡ too_long_clean.seen
unfolding compute observed too_long_clean
too_long_clean-holds = refl

too_long_missing-holds : observed too_long_missing ≡ too_long_missing.seen
unfolding compute observed too_long_missing
too_long_missing-holds = refl

dirty_missing-holds : observed dirty_missing ≡ dirty_missing.seen
unfolding compute observed dirty_missing
dirty_missing-holds = refl

dirty_numberless-holds : observed dirty_numberless ≡ dirty_numberless.seen
unfolding compute observed dirty_numberless
dirty_numberless-holds = refl

one_lacking28-holds : observed one_lacking28 ≡ one_lacking28.seen
unfolding compute observed one_lacking28
one_lacking28-holds = refl

exactly28-holds : observed exactly28 ≡ exactly28.seen
unfolding compute observed exactly28
exactly28-holds = refl

one_over28-holds : observed one_over28 ≡ one_over28.seen
unfolding compute observed one_over28
one_over28-holds = refl

one_lacking29-holds : observed one_lacking29 ≡ one_lacking29.seen
unfolding compute observed one_lacking29
one_lacking29-holds = refl

exactly29-holds : observed exactly29 ≡ exactly29.seen
unfolding compute observed exactly29
exactly29-holds = refl

one_over29-holds : observed one_over29 ≡ one_over29.seen
unfolding compute observed one_over29
one_over29-holds = refl

three_over-holds : observed three_over ≡ three_over.seen
unfolding compute observed three_over
three_over-holds = refl

no_room-holds : observed no_room ≡ no_room.seen
unfolding compute observed no_room
no_room-holds = refl

last_exactly-holds : observed last_exactly ≡ last_exactly.seen
unfolding compute observed last_exactly
last_exactly-holds = refl

last_lacking-holds : observed last_lacking ≡ last_lacking.seen
unfolding compute observed last_lacking
last_lacking-holds = refl

last_byte_lacking-holds : observed last_byte_lacking ≡ last_byte_lacking.seen
unfolding compute observed last_byte_lacking
last_byte_lacking-holds = refl

still_lacking-holds : observed still_lacking ≡ still_lacking.seen
unfolding compute observed still_lacking
still_lacking-holds = refl

now_exactly-holds : observed now_exactly ≡ now_exactly.seen
unfolding compute observed now_exactly
now_exactly-holds = refl

chain_raises-holds : observed chain_raises ≡ chain_raises.seen
unfolding compute observed chain_raises
chain_raises-holds = refl

chain_lowers-holds : observed chain_lowers ≡ chain_lowers.seen
unfolding compute observed chain_lowers
chain_lowers-holds = refl

circle_stands-holds : observed circle_stands ≡ circle_stands.seen
unfolding compute observed circle_stands
circle_stands-holds = refl

circle_raises-holds : observed circle_raises ≡ circle_raises.seen
unfolding compute observed circle_raises
circle_raises-holds = refl

circle_lowers-holds : observed circle_lowers ≡ circle_lowers.seen
unfolding compute observed circle_lowers
circle_lowers-holds = refl

not_raised-holds : observed not_raised ≡ not_raised.seen
unfolding compute observed not_raised
not_raised-holds = refl

initial_again-holds : observed initial_again ≡ initial_again.seen
unfolding compute observed initial_again
initial_again-holds = refl

equal_afterwards-holds : observed equal_afterwards ≡ equal_afterwards.seen
unfolding compute observed equal_afterwards
equal_afterwards-holds = refl

kept_up-holds : observed kept_up ≡ kept_up.seen
unfolding compute observed kept_up
kept_up-holds = refl

raised_exactly-holds : observed raised_exactly ≡ raised_exactly.seen
unfolding compute observed raised_exactly
raised_exactly-holds = refl

kept_up_afterwards-holds : observed kept_up_afterwards ≡ kept_up_afterwards.seen
unfolding compute observed kept_up_afterwards
kept_up_afterwards-holds = refl

kept_up_lowered-holds : observed kept_up_lowered ≡ kept_up_lowered.seen
unfolding compute observed kept_up_lowered
kept_up_lowered-holds = refl

holder_lowered-holds : observed holder_lowered ≡ holder_lowered.seen
unfolding compute observed holder_lowered
holder_lowered-holds = refl

ceiling_keeps_up-holds : observed ceiling_keeps_up ≡ ceiling_keeps_up.seen
unfolding compute observed ceiling_keeps_up
ceiling_keeps_up-holds = refl

ceiling_exactly-holds : observed ceiling_exactly ≡ ceiling_exactly.seen
unfolding compute observed ceiling_exactly
ceiling_exactly-holds = refl

pool_kept_up-holds : observed pool_kept_up ≡ pool_kept_up.seen
unfolding compute observed pool_kept_up
pool_kept_up-holds = refl

pool_exactly-holds : observed pool_exactly ≡ pool_exactly.seen
unfolding compute observed pool_exactly
pool_exactly-holds = refl

pool_not_raised-holds : observed pool_not_raised ≡ pool_not_raised.seen
unfolding compute observed pool_not_raised
pool_not_raised-holds = refl

arrival_kept_up-holds : observed arrival_kept_up ≡ arrival_kept_up.seen
unfolding compute observed arrival_kept_up
arrival_kept_up-holds = refl

arrival_exactly-holds : observed arrival_exactly ≡ arrival_exactly.seen
unfolding compute observed arrival_exactly
arrival_exactly-holds = refl

arrival_not_raised-holds : observed arrival_not_raised ≡ arrival_not_raised.seen
unfolding compute observed arrival_not_raised
arrival_not_raised-holds = refl

sender_kept_up-holds : observed sender_kept_up ≡ sender_kept_up.seen
unfolding compute observed sender_kept_up
sender_kept_up-holds = refl

sender_exactly-holds : observed sender_exactly ≡ sender_exactly.seen
unfolding compute observed sender_exactly
sender_exactly-holds = refl

circle_keeps_up-holds : observed circle_keeps_up ≡ circle_keeps_up.seen
unfolding compute observed circle_keeps_up
circle_keeps_up-holds = refl

circle_exactly-holds : observed circle_exactly ≡ circle_exactly.seen
unfolding compute observed circle_exactly
circle_exactly-holds = refl

not_held-holds : observed not_held ≡ not_held.seen
unfolding compute observed not_held
not_held-holds = refl

store_of-holds : AllHold (store_of (pred store_bytes) (Code E_SYS) ∷ store_of store_bytes OK ∷ store_of (suc store_bytes) (Code E_SYS) ∷ [])
unfolding compute observed
store_of-holds = (refl, (refl, (refl, tt)))

pub cases : AllHold table
unfolding table
cases =
    (no_message-holds, (one_byte-holds, (eighth_waits-holds, (too_small-holds, (just_fits-holds, (oldest_first-holds, (handed_over-holds, (few_bytes-holds, (longest_message-holds, (timeouts-holds, (ceilings-holds, (no_passing-holds, (last_drained-holds, (sender_deleted-holds, (next_dirty-holds, (last_dirty-holds, (dirty_behind31-holds, (clean_tail-holds, (no_tail-holds, (beyond_message-holds, (too_long-holds, (too_long_clean-holds, (too_long_missing-holds, (dirty_missing-holds, (dirty_numberless-holds, (one_lacking28-holds, (exactly28-holds, (one_over28-holds, (one_lacking29-holds, (exactly29-holds, (one_over29-holds, (three_over-holds, (no_room-holds, (last_exactly-holds, (last_lacking-holds, (last_byte_lacking-holds, (still_lacking-holds, (now_exactly-holds, (chain_raises-holds, (chain_lowers-holds, (circle_stands-holds, (circle_raises-holds, (circle_lowers-holds, (not_raised-holds, (initial_again-holds, (equal_afterwards-holds, (kept_up-holds, (raised_exactly-holds, (kept_up_afterwards-holds, (kept_up_lowered-holds, (holder_lowered-holds, (ceiling_keeps_up-holds, (ceiling_exactly-holds, (pool_kept_up-holds, (pool_exactly-holds, (pool_not_raised-holds, (arrival_kept_up-holds, (arrival_exactly-holds, (arrival_not_raised-holds, (sender_kept_up-holds, (sender_exactly-holds, (circle_keeps_up-holds, (circle_exactly-holds, (not_held-holds, store_of-holds))))))))))))))))))))))))))))))))))))))))))))))))))))))))))))))))

pub rooms-hold : RoomsHold
unfolding compute
rooms-hold = refl

pub ends-hold : EndsHold
ends-hold = refl

pub bits-hold : BitsHold
unfolding compute
bits-hold = refl

pub wrong-bits-fail : WrongBitsFail
unfolding compute
wrong-bits-fail = refl

-- the fresh state is valid
pub fresh-valid : valid fresh_lent ≡ true
unfolding compute
fresh-valid = refl

-- "Whole example." A tick, a get_mpf of a pool that is not there, and a cut record
pub whole_example : script_log (0x40 ∷ 0x32 ∷ 0x01 ∷ 0x00 ∷ 0x00 ∷ 0x00 ∷ 0x00 ∷ 0x00 ∷ 0x00 ∷ 0x00 ∷ 0x22 ∷ [])
    ≡ 0x80 ∷ 0x00 ∷ 0x00 ∷ 0x00 ∷ 0x00 ∷ 0x8F ∷ 0x01 ∷ 0x80 ∷ 0xD6 ∷ 0xFF ∷ 0xFF ∷ 0xFF ∷ 0x8F ∷ 0x01 ∷ 0x8E ∷ 0x0A ∷ 0x00 ∷ 0x00 ∷ 0x00 ∷ []
unfolding script_log
whole_example = refl

pub not_valid_logs : (a : Areas) → not_valid a ≡ record { answer = Code E_SYS; written = length order_one_log; areas = with_log a order_one_log }
unfolding compute
not_valid_logs a = refl
