-- 01, "Send" and "Receive": how messages lie in the store and in the outbox (01's sending bay).
use Rattle.std.specs.Prelude.{ℕ, pred, ◌+◌, ◌*◌, ◌-◌, ◌/◌, min, List, ◌++◌, length, take, drop, ℤ, pos, ◌-ℤ◌}
use Rattle.model.specs.Sizes.{region_bytes, message_bytes}
use Rattle.model.specs.Lists.{◌!◌, zeros, padded}
use Rattle.model.specs.Code.{bytes4, number4}

-- "snd_mbf: buffer, msgsz, timeout, 32 bytes": whatever bytes are handed over with a call count as its first 32, zeros behind them
unfoldable pub handed : List ℕ → List ℕ
handed bytes = padded message_bytes bytes

-- Bytes put over an area from a place on; and the same with the area's length kept, what would lie beyond its end being left out.
unfoldable pub over : List ℕ → ℕ → List ℕ → List ℕ
over area at bytes = take at area ++ bytes ++ drop (at + length bytes) area

unfoldable pub overwritten : List ℕ → ℕ → List ℕ → List ℕ
overwritten area at bytes = take (length area) (over area at bytes)

-- "Cost in store: 4 plus the length rounded up to a multiple of 4"
abbrev pub rounded_up : ℕ → ℕ
rounded_up n = (n + 3) / 4 * 4

unfoldable pub cost : ℕ → ℕ
cost n = 4 + rounded_up n

-- 02, request Nine: "by the message's cost, how many bytes are over, or lacking (below zero), as one signed number, zero for an exact fit": of a buffer of
-- bufsz bytes, of which some are used, for a message of n bytes
unfoldable pub room : ℕ → ℕ → ℕ → ℤ
room bufsz used n = pos bufsz -ℤ pos used -ℤ pos (cost n)

-- "packed: length (4 bytes), bytes, zeros"
unfoldable pub packed : List ℕ → List ℕ
packed m = bytes4 (length m) ++ m ++ zeros (rounded_up (length m) - length m)

-- A region (01: a buffer's stretch) with a message behind the bytes used; it keeps its length, whatever it holds.
unfoldable pub appended : List ℕ → ℕ → List ℕ → List ℕ
appended r used m = overwritten r used (packed m)

-- "Stored oldest first": the first message of a region, its length, and the region without it
unfoldable pub oldest_length : List ℕ → ℕ
oldest_length r = number4 (r ! 0) (r ! 1) (r ! 2) (r ! 3)

unfoldable pub oldest : List ℕ → List ℕ
oldest r = take (oldest_length r) (drop 4 r)

unfoldable pub removed : List ℕ → List ℕ
removed r = drop (cost (oldest_length r)) r ++ zeros (min (cost (oldest_length r)) (length r))

-- Part n of an area that is cut into parts of one size, counted from 1; and the area with bytes put over that part.
unfoldable pub part : ℕ → ℕ → List ℕ → List ℕ
part size n area = take size (drop (pred n * size) area)

unfoldable pub with_part : ℕ → ℕ → List ℕ → List ℕ → List ℕ
with_part size n area x = overwritten area (pred n * size) x

-- "256 for each buffer, in order"
unfoldable pub region : ℕ → List ℕ → List ℕ
region b store = part region_bytes b store

unfoldable pub with_region : ℕ → List ℕ → List ℕ → List ℕ
with_region b store r = with_part region_bytes b store r

-- "A waiting sender's bytes lie at the start of its part of the bay. All other bytes are zero."
unfoldable pub outbox_message : ℕ → ℕ → List ℕ → List ℕ
outbox_message t n outbox = take n (part message_bytes t outbox)

unfoldable pub with_outbox_message : ℕ → List ℕ → List ℕ → List ℕ
with_outbox_message t outbox m = with_part message_bytes t outbox (padded message_bytes m)

-- what has to unfold for the definitions of this file to compute
unfoldable pub compute_message : Unit {0}
unfolding handed over overwritten cost room packed appended oldest_length oldest removed part with_part region with_region outbox_message
    with_outbox_message
compute_message = tt
