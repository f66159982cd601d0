-- The numbers of document 01's first table and of its formats, each said once.
use Rattle.std.specs.Prelude.{ℕ, ◌*◌, ◌-◌, ◌^◌}

-- "task | 1 to 16"
abbrev pub tasks : ℕ
tasks = 16

-- "priority 1 to 16, 1 most urgent"
abbrev pub priorities : ℕ
priorities = 16

-- "mutex | 1 to 8"
abbrev pub mutexes : ℕ
mutexes = 8

-- "message buffer | 1 to 4"
abbrev pub buffers : ℕ
buffers = 4

-- "fixed pool | 1 to 4"
abbrev pub pools : ℕ
pools = 4

-- "message 1 to 32 bytes"
abbrev pub message_bytes : ℕ
message_bytes = 32

-- "256 bytes of store each": a buffer's region, which is also the largest bufsz
abbrev pub region_bytes : ℕ
region_bytes = 256

-- "1 to 16 blocks of 1 to 256 bytes; counts times sizes of live pools sum to at most 4,096"
abbrev pub blocks : ℕ
blocks = 16

abbrev pub block_bytes : ℕ
block_bytes = 256

abbrev pub pool_bytes : ℕ
pool_bytes = 4096

-- "the store of 1,024 bytes (256 for each buffer, in order) and the sending bay of 512 (32 for each task, in order)";
-- the sending bay is the outbox here
abbrev pub store_bytes : ℕ
store_bytes = buffers * region_bytes

abbrev pub outbox_bytes : ℕ
outbox_bytes = tasks * message_bytes

-- "a lent area of 512" for the log of one record
abbrev pub log_bytes : ℕ
log_bytes = 512

-- "A script above 16,384 bytes logs 8D alone"
abbrev pub script_bytes : ℕ
script_bytes = 16384

-- the largest signed number of 32 bits, the most milliseconds that a timeout can ask for; and the word of the state that stands for a wait without end
abbrev pub longest : ℕ
longest = 2 ^ 31 - 1

abbrev pub endless : ℕ
endless = 2 ^ 32 - 1
