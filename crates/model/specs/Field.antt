-- The fields of the state, numbered in the order of their words. The names are those of the kernel's lists; where two kinds of object
-- have the same, the kind stands before it.
use Rattle.std.specs.Prelude.{ℕ, suc}

abbrev pub place : ℕ
place = 0

abbrev pub object : ℕ
object = suc place

abbrev pub argument : ℕ
argument = suc object

abbrev pub initial : ℕ
initial = suc argument

abbrev pub base : ℕ
base = suc initial

abbrev pub current : ℕ
current = suc base

abbrev pub left : ℕ
left = suc current

abbrev pub arrivals : ℕ
arrivals = suc left

abbrev pub bitmap : ℕ
bitmap = suc arrivals

abbrev pub mutex_exists : ℕ
mutex_exists = suc bitmap

abbrev pub mutex_attribute : ℕ
mutex_attribute = suc mutex_exists

abbrev pub ceiling : ℕ
ceiling = suc mutex_attribute

abbrev pub holder : ℕ
holder = suc ceiling

abbrev pub buffer_exists : ℕ
buffer_exists = suc holder

abbrev pub buffer_attribute : ℕ
buffer_attribute = suc buffer_exists

abbrev pub bufsz : ℕ
bufsz = suc buffer_attribute

abbrev pub maxmsz : ℕ
maxmsz = suc bufsz

abbrev pub used : ℕ
used = suc maxmsz

abbrev pub pool_exists : ℕ
pool_exists = suc used

abbrev pub pool_attribute : ℕ
pool_attribute = suc pool_exists

abbrev pub count : ℕ
count = suc pool_attribute

abbrev pub size : ℕ
size = suc count

abbrev pub taken : ℕ
taken = suc size
