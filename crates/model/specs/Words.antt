-- The lent state as words: every word is a field's, and the kernel is read off them. Which field stands where is this project's choice;
-- `Field` numbers them.
use Rattle.std.specs.Prelude.{ℕ, suc, ◌*◌, List, [], ◌∷◌, ◌++◌, get_or, take, drop}
use Rattle.model.specs.Sizes.{tasks, mutexes, buffers, pools, blocks}
use Rattle.model.specs.Lists.{joined, sum}
use Rattle.model.specs.Kernel.{Kernel}
use Rattle.model.specs.Valid.{task_lists, mutex_lists, buffer_lists, pool_lists}
use Rattle.model.specs.Field as field

-- the fields that the words hold, by their sizes
abbrev pub cut : List ℕ → List ℕ → List (List ℕ)
cut [] w = []
cut (n ∷ ns) w = take n w ∷ cut ns (drop n w)

-- how many words each field has, in the order of `Field`
unfoldable pub sizes : List ℕ
sizes =
    suc tasks ∷ suc tasks ∷ suc tasks ∷ suc tasks ∷ suc tasks ∷ suc tasks ∷ suc tasks
    ∷ tasks
    ∷ 1
    ∷ suc mutexes ∷ suc mutexes ∷ suc mutexes ∷ suc mutexes
    ∷ suc buffers ∷ suc buffers ∷ suc buffers ∷ suc buffers ∷ suc buffers
    ∷ suc pools ∷ suc pools ∷ suc pools ∷ suc pools
    ∷ suc pools * suc blocks
    ∷ []

abbrev pub word_count : ℕ
word_count = sum sizes

-- the kernel whose lists are given in this order, and its lists
unfoldable pub from_fields : List (List ℕ) → Kernel
from_fields fs =
    record {
      tasks =
          record {
            place = at field.place;
            object = at field.object;
            argument = at field.argument;
            initial = at field.initial;
            base = at field.base;
            current = at field.current;
            left = at field.left;
          };
      arrivals = at field.arrivals;
      bitmap = at field.bitmap;
      mutexes =
          record {
            exists = at field.mutex_exists;
            attribute = at field.mutex_attribute;
            ceiling = at field.ceiling;
            holder = at field.holder;
          };
      buffers =
          record {
            exists = at field.buffer_exists;
            attribute = at field.buffer_attribute;
            bufsz = at field.bufsz;
            maxmsz = at field.maxmsz;
            used = at field.used;
          };
      pools =
          record {
            exists = at field.pool_exists;
            attribute = at field.pool_attribute;
            count = at field.count;
            size = at field.size;
            taken = at field.taken;
          };
    }
  where
    at : ℕ → List ℕ
    at f = get_or fs f []

unfoldable pub fields : Kernel → List (List ℕ)
fields k = task_lists k ++ k.arrivals ∷ k.bitmap ∷ mutex_lists k ++ buffer_lists k ++ pool_lists k ++ k.pools.taken ∷ []

-- the kernel that the words hold, and the words of a kernel
unfoldable pub kernel : List ℕ → Kernel
kernel w = from_fields (cut sizes w)

unfoldable pub words : Kernel → List ℕ
words k = joined (fields k)

-- what has to unfold for the definitions of this file to compute
unfoldable pub compute_words : Unit {0}
unfolding sizes from_fields fields kernel words
compute_words = tt
