-- del_mtx: the mutex is struck out. Assumes nothing.
use Rattle.model.proofs.Terms.{ℕ, List, with_mutex_exists, with_mutex_attribute, with_ceiling, with_holder, recompute, kernel}
use Rattle.state.specs.Words.{Represents}
use Rattle.mutex.specs.Struck.{struck_out}

pub strikes-out : (m : ℕ) (s : List ℕ) {s1 s2 s3 s4 s5 : List ℕ} → Represents s1 (with_mutex_exists (kernel s) m 0)
    → Represents s2 (with_mutex_attribute (kernel s1) m 0) → Represents s3 (with_ceiling (kernel s2) m 0) → Represents s4 (with_holder (kernel s3) m 0)
    → Represents s5 (recompute (kernel s4)) → Represents s5 (struck_out (kernel s) m)
strikes-out m s a b c d r = record { length = r.length; kernel = cc }
