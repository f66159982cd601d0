-- Laws of what areas hold and of what an act does: it is enough to look at the world that the words and areas make up. Assumes nothing.
use Prim.Native.Nat.{ℕ}
use mathlib.Core.Path.{◌≡◌, ◌∙◌, refl, sym, ap, subst}
use mathlib.Core.List.{List, [], ◌∷◌, ◌++◌, append-nil, append_assoc}
use Rattle.model.specs.Kernel.{Kernel}
use Rattle.model.specs.World.{World, Ended, with_kernel}
use Rattle.model.specs.Log.{ended_bytes}
use Rattle.model.specs.Lent.{Areas}
use Rattle.model.specs.Words.{kernel}
use Rattle.state.specs.Words.{Represents}
use Rattle.act.specs.Held.{ended_log, areas, Start, Holds, Does, DoesInWords}

-- the world of areas, by the waits that ended before
abbrev pub world : Areas → List Ended → World
world a es = record { kernel = kernel a.words; store = a.store; outbox = a.outbox; ended = es }

is-world : {l : Start} {w : World} {a : Areas} {at : ℕ} → Holds l w a at → world a w.ended ≡ w
is-world {w = w} h i = record { kernel = h.state.kernel i; store = h.store i; outbox = h.outbox i; ended = w.ended }

pub does : {act : World → World} {a b : Areas} {at next : ℕ}
    → ((l : Start) (es : List Ended) → Holds l (world a es) a at → Holds l (act (world a es)) b next) → Does act a at b next
does {act} {a} {b} {at} {next} f =
    record {
      holds = λ l w h.
          let e = is-world h in
          subst (λ (v : World). Holds l (act v) b next) e (f l w.ended (subst (λ (v : World). Holds l v a at) (sym e) h));
    }

-- the same world with other words for the kernel
pub with-kernel : {l : Start} {w : World} {s s' store o log : List ℕ} {at : ℕ} {k : Kernel} → Holds l w (areas s store o log) at → Represents s' k
    → Holds l (with_kernel w k) (areas s' store o log) at
unfolding with_kernel
with-kernel h r = record { state = r; store = h.store; outbox = h.outbox; log = h.log }

-- an act that changes the kernel alone
pub does-words : {act : World → World} {s s' : List ℕ} (k : Kernel) → Represents s' k
    → ((store outbox log : List ℕ) (es : List Ended) → act (world (areas s store outbox log) es) ≡ with_kernel (world (areas s store outbox log) es) k)
    → DoesInWords act s s'
unfolding with_kernel
does-words {act} {s} {s'} k r f =
    record {
      does = λ store outbox log at. does λ l es h.
          rw (f store outbox log es) (record { state = r; store = refl; outbox = refl; log = h.log });
    }

-- one more ended wait, one more item
items_more : (es : List Ended) (e : Ended) → ended_log (es ++ e ∷ []) ≡ ended_log es ++ ended_bytes e
unfolding ended_log
items_more [] e = append-nil (ended_bytes e)
items_more (x ∷ es) e =
    ap (λ (l : List ℕ). ended_bytes x ++ l) (items_more es e) ∙ sym (append_assoc (ended_bytes x) (ended_log es) (ended_bytes e))

pub ended-more : (head : List ℕ) (es : List Ended) (e : Ended) → head ++ ended_log (es ++ e ∷ []) ≡ (head ++ ended_log es) ++ ended_bytes e
ended-more head es e = ap (λ (l : List ℕ). head ++ l) (items_more es e) ∙ sym (append_assoc head (ended_log es) (ended_bytes e))
