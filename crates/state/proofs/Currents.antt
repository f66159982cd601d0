-- Every current priority made one number, entry after entry. Assumes nothing.
use Prim.Native.Nat.{ℕ, suc, ◌+◌, ◌≤◌, ◌<◌}
use native.Mathlib.Numerals.{add-one}
use native.Mathlib.Omega.{arith}
use mathlib.Core.Path.{◌≡◌, ◌∙◌, refl, sym, ap}
use mathlib.Core.List.{List, [], ◌∷◌, ◌++◌, append-nil}
use lib.ListN.{length, take, drop, set, replicate, take-append-drop, drop_of_length-le}
use borrow.Author.Fill.{fill_more}
use Rattle.model.specs.Sizes.{tasks}
use Rattle.model.specs.Kernel.{Kernel, with_tasks, with_current, with_currents}
use Rattle.model.specs.Words.{word_count, kernel}
use Rattle.state.specs.Words.{Represents}
use Rattle.state.proofs.WordLaws.{currents-long}

-- the first n tasks have the number, the others what they had
unfoldable pub filled : ℕ → ℕ → List ℕ → List ℕ
filled n v cs = take 1 cs ++ replicate n v ++ drop n (drop 1 cs)

filled_none : (v : ℕ) (cs : List ℕ) → filled 0 v cs ≡ cs
unfolding filled
filled_none v cs = rw append-nil (take-append-drop 1 cs)

filled_more : (n v : ℕ) (cs : List ℕ) → n + 1 < length cs → set (filled n v cs) (n + 1) v ≡ filled (n + 1) v cs
unfolding filled
filled_more n v [] h = absurd (omega arith)
filled_more n v (c ∷ cs) h =
    ap (λ (m : ℕ). set (c ∷ (replicate n v ++ drop n cs)) m v) (add-one n) ∙ ap (λ (l : List ℕ). c ∷ l) (fill_more n v cs (omega arith))

filled-all : (v : ℕ) (cs : List ℕ) → length cs ≡ suc tasks → filled tasks v (set cs 0 0) ≡ 0 ∷ replicate tasks v
unfolding filled
filled-all v [] h = absurd (omega arith)
filled-all v (c ∷ cs) h = rw (drop_of_length-le cs {i = tasks} (omega arith))

-- the words while they are filled
pub record CurrentsFilled (w u : List ℕ) (v n : ℕ) : Type 0 where
  pub start : length w ≡ word_count
  pub state : Represents u (with_currents (kernel w) (filled n v (kernel w).tasks.current))
  pub few : n ≤ tasks

pub same-currents : (k : Kernel) → with_currents k k.tasks.current ≡ k
unfolding with_currents with_tasks
same-currents k = refl

over : (k : Kernel) (cs : List ℕ) (i v : ℕ) → with_current (with_currents k cs) i v ≡ with_currents k (set cs i v)
unfolding with_currents with_current with_tasks
over k cs i v = refl

pub fill_start : (w : List ℕ) (v : ℕ) → length w ≡ word_count → CurrentsFilled w w v 0
fill_start w v h =
    record {
      start = h;
      state = record { length = h; kernel = sym (ap (with_currents (kernel w)) (filled_none v (kernel w).tasks.current) ∙ same-currents (kernel w)) };
      few = omega arith;
    }

pub fill_step : (w u x : List ℕ) (v n : ℕ) → n < tasks → CurrentsFilled w u v n → Represents x (with_current (kernel u) (n + 1) v) → CurrentsFilled w x v (n + 1)
fill_step w u x v n h f r =
    record {
      start = f.start;
      state =
          record {
            length = r.length;
            kernel =
                r.kernel
                ∙ ap (λ (k : Kernel). with_current k (n + 1) v) f.state.kernel
                ∙ over (kernel w) (filled n v (kernel w).tasks.current) (n + 1) v
                ∙ ap (with_currents (kernel w)) (filled_more n v (kernel w).tasks.current (let l = currents-long w f.start in omega arith));
          };
      few = omega arith;
    }

pub fill_done : (w₀ w u : List ℕ) (v n : ℕ) → length w₀ ≡ word_count → Represents w (with_current (kernel w₀) 0 0) → tasks ≤ n → CurrentsFilled w u v n
    → Represents u (with_currents (kernel w₀) (0 ∷ replicate tasks v))
fill_done w₀ w u v n l r h f =
    record {
      length = f.state.length;
      kernel =
          f.state.kernel
          ∙ ap (λ (m : ℕ). with_currents (kernel w) (filled m v (kernel w).tasks.current)) (let e = f.few in omega arith)
          ∙ ap (λ (k : Kernel). with_currents k (filled tasks v k.tasks.current)) r.kernel
          ∙ again (kernel w₀)
          ∙ ap (with_currents (kernel w₀)) (filled-all v (kernel w₀).tasks.current (currents-long w₀ l));
    }
  where
    again : (k : Kernel) → with_currents (with_current k 0 0) (filled tasks v (with_current k 0 0).tasks.current) ≡ with_currents k (filled tasks v (set k.tasks.current 0 0))
    again k = unfold with_currents with_current with_tasks in refl
