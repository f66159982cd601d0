-- Which function a call has: its conditions and its effect are those that the functions of its kind promise, and where no task runs only a tick is
-- carried out.
use Rattle.std.proofs.Math.Option.{some, Option}
use Rattle.std.specs.Prelude as code
use Rattle.std.specs.Prelude.{None, Some}
use Prim.Native.Nat.{ℕ, zero, suc, ◌-◌, ◌≤◌, ◌<◌, ◌^◌}
use native.Mathlib.Omega.{arith}
use mathlib.Core.Path.{◌≡◌, ◌∙◌, refl, sym, ap, subst}
use mathlib.Core.Logic.{◌⊎◌, inl, inr}
use mathlib.Core.Bool.{true, false, true≢false}
use mathlib.Core.List.{List, [], ◌∷◌, ◌++◌, map, append_assoc}
use mathlib.Core.Option.{none}
use lib.ListN.{length, get_or}
use lib.IntN.{ℤ}
use lib.Signed.{mag}
use mir.Syntax.{w32}
use mir.Val.{to_z, of_z}
use borrow.Author.Tests.{eq-eqb, ne_eqb}
use Rattle.model.specs.declared.call.Call.{Call}
use Rattle.model.specs.declared.call.Call.TheVariants.{CreTsk, DelTsk, StaTsk, ExtTsk, TerTsk, ChgPri, CreMtx, DelMtx, LocMtx, UnlMtx, CreMbf, DelMbf, SndMbf, RcvMbf, CreMpf, DelMpf, GetMpf, RelMpf, Tick}
use Rattle.model.specs.Sizes.{buffers, message_bytes, region_bytes, longest}
use Rattle.model.specs.Lists.{◌!◌, zeros, joined}
use Rattle.model.specs.Code.{E_CTX, number}
use Rattle.model.specs.Number.{maybe_task, TaskNumber}
use Rattle.model.specs.Kernel.{Kernel}
use Rattle.model.specs.World.{World, running}
use Rattle.model.specs.Message.{packed, oldest_length}
use Rattle.model.specs.Record.{kind_of}
use Rattle.model.specs.Refusal.{Refusal, first_refusal, nobody_runs, bad_number, rcv_mbf_refusals, refusals}
use Rattle.model.specs.Effect.{Done, perform}
use Rattle.model.specs.Valid.{From, Layout, BufferRange, Valid}
use Rattle.model.specs.Words.{kernel}
use Rattle.model.specs.Lent.{Areas, lent}
use Rattle.model.proofs.NumberLaws.{task-is, task-is-none}
use Rattle.model.proofs.ByCase.{refusal-not}
use Rattle.model.proofs.RefusalLaws.{none-applies, in-range}
use Rattle.script.proofs.Signed.{read_back}
use Rattle.message.proofs.Messages.{oldest_length-packed}
use Rattle.valid.specs.Agree.{valid-agrees}
use Rattle.reply.specs.declared.Reply.{Reply}
use Rattle.reply.specs.Replies.{Carries}
use Rattle.reply.proofs.Refusing.{refused-here}
use Rattle.buffer.specs.Stored.{Answerable}
use Rattle.call.specs.Steps.{Allowed, is_tick}

-- ---- a call with its fields as the machine reads them back

abbrev machine : ℤ → ℤ
machine z = to_z w32 (of_z w32 z)

module _ {c : Call} where
  pub one : (call : ℤ → Call) (x : ℤ) → c ≡ call x → mag x < 2 ^ 31 → c ≡ call (machine x)
  one call x e h = e ∙ ap call (sym (read_back x h))

  pub two : (call : ℤ → ℤ → Call) (x y : ℤ) → c ≡ call x y → mag x < 2 ^ 31 → mag y < 2 ^ 31 → c ≡ call (machine x) (machine y)
  two call x y e h i = one (call (machine x)) y (one (λ v. call v y) x e h) i

  pub three : (call : ℤ → ℤ → ℤ → Call) (x y z : ℤ) → c ≡ call x y z → mag x < 2 ^ 31 → mag y < 2 ^ 31 → mag z < 2 ^ 31
      → c ≡ call (machine x) (machine y) (machine z)
  three call x y z e h i j = one (call (machine x) (machine y)) z (two (λ v w. call v w z) x y e h i) j

-- ---- the conditions of a call

-- those behind the first, which are the call's own
abbrev pub rest : List Refusal → List Refusal
rest [] = []
rest (r ∷ rs) = rs

-- a call is a tick, or its first condition is that a task runs
record Made (k : Kernel) (c : Call) (bytes : List ℕ) : Type 0 where
  not-tick : is_tick c ≡ false
  first : refusals k c bytes ≡ nobody_runs k ∷ rest (refusals k c bytes)

tick-or-made : (k : Kernel) (c : Call) (bytes : List ℕ) → (c ≡ Tick) ⊎ Made k c bytes
unfolding refusals kind_of
tick-or-made k (CreTsk x) bytes = inr (record { not-tick = refl; first = refl })
tick-or-made k (DelTsk x) bytes = inr (record { not-tick = refl; first = refl })
tick-or-made k (StaTsk x) bytes = inr (record { not-tick = refl; first = refl })
tick-or-made k ExtTsk bytes = inr (record { not-tick = refl; first = refl })
tick-or-made k (TerTsk x) bytes = inr (record { not-tick = refl; first = refl })
tick-or-made k (ChgPri x y) bytes = inr (record { not-tick = refl; first = refl })
tick-or-made k (CreMtx x y) bytes = inr (record { not-tick = refl; first = refl })
tick-or-made k (DelMtx x) bytes = inr (record { not-tick = refl; first = refl })
tick-or-made k (LocMtx x y) bytes = inr (record { not-tick = refl; first = refl })
tick-or-made k (UnlMtx x) bytes = inr (record { not-tick = refl; first = refl })
tick-or-made k (CreMbf x y z) bytes = inr (record { not-tick = refl; first = refl })
tick-or-made k (DelMbf x) bytes = inr (record { not-tick = refl; first = refl })
tick-or-made k (SndMbf x y z) bytes = inr (record { not-tick = refl; first = refl })
tick-or-made k (RcvMbf x y) bytes = inr (record { not-tick = refl; first = refl })
tick-or-made k (CreMpf x y z) bytes = inr (record { not-tick = refl; first = refl })
tick-or-made k (DelMpf x) bytes = inr (record { not-tick = refl; first = refl })
tick-or-made k (GetMpf x y) bytes = inr (record { not-tick = refl; first = refl })
tick-or-made k (RelMpf x y) bytes = inr (record { not-tick = refl; first = refl })
tick-or-made k Tick bytes = inl refl

-- what runs does not matter
pub not-a-tick : (c : Call) → (c ≡ Tick → ⊥) → false ≡ is_tick c
not-a-tick c h = go (tick-or-made (kernel []) c [])
  where
    go : (c ≡ Tick) ⊎ Made (kernel []) c [] → false ≡ is_tick c
    go (inl e) = absurd (h e)
    go (inr m) = sym m.not-tick

-- ---- a call that a task makes

own_first : (k : Kernel) (c : Call) (bytes : List ℕ) → (nobody_runs k).applies ≡ false
    → first_refusal (refusals k c bytes) ≡ first_refusal (rest (refusals k c bytes))
unfolding refusals
own_first k c bytes n = go (tick-or-made k c bytes)
  where
    go : (c ≡ Tick) ⊎ Made k c bytes → first_refusal (refusals k c bytes) ≡ first_refusal (rest (refusals k c bytes))
    go (inl e) = rw e
    go (inr m) = ap first_refusal m.first ∙ refusal-not (nobody_runs k) (rest (refusals k c bytes)) n

none-behind : (rs : List Refusal) → first_refusal rs ≡ none → first_refusal (rest rs) ≡ none
none-behind [] e = e
none-behind (r ∷ rs) e = sym (refusal-not r rs (none-applies (r ∷ rs) e 0)) ∙ e

module _ {c x : Call} (is : c ≡ x) where
  -- its own conditions refuse it, since somebody runs
  pub made-refused : (k : Kernel) (bytes : List ℕ) {t : ℕ} {v : Option ℤ} → (t ≡ running k) × (1 ≤ t) → v ≡ first_refusal (rest (refusals k x bytes))
      → v ≡ first_refusal (refusals k c bytes)
  unfolding nobody_runs
  made-refused k bytes (runs, is-some) e = rw (is, own_first k x bytes (ne_eqb (running k) 0 (λ q. absurd (omega arith)))) e

  -- none of them does where nothing refuses it
  pub made-allowed : {a : Areas} {bytes : List ℕ} → Allowed a c bytes → first_refusal (rest (refusals (kernel a.words) x bytes)) ≡ none
  made-allowed {a} {bytes} h =
      none-behind (refusals (kernel a.words) x bytes) (ap (λ (d : Call). first_refusal (refusals (kernel a.words) d bytes)) (sym is) ∙ h.unrefused)

  pub made-carries : (bytes : List ℕ) {t : ℕ} {a b : Areas} {at : ℕ} {r : Reply} → Carries t (λ w. perform w x bytes) a at b r
      → Carries t (λ w. perform w c bytes) a at b r
  made-carries bytes {t} {a} {b} {at} {r} h = subst (λ (d : Call). Carries t (λ w. perform w d bytes) a at b r) (sym is) h

-- ---- the caller

pub caller_runs : (k : Kernel) {caller : code.Option TaskNumber} {t : TaskNumber} → caller ≡ maybe_task (running k) → caller ≡ Some t → (t.0 ≡ running k) × (1 ≤ t.0)
caller_runs k {t = t} runs e = let (same, is-some) = task-is (running k) t (sym runs ∙ e) in (same, omega arith)

pub carries-for : {t u : ℕ} {f : World → Done} {a b : Areas} {at : ℕ} {r : Reply} → t ≡ u → Carries t f a at b r → Carries u f a at b r
carries-for {f = f} {a} {b} {at} {r} e h = subst (λ (n : ℕ). Carries n f a at b r) e h

-- nobody runs
module _ (k : Kernel) (c : Call) (bytes : List ℕ) {caller : code.Option TaskNumber} (runs : caller ≡ maybe_task (running k)) (nobody : caller ≡ None) where
  nobody-runs : (nobody_runs k).applies ≡ true
  unfolding nobody_runs
  nobody-runs = eq-eqb (running k) 0 (task-is-none (running k) (sym runs ∙ nobody))

  pub nobody-refused : is_tick c ≡ false → some E_CTX ≡ first_refusal (refusals k c bytes)
  unfolding nobody_runs kind_of
  nobody-refused n = go (tick-or-made k c bytes)
    where
      go : (c ≡ Tick) ⊎ Made k c bytes → some E_CTX ≡ first_refusal (refusals k c bytes)
      go (inl e) = absurd (true≢false (sym (ap is_tick e) ∙ n))
      go (inr m) = rw m.first (refused-here (nobody_runs k) (rest (refusals k c bytes)) nobody-runs)

  pub nobody-free : is_tick c ≡ true → none ≡ first_refusal (refusals k c bytes)
  unfolding refusals
  nobody-free y = go (tick-or-made k c bytes)
    where
      go : (c ≡ Tick) ⊎ Made k c bytes → none ≡ first_refusal (refusals k c bytes)
      go (inl e) = rw e
      go (inr m) = absurd (true≢false (sym y ∙ m.not-tick))

  pub nobody-ticks : first_refusal (refusals k c bytes) ≡ none → c ≡ Tick
  nobody-ticks n = go (tick-or-made k c bytes)
    where
      go : (c ≡ Tick) ⊎ Made k c bytes → c ≡ Tick
      go (inl e) = e
      go (inr m) =
          absurd (true≢false (sym nobody-runs ∙ none-applies (nobody_runs k ∷ rest (refusals k c bytes)) (sym (ap first_refusal m.first) ∙ n) 0))

-- ---- what calls ask of a valid state

pub made-valid : {a : Areas} {c : Call} {bytes : List ℕ} → Allowed a c bytes → Valid (lent a.words a.store a.outbox)
made-valid {a} h = (valid-agrees (lent a.words a.store a.outbox)).0 h.sound

-- a receive asks of the store:

zero-there : (n i : ℕ) → zeros n ! i ≡ 0
zero-there zero i = refl
zero-there (suc n) zero = refl
zero-there (suc n) (suc i) = zero-there n i

nothing : (n : ℕ) → oldest_length (zeros n) ≤ longest
unfolding oldest_length
nothing n = rw (zero-there n 0, zero-there n 1, zero-there n 2, zero-there n 3) (omega arith)

-- the oldest message of a region that is laid out is no longer than one may be
oldest-short : {maxmsz used : ℕ} {r : List ℕ} → maxmsz ≤ message_bytes → Layout maxmsz used r → oldest_length r ≤ longest
oldest-short {maxmsz} {used} h d = rw d.bytes (go d.messages d.each)
  where
    go : (ms : List (List ℕ)) → ((i : ℕ) → i < length ms → From 1 maxmsz (length (get_or ms i [])))
        → oldest_length (joined (map packed ms) ++ zeros (region_bytes - used)) ≤ longest
    go [] each = nothing (region_bytes - used)
    go (m ∷ ms) each =
        let p = each 0 (omega arith) in
        let behind : List ℕ = zeros (region_bytes - used) in
        rw (append_assoc (packed m) (joined (map packed ms)) behind, oldest_length-packed m (joined (map packed ms) ++ behind) (omega arith)) (omega arith)

short-enough : (k : Kernel) (b : ℕ) → BufferRange k b → k.buffers.maxmsz ! b ≤ message_bytes
unfolding BufferRange
short-enough k b (inl h) = let e = h.3 in omega arith
short-enough k b (inr h) = h.3.1

-- validity says so of every buffer, and a number that is none's is refused
pub made-answerable : {a : Areas} {c : Call} {bytes : List ℕ} {x y : ℤ} → c ≡ RcvMbf x y → Allowed a c bytes → Answerable (number x) a.store
unfolding refusals rcv_mbf_refusals bad_number
made-answerable {a} {x = x} {y} is h =
    let k : Kernel = kernel a.words in
    let b : ℕ = number x in
    let v = made-valid h in
    let (low, high) = in-range buffers x (none-applies (rcv_mbf_refusals k x y) (made-allowed is h) 1) in
    record { short = oldest-short (short-enough k b (v.is_buffer_range b low high)) (v.is_layout b low high) }
