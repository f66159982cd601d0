-- The statements of `Statements`, proved: each name is its statement's.
use Rattle.std.specs.Prelude.{Result, Ok, Err}
use Rattle.model.specs.declared.call.Record.{Record}
use Rattle.model.specs.declared.call.Stop.{Stop}
use Rattle.model.proofs.Terms.{Areas, ℕ_discrete, dec_le, ◌≤◌, arith, ◌≡◌, refl, sym, ap, subst, true, none, some, [], ◌∷◌, length, eqb, eq-eqb, eqb-true, log_bytes, script_bytes, Kernel, Lent, begun, World, first_refusal, refusals, perform, effect, Valid, valid, Bitmap, FirstSender, word_count, words, fields, sizes, fresh_lent, refused, carried_out, valid_step, read_record, record_message, lent, is_valid, with_log, untouched, returned, script_over, went, lent_record}
use mathlib.Core.Bool.{and-eq-true_iff}
use Rattle.model.specs.declared.call.Call.{Call}
use Rattle.model.specs.declared.call.Call.TheVariants.{CreTsk, DelTsk, StaTsk, ExtTsk, TerTsk, ChgPri, CreMtx, DelMtx, LocMtx, UnlMtx, CreMbf, DelMbf, SndMbf, RcvMbf, CreMpf, DelMpf, GetMpf, RelMpf, Tick}
use Rattle.model.proofs.Cases.{fresh-valid}
use Rattle.model.proofs.ByCase.{step-valid, step-refused, step-done, lent-untouched, record-no-area, record-too-long, record-end, record-stops, record-runs, script-too-long, script-runs}
use Rattle.state.proofs.WordLaws.{Sized, represents}
use Rattle.state.proofs.LentLaws.{lent-step}
use Rattle.valid.specs.Agree.{valid-agrees}
use Rattle.invariant.specs.Invariant.{Steady}
use Rattle.invariant.proofs.Drain.{drained, enough_turns}
use Rattle.preservation.specs.Entries.{next, entries_of}
use Rattle.preservation.specs.Statements.{ValidIsSteady, FreshIsValid, CallsKeepValid, FreshPasses, CallsKeepTest, ValidAreas, FreshWordsAreValid, LentCallsKeepValid, ListsKeepValid, RunsKeepValid, ScriptsKeepValid, LentRecordsKeepValid, EveryDrainEnds}
use Rattle.preservation.proofs.Validity.{valid-steady, steady-valid}
use Rattle.preservation.proofs.Keeps.{Keeps}
use Rattle.preservation.proofs.Tasks.{creates-task, deletes-task, starts-task, exits-task, terminates-task, changes-priority}
use Rattle.preservation.proofs.Time.{ticks}
use Rattle.preservation.proofs.Mutexes.{creates-mutex, deletes-mutex, locks-mutex, unlocks-mutex}
use Rattle.preservation.proofs.Buffers.{creates-buffer, deletes-buffer, sends-message, receives-message}
use Rattle.preservation.proofs.Pools.{creates-pool, deletes-pool, gets-block, returns-block}
pub use Rattle.preservation.proofs.Records.{records-fit, scripts-fit, runs-are-lists}

-- ---- one call

pub keeps : {w : World} → Steady 0 w → (c : Call) → Keeps w c
keeps s (CreTsk priority) = creates-task s priority
keeps s (DelTsk task) = deletes-task s task
keeps s (StaTsk task) = starts-task s task
keeps s ExtTsk = exits-task s
keeps s (TerTsk task) = terminates-task s task
keeps s (ChgPri task priority) = changes-priority s task priority
keeps s (CreMtx attribute ceiling) = creates-mutex s attribute ceiling
keeps s (DelMtx mutex) = deletes-mutex s mutex
keeps s (LocMtx mutex timeout) = locks-mutex s mutex timeout
keeps s (UnlMtx mutex) = unlocks-mutex s mutex
keeps s (CreMbf attribute bufsz maxmsz) = creates-buffer s attribute bufsz maxmsz
keeps s (DelMbf buffer) = deletes-buffer s buffer
keeps s (SndMbf buffer msgsz timeout) = sends-message s buffer msgsz timeout
keeps s (RcvMbf buffer timeout) = receives-message s buffer timeout
keeps s (CreMpf attribute count size) = creates-pool s attribute count size
keeps s (DelMpf pool) = deletes-pool s pool
keeps s (GetMpf pool timeout) = gets-block s pool timeout
keeps s (RelMpf pool block) = returns-block s pool block
keeps s Tick = ticks s

pub valid-is-steady : ValidIsSteady
valid-is-steady x = ((λ v. (valid-steady x v, unfold FirstSender in v.is_first_sender)), λ s. steady-valid (begun x) s.0 s.1)

pub fresh-is-valid : FreshIsValid
fresh-is-valid = (valid-agrees fresh_lent).0 fresh-valid

pub calls-keep-valid : CallsKeepValid
unfolding carried_out effect refused
calls-keep-valid x c bytes fit v =
    rw (step-valid x c bytes ((valid-agrees x).1 v))
    (elim (first_refusal (refusals x.kernel c bytes)) as (λ r. first_refusal (refusals x.kernel c bytes) ≡ r → Valid (valid_step x c bytes).lent) [
      | some e ↦ λ q. rw (step-refused x c bytes q) v
      | none ↦ λ q.
          let d = drained (perform (begun x) c bytes).world (keeps (valid-steady x v) c bytes fit q) in
          rw (step-done x c bytes q) (steady-valid _ d.0 d.1)
    ] refl)

pub every-drain-ends : EveryDrainEnds
every-drain-ends x c bytes fit v q =
    let s = keeps (valid-steady x v) c bytes fit q in
    record { enough = enough_turns _ s; none-fits = (drained _ s).1 }

-- ---- the test

pub fresh-passes : FreshPasses
fresh-passes = fresh-valid

pub calls-keep-test : CallsKeepTest
calls-keep-test x c bytes fit e = (valid-agrees _).1 (calls-keep-valid x c bytes fit ((valid-agrees x).0 e))

-- ---- lent words

-- a valid kernel's lists have the sizes of their fields, so its words are a state's
pub valid-sized : (x : Lent) → Valid x → Sized x.kernel
unfolding Sized fields sizes
valid-sized x v =
    let t = v.is_task_lists in
    let m = v.is_mutex_lists in
    let b = v.is_buffer_lists in
    let p = v.is_pool_lists in
    let one : length x.kernel.bitmap ≡ 1 = (unfold Bitmap in ap length v.is_bitmap) in
    λ i.
    t.place.long i ∷ t.object.long i ∷ t.argument.long i ∷ t.initial.long i ∷ t.base.long i ∷ t.current.long i ∷ t.left.long i
    ∷ v.is_lengths.arrivals i
    ∷ one i
    ∷ m.exists.long i ∷ m.attribute.long i ∷ m.ceiling.long i ∷ m.holder.long i
    ∷ b.exists.long i ∷ b.attribute.long i ∷ b.bufsz.long i ∷ b.maxmsz.long i ∷ b.used.long i
    ∷ p.exists.long i ∷ p.attribute.long i ∷ p.count.long i ∷ p.size.long i
    ∷ v.is_lengths.taken i
    ∷ []

valid-words : (x : Lent) → Valid x → is_valid (words x.kernel) x.store x.outbox ≡ true
unfolding is_valid
valid-words x v =
    let r = represents x.kernel (valid-sized x v) in
    let same = subst (λ (k : Kernel). valid (record { kernel = k; store = x.store; outbox = x.outbox }) ≡ true) (sym r.kernel) ((valid-agrees x).1 v) in
    (and-eq-true_iff _ _).1 (eq-eqb _ _ r.length, same)

pub fresh-words-are-valid : FreshWordsAreValid
fresh-words-are-valid = (unfold fresh_lent in valid-words fresh_lent fresh-is-valid)

-- valid areas have the words of a state, and what they hold is valid
pub areas-hold : (a : Areas) → ValidAreas a → (length a.words ≡ word_count) × Valid (lent a.words a.store a.outbox)
unfolding is_valid
areas-hold a e = let b = (and-eq-true_iff (eqb (length a.words) word_count) _).0 e in (eqb-true _ _ b.0, (valid-agrees _).0 b.1)

pub lent-calls-keep-valid : LentCallsKeepValid
unfolding untouched returned with_log
lent-calls-keep-valid a c bytes fit e =
    let h = areas-hold a e in
    elim (ℕ_discrete (length a.log) log_bytes) [
      | yes l ↦ rw (lent-step a c bytes h.0 l) (valid-words _ (calls-keep-valid _ c bytes fit h.1))
      | no d ↦ rw (lent-untouched a c bytes d) e
    ]

-- ---- lists, runs and scripts

pub lists-keep-valid : ListsKeepValid
lists-keep-valid x [] fit v = v
lists-keep-valid x (e ∷ es) fit v = lists-keep-valid (next x e) es fit.1 (calls-keep-valid x e.call e.bytes fit.0 v)

pub runs-keep-valid : RunsKeepValid
runs-keep-valid x script v = rw (runs-are-lists x script) (lists-keep-valid x (entries_of script) (scripts-fit script) v)

pub scripts-keep-valid : ScriptsKeepValid
scripts-keep-valid x script v =
    elim (dec_le (length script) script_bytes) [
      | yes h ↦ rw (script-runs x script h) (runs-keep-valid x script v)
      | no h ↦ rw (script-too-long x script (omega arith)) v
    ]

pub lent-records-keep-valid : LentRecordsKeepValid
unfolding script_over with_log
lent-records-keep-valid a script at v = go (ℕ_discrete (length a.log) log_bytes) (dec_le (length script) script_bytes) (dec_le (length script) at) (read_record script at) refl
  where
    go : Dec (length a.log ≡ log_bytes) → Dec (length script ≤ script_bytes) → Dec (length script ≤ at) → (r : Result Record Stop) → read_record script at ≡ r
        → ValidAreas (lent_record a script at).areas
    go (no d) s h r e = rw (record-no-area a script at d) v
    go (yes l) (no s) h r e = rw (record-too-long a script at l (omega arith)) v
    go (yes l) (yes s) (yes h) r e = rw (record-end a script at l s h) v
    go (yes l) (yes s) (no h) (Err stop) e = let offset = stop.offset in rw (record-stops a script at l s (omega arith) e) v
    go (yes l) (yes s) (no h) (Ok read) e = let c = read.call in let next = read.next in
        rw (record-runs a script at l s (omega arith) e) (unfold went in lent-calls-keep-valid a c (record_message script at) (records-fit script at c next e) v)
