-- A mutex that the ledger has before and after a call keeps its attribute and ceiling.
use lib.Seq.{map-set_same}
use Rattle.model.proofs.Terms.{ℕ, zero, suc, arith, ◌≡◌, ◌∙◌, refl, sym, ap, ◌⊎◌, inl, inr, false, ◌&&◌, cond, Option, none, some, Option·map, List, [], ◌∷◌, map, foldl, get_or, set, ℤ, pos, negsuc, le_z, eqb, eqb-false, mutexes, number, locking, running, Lent, begun, unused, nobody_runs, bad_attribute, none_free, cre_mtx_refusals, refusals, cre_mtx, perform, effect, Valid, refused, carried_out, valid_step, step, Outcome, MutexEntry, Ledger, with_task_entry, with_mutex_entry, with_buffer_entry, with_pool_entry, with_lines, join, standing, ledger_runs, depart, on_task, holds, on_mutex, falls_dormant, starts, joins_anew, rejoins, changes, answered_with, waits_in, waiting, ends_wait, entered}
use Rattle.model.specs.Ledger.{compute_ledger}
use Rattle.model.specs.declared.call.Call.{Call}
use Rattle.model.specs.declared.call.Call.TheVariants.{CreTsk, DelTsk, StaTsk, ExtTsk, TerTsk, ChgPri, CreMtx, DelMtx, LocMtx, UnlMtx, CreMbf, DelMbf, SndMbf, RcvMbf, CreMpf, DelMpf, GetMpf, RelMpf, Tick}
use Rattle.model.specs.declared.call.Answer.{Answer}
use Rattle.model.specs.declared.call.Answer.TheVariants.{Code, Waits, Exits}
use Rattle.model.proofs.ByCase.{step-valid}
use Rattle.model.proofs.ListLaws.{either}
use Rattle.model.proofs.Folds.{numbers_keep}
use Rattle.model.proofs.RefusalLaws.{of-first, none-applies, unused-free}
use Rattle.valid.specs.Agree.{valid-agrees}
use Rattle.ledger.specs.Abstraction.{ledger_of}
use Rattle.ledger.specs.Statements.{ended_codes}
use Rattle.ledger.proofs.Tables.{table_at}

-- the attribute and ceiling of each mutex that is there
abbrev pub shape : MutexEntry → ℕ × ℕ
shape e = (e.attribute, e.ceiling)

abbrev pub shapes : Ledger → List (Option (ℕ × ℕ))
shapes l = map (Option·map shape) l.mutexes

-- what is there before and after, at whatever number, is the same
unfoldable pub Lasting : List (Option (ℕ × ℕ)) → List (Option (ℕ × ℕ)) → Type 0
Lasting xs ys = (m : ℕ) (p q : ℕ × ℕ) → get_or xs m none ≡ some p → get_or ys m none ≡ some q → ◌≡◌ {A = Option (ℕ × ℕ)} (some p) (some q)

-- so the entries that are there both times have the same
pub entries-last : (l j : Ledger) → Lasting (shapes l) (shapes j) → (m : ℕ) (a b : MutexEntry)
    → get_or l.mutexes m none ≡ some a → get_or j.mutexes m none ≡ some b → (a.attribute ≡ b.attribute) × (a.ceiling ≡ b.ceiling)
unfolding Lasting
entries-last l j h m a b x y =
    let q = h m (shape a) (shape b) (at l.mutexes m ∙ ap (Option·map shape) x) (at j.mutexes m ∙ ap (Option·map shape) y) in
    let p : shape a ≡ shape b = cc in
    (ap (λ (r : ℕ × ℕ). r.0) p, ap (λ (r : ℕ × ℕ). r.1) p)
  where
    at : (xs : List (Option MutexEntry)) (i : ℕ) → get_or (map (Option·map shape) xs) i none ≡ Option·map shape (get_or xs i none)
    at [] i = refl
    at (e ∷ xs) zero = refl
    at (e ∷ xs) (suc i) = at xs i

-- ---- what changes no mutex but its holder

on-mutex : (l : Ledger) (m : ℕ) (f : MutexEntry → MutexEntry) → ((e : MutexEntry) → shape (f e) ≡ shape e) → shapes (on_mutex l m f) ≡ shapes l
unfolding on_mutex with_mutex_entry
on-mutex l m f h =
    map-set_same (Option·map shape) l.mutexes m _ none
    (elim (get_or l.mutexes m none) as (λ o. Option·map shape (Option·map f o) ≡ Option·map shape o) [ none ↦ refl | some e ↦ ap some (h e) ])

all_end : (es : List (ℕ × ℤ)) (l : Ledger) → shapes (foldl ends_wait l es) ≡ shapes l
unfolding compute_ledger
all_end [] l = refl
all_end (e ∷ es) l =
    all_end es (ends_wait l e)
    ∙ either (λ j. shapes j ≡ shapes l) (eqb (standing l e.0).place locking && le_z (pos 0) e.1 && le_z e.1 (pos 0))
    (on-mutex l _ (holds e.0) (λ d. refl)) refl

falls : (l : Ledger) (t : ℕ) → shapes (falls_dormant l t) ≡ shapes l
unfolding compute_ledger
falls l t =
    let free : MutexEntry → MutexEntry = λ e. cond (eqb e.holder t) (holds 0 e) e in
    numbers_keep (λ n j. shapes j ≡ shapes l) (λ j m. on_mutex j m free) mutexes
    (λ m j low high h. on-mutex j m free (λ e. either (λ (d : MutexEntry). shape d ≡ shape e) (eqb e.holder t) refl refl) ∙ h)
    (on_task (depart l t) t (λ e. record { base = e.initial; initial = e.initial; started = false })) refl

-- ---- one call

same-lasts : {xs ys : List (Option (ℕ × ℕ))} → ys ≡ xs → Lasting xs ys
unfolding Lasting
same-lasts e m p q a b = sym a ∙ sym (ap (λ s. get_or s m none) e) ∙ b

-- an entry is exchanged where none was, or none is
set-lasts : (ms : List (Option MutexEntry)) (n : ℕ) (v : Option MutexEntry) → (get_or ms n none ≡ none) ⊎ (v ≡ none)
    → Lasting (map (Option·map shape) ms) (map (Option·map shape) (set ms n v))
unfolding Lasting
set-lasts [] n v h m p q a b = sym a ∙ b
set-lasts (x ∷ xs) zero v (inl e) zero p q a b = cc
set-lasts (x ∷ xs) zero v (inr e) zero p q a b = cc
set-lasts (x ∷ xs) zero v h (suc m) p q a b = sym a ∙ b
set-lasts (x ∷ xs) (suc n) v h zero p q a b = sym a ∙ b
set-lasts (x ∷ xs) (suc n) v h (suc m) p q a b = set-lasts xs n v h m p q a b

entered-lasts : (l : Ledger) (c : Call) (a : Answer) (es : List (ℕ × ℤ)) → ((n : ℕ) → Lasting (shapes l) (shapes (answered_with l c n)))
    → Lasting (shapes l) (shapes (entered l c a es))
unfolding entered waiting join depart with_lines
entered-lasts l c (Code (negsuc n)) es h = same-lasts refl
entered-lasts l c (Code (pos n)) es h = rw all_end (h n)
entered-lasts l c Waits es h =
    let joins = elim (waits_in c) as (λ o. shapes (elim o [ none ↦ l | some q ↦ join l (ledger_runs l) q ]) ≡ shapes l) [ none ↦ refl | some q ↦ refl ] in
    same-lasts (all_end es (waiting l c) ∙ joins)
entered-lasts l c Exits es h = same-lasts (all_end es (falls_dormant l (ledger_runs l)) ∙ falls l (ledger_runs l))

module _ (x : Lent) (v : Valid x) where
  abbrev l : Ledger
  l = ledger_of x.kernel

  abbrev Lasts : Call → Outcome → Type 0
  Lasts c o = Lasting (shapes l) (shapes (entered l c o.answer (ended_codes o.ended)))

  -- a mutex that is created has a number that none has
  created : (attribute ceiling : ℤ) (bytes : List ℕ) → Lasts (CreMtx attribute ceiling) (step x (CreMtx attribute ceiling) bytes)
  unfolding valid_step carried_out refused effect perform cre_mtx refusals cre_mtx_refusals bad_attribute none_free nobody_runs entered answered_with with_mutex_entry ledger_of
  created attribute ceiling bytes =
      let c = CreMtx attribute ceiling in
      let rs = refusals x.kernel c bytes in
      let n = unused x.kernel.mutexes.exists mutexes in
      rw (step-valid x c bytes ((valid-agrees x).1 v))
      (of-first (λ o. Lasts c (elim o [ none ↦ carried_out (effect (begun x) c bytes) | some e ↦ refused x e (running x.kernel) ])) rs (search same-lasts)
      (λ e. let new = unused-free x.kernel.mutexes.exists mutexes (eqb-false n 0 (none-applies rs e 3)) in
      rw all_end (set-lasts l.mutexes n _ (inl (table_at (suc mutexes) _ n none (omega (arith, new.0)) ∙ rw new.1)))))

  pub call-lasts : (c : Call) (bytes : List ℕ) → Lasts c (step x c bytes)
  unfolding answered_with with_task_entry with_mutex_entry with_buffer_entry with_pool_entry on_task starts rejoins changes join depart with_lines holds
  call-lasts (CreTsk priority) bytes = entered-lasts l _ _ _ (λ n. same-lasts refl)
  call-lasts (DelTsk task) bytes = entered-lasts l _ _ _ (λ n. same-lasts refl)
  call-lasts (StaTsk task) bytes = entered-lasts l _ _ _ (λ n. same-lasts refl)
  call-lasts ExtTsk bytes = entered-lasts l _ _ _ (λ n. same-lasts refl)
  call-lasts (TerTsk task) bytes = entered-lasts l _ _ _ (λ n. same-lasts (falls l (number task)))
  call-lasts (ChgPri task priority) bytes =
      entered-lasts l _ _ _
      (λ n. same-lasts {ys = shapes (answered_with l (ChgPri task priority) n)} (either (λ j. shapes j ≡ shapes l) (joins_anew _ _) refl refl))
  call-lasts (CreMtx attribute ceiling) bytes = created attribute ceiling bytes
  call-lasts (DelMtx mutex) bytes = entered-lasts l _ _ _ (λ n. set-lasts l.mutexes (number mutex) none (inr refl))
  call-lasts (LocMtx mutex timeout) bytes = entered-lasts l _ _ _ (λ n. same-lasts (on-mutex l (number mutex) (holds (ledger_runs l)) (λ e. refl)))
  call-lasts (UnlMtx mutex) bytes = entered-lasts l _ _ _ (λ n. same-lasts (on-mutex l (number mutex) (holds 0) (λ e. refl)))
  call-lasts (CreMbf attribute bufsz maxmsz) bytes = entered-lasts l _ _ _ (λ n. same-lasts refl)
  call-lasts (DelMbf buffer) bytes = entered-lasts l _ _ _ (λ n. same-lasts refl)
  call-lasts (SndMbf buffer msgsz timeout) bytes = entered-lasts l _ _ _ (λ n. same-lasts refl)
  call-lasts (RcvMbf buffer timeout) bytes = entered-lasts l _ _ _ (λ n. same-lasts refl)
  call-lasts (CreMpf attribute count size) bytes = entered-lasts l _ _ _ (λ n. same-lasts refl)
  call-lasts (DelMpf pool) bytes = entered-lasts l _ _ _ (λ n. same-lasts refl)
  call-lasts (GetMpf pool timeout) bytes = entered-lasts l _ _ _ (λ n. same-lasts refl)
  call-lasts (RelMpf pool block) bytes = entered-lasts l _ _ _ (λ n. same-lasts refl)
  call-lasts Tick bytes = entered-lasts l _ _ _ (λ n. same-lasts refl)
