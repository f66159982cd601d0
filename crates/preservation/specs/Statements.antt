-- Demand 2's last sentence: "The fresh state is sound and every call keeps it so." What is to be proved, each as a type; `Theorems` proves them.
-- The state and its areas are valid by the statements of `Valid`, which agree with the test that the kernel makes.
use Rattle.model.specs.Record.{found}
use Rattle.std.specs.Prelude.{◌≤◌, ◌≡◌, ◌↔◌}
use Rattle.model.proofs.Terms.{ℕ, true, false, none, List, foldl, tasks, buffers, store_bytes, outbox_bytes, zeros, up_to, fresh, Lent, World, begun, serve, first_fits, store_first, drain, first_refusal, refusals, perform, Each, Valid, valid, words, fresh_lent, step, read_record, FieldsFit, run, run_script, Areas, is_valid, lent_step, lent_record}
use Rattle.model.specs.declared.call.Call.{Call}
use Rattle.model.specs.declared.call.Cursor.{Cursor}
use Rattle.invariant.specs.Invariant.{Steady}
use Rattle.preservation.specs.Entries.{Entry, AllFit, after, entries_of}

-- Nothing of validity is lost between calls: a state is valid exactly if what holds between acts holds, and no first sender fits.
abbrev pub ValidIsSteady : Type 0
ValidIsSteady = (x : Lent) → Valid x ↔ (Steady 0 (begun x) × Each buffers (λ b. first_fits x.kernel b ≡ false))

-- "The fresh state is sound"
abbrev pub FreshIsValid : Type 0
FreshIsValid = Valid fresh_lent

-- "and every call keeps it so": any call whose fields fit 32 bits, with any list of bytes, refused or not
abbrev pub CallsKeepValid : Type 0
CallsKeepValid = (x : Lent) (c : Call) (bytes : List ℕ) → FieldsFit c → Valid x → Valid (step x c bytes).lent

-- the same of the test
abbrev pub FreshPasses : Type 0
FreshPasses = valid fresh_lent ≡ true

abbrev pub CallsKeepTest : Type 0
CallsKeepTest = (x : Lent) (c : Call) (bytes : List ℕ) → FieldsFit c → valid x ≡ true → valid (step x c bytes).lent ≡ true

-- the same of lent words and areas, whatever the length of the log's area
abbrev pub ValidAreas : Areas → Type 0
ValidAreas a = is_valid a.words a.store a.outbox ≡ true

abbrev pub FreshWordsAreValid : Type 0
FreshWordsAreValid = is_valid (words fresh) (zeros store_bytes) (zeros outbox_bytes) ≡ true

abbrev pub LentCallsKeepValid : Type 0
LentCallsKeepValid = (a : Areas) (c : Call) (bytes : List ℕ) → FieldsFit c → ValidAreas a → ValidAreas (lent_step a c bytes).areas

-- the same of any list of calls
abbrev pub ListsKeepValid : Type 0
ListsKeepValid = (x : Lent) (es : List Entry) → AllFit es → Valid x → Valid (after x es)

-- Every record that is read has fields of 32 bits, whatever the bytes; and a run of records leaves what the list of its calls leaves.
abbrev pub RecordsFit : Type 0
RecordsFit = (script : List ℕ) (at : ℕ) (c : Call) (next : Cursor) → read_record script at ≡ found c next → FieldsFit c

abbrev pub ScriptsFit : Type 0
ScriptsFit = (script : List ℕ) → AllFit (entries_of script)

abbrev pub RunsAreLists : Type 0
RunsAreLists = (x : Lent) (script : List ℕ) → (run x script).lent ≡ after x (entries_of script)

-- so any run of records, any script, and a script's record on lent words keep what is lent valid
abbrev pub RunsKeepValid : Type 0
RunsKeepValid = (x : Lent) (script : List ℕ) → Valid x → Valid (run x script).lent

abbrev pub ScriptsKeepValid : Type 0
ScriptsKeepValid = (x : Lent) (script : List ℕ) → Valid x → Valid (run_script x script).lent

abbrev pub LentRecordsKeepValid : Type 0
LentRecordsKeepValid = (a : Areas) (script : List ℕ) (at : ℕ) → ValidAreas a → ValidAreas (lent_record a script at).areas

-- ---- "Last in each call, buffers 1 to 4: while the first sender's message fits, it is stored"

-- the drain with another bound on the turns that each buffer has
abbrev pub drain_in : ℕ → World → World
drain_in n w = foldl (λ v b. serve n (λ u. first_fits u.kernel b) (λ u. store_first u b) v) w (up_to buffers)

-- It never stops for want of turns, and leaves no first sender that fits.
pub record Drains (w : World) : Type 0 where
  pub enough : (n : ℕ) → tasks ≤ n → drain_in n w ≡ drain w
  pub none-fits : Each buffers (λ b. first_fits (drain w).kernel b ≡ false)

abbrev pub EveryDrainEnds : Type 0
EveryDrainEnds =
    (x : Lent) (c : Call) (bytes : List ℕ) → FieldsFit c → Valid x → first_refusal (refusals x.kernel c bytes) ≡ none
    → Drains (perform (begun x) c bytes).world
