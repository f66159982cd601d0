-- Every record that is read has fields of 32 bits, whatever the bytes; and a run of records is a list of calls.
use Rattle.std.specs.Prelude.{Result, Ok, Err}
use Rattle.model.specs.declared.call.Record.{Record}
use Rattle.model.specs.declared.call.Stop.{Stop}
use Rattle.model.specs.Record.{found}
use Rattle.model.proofs.Terms.{◌++◌, ℕ, zero, suc, ◌+◌, ◌*◌, ◌-◌, ◌≤◌, ◌<◌, ◌^◌, dec_le, arith, ◌≡◌, ◌∙◌, refl, sym, ap, subst, Bool, true, false, cond, List, [], ◌∷◌, map, length, drop, pos, mag, ltb, ltb-true, ltb-false, leb, le-leb, lt-leb, ◌!◌, count_from, number4, minus, signed, Lent, fields_of, field, read_here, read_record, record_message, Fit, FieldsFit, run_from, run}
use Rattle.model.specs.declared.call.Call.{Call}
use Rattle.model.specs.declared.call.Cursor.{Cursor}
use Rattle.script.proofs.Reading.{was_read}
use Rattle.script.proofs.Rows.{fields_made}
use Rattle.preservation.specs.Entries.{Entry, AllFit, after, entries_from, entries_of}
use Rattle.preservation.specs.Statements.{RecordsFit, ScriptsFit, RunsAreLists}

-- ---- fields

signed-fits : (n : ℕ) → mag (signed n) < 2 ^ 31
signed-fits n =
    let below : (m : ℕ) → m ≤ 2 ^ 31 → mag (minus m) < 2 ^ 31 = elim [ zero ↦ λ h. omega arith | suc m ↦ λ h. omega arith ] in
    elim (ltb n (2 ^ 31)) as (λ b. ltb n (2 ^ 31) ≡ b → mag (cond b (pos n) (minus (2 ^ 32 - n))) < 2 ^ 31)
    [ true ↦ ltb-true n (2 ^ 31) | false ↦ λ e. below (2 ^ 32 - n) (omega (arith, ltb-false n (2 ^ 31) e)) ] refl

all_fit : (body : List ℕ) (a n : ℕ) → Fit (map (field body) (count_from a n))
unfolding field
all_fit body a zero = tt
all_fit body a (suc n) = (signed-fits (number4 (body ! (4 * a)) (body ! (4 * a + 1)) (body ! (4 * a + 2)) (body ! (4 * a + 3))), all_fit body (suc a) n)

pub records-fit : RecordsFit
unfolding read_record
records-fit script at c next = go (drop at script)
  where
    go : (bytes : List ℕ) → read_here at bytes ≡ found c next → FieldsFit c
    go [] e = absurd (unfold read_here in (let z : ◌≡◌ {A = ℕ} 0 1 = cc in omega arith))
    go (kind ∷ body) e =
        let r = was_read at kind body c next e in
        let fields = ap fields_of (sym r.made) ∙ fields_made kind r.row r.is (field body) in
        subst Fit (sym fields) (all_fit body 0 r.row.fields)

-- ---- a script's records as a list of calls

module _ (script : List ℕ) where
  -- what one more turn reads: nothing, or a record and what comes after it
  by-record : (n at : ℕ) (P : List Entry → Type 0) → P []
      → ((c : Call) (next : Cursor) → read_record script at ≡ found c next → P (record { call = c; bytes = record_message script at } ∷ entries_from n script next.at))
      → P (entries_from (suc n) script at)
  by-record n at P none one = go (leb (length script) at) (read_record script at) refl
    where
      go : (b : Bool) (r : Result Record Stop) → read_record script at ≡ r
          → P (elim b [ true ↦ [] | false ↦ elim r [ Err stop ↦ [] | Ok read ↦ record { call = read.call; bytes = record_message script at } ∷ entries_from n script read.next.at ] ])
      go true r e = none
      go false (Err stop) e = let offset = stop.offset in none
      go false (Ok read) e = let c = read.call in let next = read.next in one c next e

  pub entries_fit : (n at : ℕ) → AllFit (entries_from n script at)
  entries_fit zero at = tt
  entries_fit (suc n) at = by-record n at AllFit tt (λ c next e. (records-fit script at c next e, entries_fit n next.at))

  pub entries-few : (n at : ℕ) → length (entries_from n script at) ≤ n
  entries-few zero at = omega arith
  entries-few (suc n) at = by-record n at (λ es. length es ≤ suc n) (omega arith) (λ c next e. omega (arith, entries-few n next.at))

  pub run_is : (n : ℕ) (x : Lent) (at : ℕ) → (run_from n x script at).lent ≡ after x (entries_from n script at)
  run_is zero x at = refl
  run_is (suc n) x at = go (dec_le (length script) at) (read_record script at) refl (run_is n)
    where
      go : Dec (length script ≤ at) → (r : Result Record Stop) → read_record script at ≡ r → ((y : Lent) (i : ℕ) → (run_from n y script i).lent ≡ after y (entries_from n script i))
          → (run_from (suc n) x script at).lent ≡ after x (entries_from (suc n) script at)
      go (yes h) r e rest = rw (le-leb (length script) at h, run_from, entries_from)
      go (no h) (Err stop) e rest = let offset = stop.offset in rw (lt-leb (length script) at (omega arith), e, run_from, entries_from)
      go (no h) (Ok read) e rest = let c = read.call in let next = read.next in rw (lt-leb (length script) at (omega arith), e, run_from, entries_from) (rest _ next.at)

  -- a beginning of the records that are read is what fewer turns read
  pub entries-part : (before : List Entry) (n at : ℕ) (behind : List Entry) → entries_from n script at ≡ before ++ behind → entries_from (length before) script at ≡ before
  entries-part [] n at behind q = refl
  entries-part (b ∷ before) zero at behind q = absurd (let z : ◌≡◌ {A = ℕ} 0 1 = cc in omega arith)
  entries-part (b ∷ before) (suc n) at behind q = go (dec_le (length script) at) (read_record script at) refl (λ i. entries-part before n i behind)
    where
      nothing : ◌≡◌ {A = List Entry} [] (b ∷ before ++ behind) → ⊥
      nothing p = let z : ◌≡◌ {A = ℕ} 0 1 = cc in omega arith

      go : Dec (length script ≤ at) → (r : Result Record Stop) → read_record script at ≡ r → ((i : ℕ) → entries_from n script i ≡ before ++ behind → entries_from (length before) script i ≡ before)
          → entries_from (suc (length before)) script at ≡ b ∷ before
      go (yes h) r e rest = absurd (nothing (rw (le-leb (length script) at h, entries_from) at q))
      go (no h) (Err stop) e rest = let offset = stop.offset in absurd (nothing (rw (lt-leb (length script) at (omega arith), e, entries_from) at q))
      go (no h) (Ok read) e rest = let c = read.call in let next = read.next in
          let entry : Entry = record { call = c; bytes = record_message script at } in
          let p : entry ∷ entries_from n script next.at ≡ b ∷ before ++ behind = rw (lt-leb (length script) at (omega arith), e, entries_from) at q in
          let first : entry ≡ b = cc in
          let others : entries_from n script next.at ≡ before ++ behind = cc in
          rw (lt-leb (length script) at (omega arith), e, entries_from, rest next.at others, first)

pub scripts-fit : ScriptsFit
unfolding entries_of
scripts-fit script = entries_fit script (length script) 0

pub runs-are-lists : RunsAreLists
unfolding run entries_of
runs-are-lists x script = run_is script (length script) x 0
