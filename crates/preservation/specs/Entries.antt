-- Lists of calls, each with the bytes that are handed over with it; and a script's records as such a list.
use Rattle.std.specs.Prelude.{Ok, Err}
use Rattle.std.specs.Prelude.{◌∷◌}
use Rattle.model.proofs.Terms.{ℕ, zero, suc, true, false, List, [], foldl, length, leb, Lent, Outcome, step, read_record, record_message, FieldsFit}
use Rattle.model.specs.declared.call.Call.{Call}

pub record Entry : Type 0 where
  pub call : Call
  pub bytes : List ℕ

-- of every one of a list
abbrev pub Every : {A : Type 0} → (A → Type 0) → List A → Type 0
Every P [] = Unit {0}
Every P (x ∷ xs) = P x × Every P xs

-- "Fields are signed 32-bit": of every call
abbrev pub AllFit : List Entry → Type 0
AllFit = Every (λ e. FieldsFit e.call)

-- what comes of an entry, and what it leaves
abbrev pub outcome : Lent → Entry → Outcome
outcome x e = step x e.call e.bytes

abbrev pub next : Lent → Entry → Lent
next x e = (outcome x e).lent

-- the state and areas after a list of entries: each call gets them as the last one left them
abbrev pub after : Lent → List Entry → Lent
after x es = foldl next x es

-- the records of a script that are read, at most n of them, from a place on; all of them
abbrev pub entries_from : ℕ → List ℕ → ℕ → List Entry
entries_from zero script at = []
entries_from (suc n) script at =
    elim (leb (length script) at) [
      | true ↦ []
      | false ↦ elim (read_record script at) [ Err stop ↦ [] | Ok read ↦ record { call = read.call; bytes = record_message script at } ∷ entries_from n script read.next.at ]
    ]

unfoldable pub entries_of : List ℕ → List Entry
entries_of script = entries_from (length script) script 0
