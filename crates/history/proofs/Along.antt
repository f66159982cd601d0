-- What holds along a list of calls: the state is valid, and the ledger is the one that the kernel has.
use Rattle.model.proofs.Terms.{◌≡◌, ◌∙◌, sym, ap, List, [], ◌∷◌, ◌++◌, foldl, Valid, fresh_lent, FieldsFit, ledger_facts}
use Rattle.preservation.specs.Entries.{Entry, Every, AllFit}
use Rattle.preservation.proofs.Theorems.{fresh-is-valid, calls-keep-valid}
use Rattle.ledger.specs.Abstraction.{ledger_of}
use Rattle.ledger.proofs.Theorems.{fresh-ledger-is, ledger-knows, calls-are-entered}
use Rattle.history.specs.History.{WithLedger, advance, start, history}
use Rattle.history.specs.Statements.{Agrees}
use Rattle.history.proofs.Reasons.{OfState}

abbrev pub Along : WithLedger → Type 0
Along b = Valid b.lent × (b.ledger ≡ ledger_of b.lent.kernel)

pub advances : (b : WithLedger) (e : Entry) → FieldsFit e.call → Along b → Along (advance b e)
unfolding advance
advances b e fit h = (calls-keep-valid b.lent e.call e.bytes fit h.0, rw h.1 (calls-are-entered b.lent e.call e.bytes fit h.0))

along : (es : List Entry) → AllFit es → (b : WithLedger) → Along b → Along (foldl advance b es)
along [] fit b h = h
along (e ∷ es) fit b h = along es fit.1 (advance b e) (advances b e fit.0 h)

pub history-along : (es : List Entry) → AllFit es → Along (history es)
unfolding history start fresh_lent
history-along es fit = along es fit start (fresh-is-valid, sym fresh-ledger-is)

-- so what the ledger gives is the kernel's
module _ (b : WithLedger) (h : Along b) where
  pub agrees : Agrees b
  agrees =
      let k = ledger-knows b.lent h.0 in
      record { valid = h.0; priorities = rw h.1 (sym k.priorities); orders = λ q. rw h.1 (sym (k.orders q)); runs = rw h.1 (sym k.runs) }

  pub of-state : OfState b.ledger
  of-state = (b.lent, h.0, ap ledger_facts h.1 ∙ (ledger-knows b.lent h.0).same_facts)

-- what holds of every one of a list holds of its parts, and the other way
module _ {A : Type 0} (P : A → Type 0) where
  pub every-part : (xs ys : List A) → Every P (xs ++ ys) → Every P xs × Every P ys
  every-part [] ys h = (tt, h)
  every-part (x ∷ xs) ys h = let r = every-part xs ys h.1 in ((h.0, r.0), r.1)

  pub every-both : (xs ys : List A) → Every P xs → Every P ys → Every P (xs ++ ys)
  every-both [] ys f g = g
  every-both (x ∷ xs) ys f g = (f.0, every-both xs ys f.1 g)
