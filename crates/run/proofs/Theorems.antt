-- Demand 3 of what runs: that of the definitions, through the public contracts.
use Prim.Native.Nat.{ℕ}
use mathlib.Core.Path.{◌≡◌, ◌∙◌, refl, sym, ap, subst}
use mathlib.Core.List.{List, [], ◌∷◌, ◌++◌, foldl, map, map-append, append_assoc}
use mathlib.Core.Option.{some}
use lib.ListN.{length}
use Rattle.model.specs.Words.{word_count, words}
use Rattle.model.specs.Kernel.{fresh}
use Rattle.model.specs.Lent.{Areas, Returned, Went, progress_answer}
use Rattle.model.specs.Ledger.{fresh_ledger}
use Rattle.model.proofs.Terms.{eq-eqb}
use Rattle.state.specs.Fresh.{fresh_words}
use Rattle.preservation.specs.Entries.{Every}
use Rattle.history.specs.History.{WithLedger}
use Rattle.history.specs.LentHistory.{Invocation, OfCall, OfRecord, call_of, lending, lent_in, AreasWithLedger, told, invoked, advance_lent, start_lent, history_lent, with_ledger_in, InvocationFits, AllInvocationsFit}
use Rattle.history.specs.Statements.{AgreesLent, Explained}
use Rattle.history.specs.Reasons.{Has}
use Rattle.history.proofs.Theorems.{lent-lists-agree, lent-lists-are-explained}
use Rattle.run.specs.Uses.{Use, UsedCall, UsedRecord, invocation, left, Promised, AllPromised, after_use, Begun, UsesAgree, UsesAreExplained}

-- a use that keeps its promise is an invocation on lent words
one-use : (b : AreasWithLedger) (u : Use) → Promised b.areas u → after_use b u ≡ advance_lent b (invocation u)
unfolding advance_lent invoked
one-use b (UsedCall e log r a) p = ap (λ (x : Returned). record { areas = x.areas; ledger = told b.ledger (lent_in b.areas) (e ∷ []) (some x.answer) }) p
one-use b (UsedRecord script at log r a) p =
    ap (λ (w : Went). record { areas = w.areas; ledger = told b.ledger (lent_in b.areas) (call_of (invocation (UsedRecord script at log r a))) (progress_answer w.progress) }) p

uses : (b : AreasWithLedger) (us : List Use) → AllPromised b.areas us → foldl after_use b us ≡ foldl advance_lent b (map invocation us)
uses b [] p = refl
uses b (u ∷ us) p = uses (after_use b u) us p.1 ∙ ap (λ (x : AreasWithLedger). foldl advance_lent x (map invocation us)) (one-use b u p.0)

-- the start with any area for the log
abbrev begin : List ℕ → AreasWithLedger
begin log = record { areas = lending start_lent.areas log; ledger = fresh_ledger }

begins : (b : AreasWithLedger) → Begun b → b ≡ begin b.areas.log
unfolding start_lent fresh_words
begins b h =
    let w : b.areas.words ≡ words fresh = rw (eq-eqb (length h.lent) word_count h.sized) at h.filled.words in
    λ i. record { areas = record { words = w i; store = h.store i; outbox = h.outbox i; log = b.areas.log }; ledger = h.ledger i }

-- the area for the log that a use has is its own, so that of the start does not count
unlogged : (log : List ℕ) (i : Invocation) → advance_lent (begin log) i ≡ advance_lent start_lent i
unfolding advance_lent invoked start_lent
unlogged log (OfCall e l) = refl
unlogged log (OfRecord script at l) = refl

started : (log : List ℕ) → AgreesLent (begin log)
unfolding start_lent history_lent
started log = let s = lent-lists-agree [] tt in record { valid = s.valid; agrees = s.agrees }

fits : (us : List Use) → Every (λ u. InvocationFits (invocation u)) us → AllInvocationsFit (map invocation us)
fits [] f = tt
fits (u ∷ us) f = (f.0, fits us f.1)

promised-part : (a : Areas) (us vs : List Use) → AllPromised a (us ++ vs) → AllPromised a us
promised-part a [] vs p = tt
promised-part a (u ∷ us) vs p = (p.0, promised-part (left u) us vs p.1)

module _ (b : AreasWithLedger) (h : Begun b) where
  -- one use and more
  ends : (u : Use) (us : List Use) → AllPromised b.areas (u ∷ us) → foldl after_use b (u ∷ us) ≡ history_lent (map invocation (u ∷ us))
  unfolding history_lent
  ends u us p =
      uses b (u ∷ us) p
      ∙ ap (λ (x : AreasWithLedger). foldl advance_lent x (map invocation us)) (ap (λ (x : AreasWithLedger). advance_lent x (invocation u)) (begins b h) ∙ unlogged b.areas.log (invocation u))

  same : (us : List Use) → AllPromised b.areas us → with_ledger_in (foldl after_use b us) ≡ with_ledger_in (history_lent (map invocation us))
  unfolding history_lent start_lent
  same [] p = ap with_ledger_in (begins b h)
  same (u ∷ us) p = ap with_ledger_in (ends u us p)

  agree : (us : List Use) → Every (λ u. InvocationFits (invocation u)) us → AllPromised b.areas us → AgreesLent (foldl after_use b us)
  agree [] f p = subst AgreesLent (sym (begins b h)) (started b.areas.log)
  agree (u ∷ us) f p = rw (ends u us p) (lent-lists-agree (map invocation (u ∷ us)) (fits (u ∷ us) f))

pub uses-agree : UsesAgree
uses-agree b us h f p = agree b h us f p

pub uses-are-explained : UsesAreExplained
uses-are-explained b us h f p before behind u list t had has =
    let all : AllPromised b.areas ((before ++ u ∷ []) ++ behind) = rw append_assoc (rw list at p) in
    let part = promised-part b.areas (before ++ u ∷ []) behind all in
    let first = same b h before (promised-part b.areas before (u ∷ []) part) in
    let then = same b h (before ++ u ∷ []) part ∙ ap (λ (is : List Invocation). with_ledger_in (history_lent is)) (map-append invocation before (u ∷ [])) in
    let made : map invocation us ≡ map invocation before ++ invocation u ∷ map invocation behind = ap (map invocation) list ∙ map-append invocation before (u ∷ behind) in
    let has-before = subst (λ (x : WithLedger). Has x.ledger t) first had in
    let has-after = subst (λ (x : WithLedger). Has x.ledger t) then has in
    subst (λ (x : WithLedger). Explained x (with_ledger_in (foldl after_use b (before ++ u ∷ []))) t) (sym first)
    (subst (λ (x : WithLedger). Explained (with_ledger_in (history_lent (map invocation before))) x t) (sym then)
    (lent-lists-are-explained (map invocation us) (fits us f) (map invocation before) (map invocation behind) (invocation u) made t has-before has-after))
