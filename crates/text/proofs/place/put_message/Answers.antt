-- `put_message` meets its contract. Assumes nothing.
use mathlib.Core.Path.{◌∙◌, sym}
use borrow.Author.Tests.{eqb-true, eqb-false}
use Rattle.text.proofs.Texts.{no-message, a-message}
use Rattle.text.proofs.place.put_message.Goals as goal

pub returns-then-is_empty : goal.returns-then-is_empty
returns-then-is_empty c = no-message _ (eqb-true _ _ (sym c.is_empty.ensures ∙ c.if-is_empty.true))

pub returns : goal.returns
returns c =
    a-message _ (eqb-false _ _ (sym c.is_empty.ensures ∙ c.if-is_empty.false)) c.put-next.ensures
    c.put_quoted.ensures
