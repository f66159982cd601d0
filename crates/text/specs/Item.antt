-- The line of an item of a log, from the bytes that begin with it.
use Rattle.std.specs.Prelude.{ℕ, ◌+◌, true, false, List, [], ◌∷◌, ◌++◌, take, drop, eqb}
use Rattle.model.specs.Sizes.{message_bytes}
use Rattle.model.specs.Lists.{◌!◌}
use Rattle.model.specs.Record.{field}
use Rattle.text.specs.Names.{ascii}
use Rattle.text.specs.Numbers.{decimal, signed_decimal, code_text}
use Rattle.text.specs.Quoted.{quoted}

-- at most n bytes of an item, from one of them on
abbrev pub part : List ℕ → ℕ → ℕ → List ℕ
part item from n = take n (drop from item)

unfoldable pub answer_text : List ℕ → List ℕ
answer_text item = ascii "answer " ++ code_text (field (part item 1 4) 0)

-- the task that an item is about
unfoldable pub task_text : List ℕ → List ℕ
task_text item = ascii "task " ++ decimal (item ! 1)

unfoldable pub ended_text : List ℕ → List ℕ
ended_text item = task_text item ++ ascii ": wait ended, " ++ code_text (field (part item 2 4) 0)

unfoldable pub received_text : List ℕ → List ℕ
received_text item = task_text item ++ ascii ": message " ++ quoted (part item 2 message_bytes)

unfoldable pub block_text : List ℕ → List ℕ
block_text item = task_text item ++ ascii ": block " ++ signed_decimal (field (part item 2 4) 0)

unfoldable pub runs_text : List ℕ → List ℕ
runs_text item = elim (eqb (item ! 1) 0) [ true ↦ ascii "runs no task" | false ↦ ascii "runs " ++ task_text item ]

-- A row of the table: the tag, how many bytes the item has, and its text.
pub record Form : Type 0 where
  pub tag : ℕ
  pub bytes : ℕ
  pub text : List ℕ → List ℕ

abbrev pub form : ℕ → ℕ → (List ℕ → List ℕ) → Form
form tag bytes text = record { tag = tag; bytes = bytes; text = text }

-- 01, "Log for each record": "80 + code (4 bytes) if answered, 81 if the caller waits, 82 for a good ext_tsk", "83 + task (1) + code (4)",
-- "84 + task + 32 bytes", "85 + task + block (4)", "8F + running task (1, 0 for none)"
abbrev pub forms : List Form
forms =
    form 0x80 5 answer_text
    ∷ form 0x81 1 (λ item. ascii "waits")
    ∷ form 0x82 1 (λ item. ascii "exits")
    ∷ form 0x83 6 ended_text
    ∷ form 0x84 (2 + message_bytes) received_text
    ∷ form 0x85 6 block_text
    ∷ form 0x8F 2 runs_text
    ∷ []

-- a byte that is no tag; no record's log has one
abbrev pub no_form : Form
no_form = form 0 1 (λ item. ascii "no item")

abbrev pub form_in : ℕ → List Form → Form
form_in tag [] = no_form
form_in tag (f ∷ fs) = elim (eqb tag f.tag) [ true ↦ f | false ↦ form_in tag fs ]

unfoldable pub item_bytes : ℕ → ℕ
item_bytes tag = (form_in tag forms).bytes

unfoldable pub item_text : List ℕ → List ℕ
item_text item = (form_in (item ! 0) forms).text item

unfoldable pub item_line : List ℕ → List ℕ
item_line item = ascii "  " ++ item_text item ++ ascii "\n"

-- what has to unfold for the definitions of this file to compute
unfoldable pub compute_item : Unit {0}
unfolding answer_text task_text ended_text received_text block_text runs_text item_bytes item_text item_line
compute_item = tt
