-- Cut into items by their tags, an outcome's log is just its items. Assumes nothing.
use Prim.Native.Nat.{ℕ, zero, suc, ◌-◌, ◌≤◌}
use native.Mathlib.Omega.{arith}
use mathlib.Core.Path.{◌≡◌, ◌∙◌, refl, sym, ap}
use mathlib.Core.List.{List, [], ◌∷◌, ◌++◌, map, append_assoc, append-nil}
use lib.ListN.{length, drop, length-append, length-drop, length-take, length-replicate}
use lib.Seq.{take-append-le, drop-append_seam}
use Rattle.model.proofs.Terms.{message_bytes, joined, padded, zeros, low_byte, code_bytes, bytes4}
use Rattle.model.specs.declared.call.Answer.{Answer}
use Rattle.model.specs.declared.call.Answer.TheVariants.{Code, Waits, Exits}
use Rattle.model.specs.World.{Delivery, Nothing, Message, Block, Ended}
use Rattle.model.specs.Log.{answer_bytes, delivery_bytes, ended_bytes, runs_bytes, outcome_log}
use Rattle.script.specs.Item.{ended_with}
use Rattle.text.specs.Item.{answer_text, ended_text, received_text, block_text, runs_text, task_text, item_bytes, item_text, item_line}
use Rattle.text.specs.Turn.{item_lines, log_text}
use Rattle.text.specs.Whole.{delivery_line, ended_lines, outcome_text, LogIsItsItems}

-- as many turns as there are bytes are enough
pub enough : (n m : ℕ) (l : List ℕ) → length l ≤ n → length l ≤ m → item_lines n l ≡ item_lines m l
enough zero zero l p q = refl
enough zero (suc m) [] p q = refl
enough zero (suc m) (x ∷ l) p q = absurd (omega arith)
enough (suc n) zero [] p q = refl
enough (suc n) zero (x ∷ l) p q = absurd (omega arith)
enough (suc n) (suc m) [] p q = refl
enough (suc n) (suc m) (x ∷ l) p q =
    let k = item_bytes x - 1 in
    ap (λ (t : List ℕ). item_line (x ∷ l) ++ t) (enough n m (drop k l) (omega (arith, length-drop k l)) (omega (arith, length-drop k l)))

-- an item that is as long as its tag says, whatever stands behind it
step : (tag : ℕ) (xs rest : List ℕ) → item_bytes tag - 1 ≡ length xs → item_line (tag ∷ xs ++ rest) ≡ item_line (tag ∷ xs)
    → log_text (tag ∷ xs ++ rest) ≡ item_line (tag ∷ xs) ++ log_text rest
unfolding log_text
step tag xs rest e same =
    let n = length (xs ++ rest) in
    let behind : drop (item_bytes tag - 1) (xs ++ rest) ≡ rest = ap (λ (k : ℕ). drop k (xs ++ rest)) e ∙ drop-append_seam xs rest in
    ap (λ (l : List ℕ). item_line (tag ∷ xs ++ rest) ++ item_lines n l) behind ∙ ap (λ (l : List ℕ). l ++ item_lines n rest) same
    ∙ ap (λ (l : List ℕ). item_line (tag ∷ xs) ++ l) (enough n (length rest) rest (omega (arith, length-append xs rest)) (omega arith))

answer-first : (a : Answer) (rest : List ℕ) → log_text (answer_bytes a ++ rest) ≡ item_line (answer_bytes a) ++ log_text rest
unfolding answer_bytes item_bytes item_line item_text answer_text
answer-first (Code c) rest = step 0x80 (code_bytes c) rest refl refl
answer-first Waits rest = step 0x81 [] rest refl refl
answer-first Exits rest = step 0x82 [] rest refl refl

filled : (m : List ℕ) → length (padded message_bytes m) ≡ message_bytes
filled m = omega (arith, length-take message_bytes (m ++ zeros message_bytes), length-append m (zeros message_bytes), length-replicate {A = ℕ} message_bytes 0)

delivery-first : (t : ℕ) (d : Delivery) (rest : List ℕ) → log_text (delivery_bytes t d ++ rest) ≡ delivery_line t d ++ log_text rest
unfolding delivery_bytes delivery_line item_bytes item_line item_text received_text block_text task_text
delivery-first t Nothing rest = refl
delivery-first t (Message m) rest =
    let p = padded message_bytes m in
    step 0x84 (low_byte t ∷ p) rest (sym (ap suc (filled m)))
    (rw (take-append-le message_bytes p rest (omega (arith, filled m))))
delivery-first t (Block b) rest = step 0x85 (low_byte t ∷ bytes4 b) rest refl refl

ended-first : (e : Ended) (rest : List ℕ) → log_text (ended_bytes e ++ rest) ≡ ended_lines e ++ log_text rest
unfolding ended_bytes ended_lines item_bytes item_line item_text ended_text task_text delivery_bytes
ended-first e rest =
    step 0x83 (low_byte e.task ∷ code_bytes e.code) (delivery_bytes e.task e.delivery ++ rest) refl refl
    ∙ ap (λ (l : List ℕ). item_line (ended_bytes (ended_with e.task e.code)) ++ l) (delivery-first e.task e.delivery rest)
    ∙ sym (append_assoc (item_line (ended_bytes (ended_with e.task e.code))) (delivery_line e.task e.delivery) (log_text rest))

all-ended : (es : List Ended) (rest : List ℕ) → log_text (joined (map ended_bytes es) ++ rest) ≡ joined (map ended_lines es) ++ log_text rest
all-ended [] rest = refl
all-ended (e ∷ es) rest =
    ap log_text (append_assoc (ended_bytes e) (joined (map ended_bytes es)) rest) ∙ ended-first e (joined (map ended_bytes es) ++ rest)
    ∙ ap (λ (l : List ℕ). ended_lines e ++ l) (all-ended es rest) ∙ sym (append_assoc (ended_lines e) (joined (map ended_lines es)) (log_text rest))

runs_last : (t : ℕ) → log_text (runs_bytes t) ≡ item_line (runs_bytes t)
unfolding runs_bytes item_bytes item_line item_text runs_text task_text log_text
runs_last t = append-nil (item_line (runs_bytes t))

pub log-is-its-items : LogIsItsItems
unfolding outcome_log outcome_text
log-is-its-items caller o =
    let a = answer_bytes o.answer in
    let d = delivery_bytes caller o.delivery in
    let w = joined (map ended_bytes o.ended) in
    let r = runs_bytes o.runs in
    ap log_text (append_assoc (a ++ d) w r ∙ append_assoc a d (w ++ r)) ∙ answer-first o.answer (d ++ (w ++ r))
    ∙ ap (λ (l : List ℕ). item_line a ++ l) (delivery-first caller o.delivery (w ++ r)
    ∙ ap (λ (l : List ℕ). delivery_line caller o.delivery ++ l)
    (all-ended o.ended r ∙ ap (λ (l : List ℕ). joined (map ended_lines o.ended) ++ l) (runs_last o.runs)))
