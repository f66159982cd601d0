-- A message piece by piece. Assumes nothing.
use Rattle.std.proofs.Common.{◌≡◌, ◌<◌, ◌+◌, ◌-◌, ℕ, suc, ◌∙◌, ap, arith, Bool, List, set, Result, Ok, Err}
use Rattle.assemble.specs.declared.message.Piece.{Piece}
use Rattle.assemble.specs.declared.message.Piece.TheVariants.{Byte, End}
use Rattle.assemble.specs.declared.reason.Reason.{Reason}
use Rattle.assemble.specs.Read.{Read, read}
use Rattle.assemble.specs.Messages.{piece_at, bytes_from}

-- what a piece does to a message that has room for it
abbrev pub by-piece : Bool → ℕ → ℕ → List ℕ → List ℕ → Result Piece Reason → Read ℕ
by-piece quoted room n message line p =
    elim p [
      | Ok x ↦ elim x [ Byte c next ↦ bytes_from quoted room (suc n) (set message n c) line next | End next ↦ read message (Ok next) ]
      | Err why ↦ read message (Err why)
    ]

module _ (q : Bool) (size n : ℕ) (m line : List ℕ) (at : ℕ) (room : n < size) where
  step : bytes_from q (size - n) n m line at ≡ by-piece q (size - (n + 1)) n m line (piece_at q line at)
  step = ap (λ (k : ℕ). bytes_from q k n m line at) (let e : size - n ≡ suc (size - (n + 1)) = omega arith in e)

  pub byte-goes : (v next : ℕ) → piece_at q line at ≡ Ok (Byte v next)
      → bytes_from q (size - n) n m line at ≡ bytes_from q (size - (n + 1)) (n + 1) (set m n v) line next
  byte-goes v next e =
      step ∙ ap (by-piece q (size - (n + 1)) n m line) e
      ∙ ap (λ (k : ℕ). bytes_from q (size - (n + 1)) k (set m n v) line next) (let s : suc n ≡ n + 1 = omega arith in s)

  pub end-stops : (next : ℕ) → piece_at q line at ≡ Ok (End next) → bytes_from q (size - n) n m line at ≡ read m (Ok next)
  end-stops next e = step ∙ ap (by-piece q (size - (n + 1)) n m line) e

  pub wrong-stops : (why : Reason) → piece_at q line at ≡ Err why → bytes_from q (size - n) n m line at ≡ read m (Err why)
  wrong-stops why e = step ∙ ap (by-piece q (size - (n + 1)) n m line) e
