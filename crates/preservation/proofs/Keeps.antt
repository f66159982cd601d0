-- What is shown of each call, a file for each kind of object: where nothing refuses it, what holds between acts holds after its own acts; the drain comes then.
use Rattle.model.proofs.Terms.{ℕ, ◌≡◌, none, List, World, first_refusal, refusals, perform, FieldsFit}
use Rattle.model.specs.declared.call.Call.{Call}
use Rattle.invariant.specs.Invariant.{Steady}

abbrev pub Keeps : World → Call → Type 0
Keeps w c = (bytes : List ℕ) → FieldsFit c → first_refusal (refusals w.kernel c bytes) ≡ none → Steady 0 (perform w c bytes).world
