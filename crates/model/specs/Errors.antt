-- Refusals as the code has them: an enum of the error codes, and of no refusal, with the number of each case.
use Rattle.std.specs.Prelude.{ℤ, Ok, Err}
use Rattle.std.specs.Prelude as code
use Rattle.std.proofs.Math.Option.{Option, none, some}
use Rattle.model.specs.declared.code.Error.{Error}
use Rattle.model.specs.declared.code.Error.TheVariants.{Sys, Rsatr, Par, Id, Ctx, Iluse, Nomem, Limit, Obj, Noexs, Tmout, Dlt}
use Rattle.model.specs.Code.{E_SYS, E_RSATR, E_PAR, E_ID, E_CTX, E_ILUSE, E_NOMEM, E_LIMIT, E_OBJ, E_NOEXS, E_TMOUT, E_DLT}

abbrev pub code_of : Error → ℤ
code_of Sys = E_SYS
code_of Rsatr = E_RSATR
code_of Par = E_PAR
code_of Id = E_ID
code_of Ctx = E_CTX
code_of Iluse = E_ILUSE
code_of Nomem = E_NOMEM
code_of Limit = E_LIMIT
code_of Obj = E_OBJ
code_of Noexs = E_NOEXS
code_of Tmout = E_TMOUT
code_of Dlt = E_DLT

-- the first refusal that a verdict is: none where the call is allowed
abbrev pub refusal_of : code.Result Unit Error → Option ℤ
refusal_of (Ok _) = none
refusal_of (Err e) = some (code_of e)
