-- The names that people read and write: one table for the program that shows a script and for the one that assembles it.
use Rattle.std.specs.Prelude.{ℕ, suc, true, false, List, [], ◌∷◌, ℤ, pos, negsuc, eqb}
use Prim.Native.Char.{code}
use Prim.Native.String.{String, [] as empty, ◌∷◌ as ◌then◌}
use Rattle.model.specs.Code.{E_SYS, E_RSATR, E_PAR, E_ID, E_CTX, E_ILUSE, E_NOMEM, E_LIMIT, E_OBJ, E_NOEXS, E_TMOUT, E_DLT}

-- a text as its bytes
abbrev pub ascii : String → List ℕ
ascii empty = []
ascii (c then s) = code c ∷ ascii s

-- A row of a table: what a number is called.
abbrev pub named : ℕ → List (ℕ × String) → String
named n [] = ""
named n (r ∷ rs) = elim (eqb n r.0) [ true ↦ r.1 | false ↦ named n rs ]

-- A kind's call and its fields by the manual's names, in the order of the record. What follows a send's fields is the message.
abbrev pub templates : List (ℕ × String)
templates =
    (0x01, "cre_tsk itskpri")
    ∷ (0x02, "del_tsk tskid")
    ∷ (0x03, "sta_tsk tskid")
    ∷ (0x04, "ext_tsk")
    ∷ (0x05, "ter_tsk tskid")
    ∷ (0x06, "chg_pri tskid tskpri")
    ∷ (0x10, "cre_mtx mtxatr ceilpri")
    ∷ (0x11, "del_mtx mtxid")
    ∷ (0x12, "loc_mtx mtxid tmout")
    ∷ (0x13, "unl_mtx mtxid")
    ∷ (0x20, "cre_mbf mbfatr bufsz maxmsz")
    ∷ (0x21, "del_mbf mbfid")
    ∷ (0x22, "snd_mbf mbfid msgsz tmout")
    ∷ (0x23, "rcv_mbf mbfid tmout")
    ∷ (0x30, "cre_mpf mpfatr mpfcnt blfsz")
    ∷ (0x31, "del_mpf mpfid")
    ∷ (0x32, "get_mpf mpfid tmout")
    ∷ (0x33, "rel_mpf mpfid blf")
    ∷ (0x40, "tick")
    ∷ []

unfoldable pub template : ℕ → List ℕ
template kind = ascii (named kind templates)

-- a number without its sign
abbrev pub size : ℤ → ℕ
size (pos n) = n
size (negsuc n) = suc n

-- Every error code of `model`, without its sign; with a space in front.
abbrev pub errors : List (ℕ × String)
errors =
    (size E_SYS, " E_SYS")
    ∷ (size E_RSATR, " E_RSATR")
    ∷ (size E_PAR, " E_PAR")
    ∷ (size E_ID, " E_ID")
    ∷ (size E_CTX, " E_CTX")
    ∷ (size E_ILUSE, " E_ILUSE")
    ∷ (size E_NOMEM, " E_NOMEM")
    ∷ (size E_LIMIT, " E_LIMIT")
    ∷ (size E_OBJ, " E_OBJ")
    ∷ (size E_NOEXS, " E_NOEXS")
    ∷ (size E_TMOUT, " E_TMOUT")
    ∷ (size E_DLT, " E_DLT")
    ∷ []

unfoldable pub error_name : ℕ → List ℕ
error_name n = ascii (named n errors)
