-- Texts and what they come to, which antt computes.
use Rattle.std.specs.Prelude.{ℕ, ◌≡◌, refl, List, [], ◌∷◌, ◌++◌, map, pos}
use Prim.Native.String.{String}
use Rattle.model.specs.declared.call.Call.TheVariants.{CreTsk, DelTsk, StaTsk, ExtTsk, TerTsk, ChgPri, CreMtx, DelMtx, LocMtx, UnlMtx, CreMbf, DelMbf, SndMbf, RcvMbf, CreMpf, DelMpf, GetMpf, RelMpf, Tick}
use Rattle.model.specs.Sizes.{message_bytes}
use Rattle.model.specs.Lists.{zeros, joined}
use Rattle.model.specs.Record.{record_bytes, compute_record}
use Rattle.script.specs.Body.{body_parts}
use Rattle.text.specs.Names.{ascii, template}
use Rattle.assemble.specs.declared.reason.Reason.TheVariants.{UnknownCall, FieldMissing, OtherField, NotANumber, BadMessage, LongMessage, LeftOver}
use Rattle.assemble.specs.Words.{compute_words}
use Rattle.assemble.specs.Numbers.{compute_numbers}
use Rattle.assemble.specs.Calls.{compute_calls}
use Rattle.assemble.specs.Fields.{compute_fields}
use Rattle.assemble.specs.Messages.{compute_messages}
use Rattle.assemble.specs.Lines.{compute_lines}
use Rattle.assemble.specs.Assembled.{Made, WrongLine, assembled}

unfoldable compute : Unit {0}
unfolding compute_record body_parts template compute_words compute_numbers compute_calls compute_fields compute_messages compute_lines assembled
compute = tt

-- document 01's whole example, but for its last record, which is cut: no line stands for that
pub whole_example : assembled (ascii "tick\nget_mpf mpfid=1 tmout=0\n")
    ≡ Made (0x40 ∷ 0x32 ∷ 0x01 ∷ 0x00 ∷ 0x00 ∷ 0x00 ∷ 0x00 ∷ 0x00 ∷ 0x00 ∷ 0x00 ∷ [])
unfolding compute
whole_example = refl

-- every call is the record that the model's definitions write for it
abbrev every_name : List String
every_name =
    "cre_tsk itskpri=1\n"
    ∷ "del_tsk tskid=2\n"
    ∷ "sta_tsk tskid=3\n"
    ∷ "ext_tsk\n"
    ∷ "ter_tsk tskid=4\n"
    ∷ "chg_pri tskid=5 tskpri=6\n"
    ∷ "cre_mtx mtxatr=7 ceilpri=8\n"
    ∷ "del_mtx mtxid=9\n"
    ∷ "loc_mtx mtxid=10 tmout=11\n"
    ∷ "unl_mtx mtxid=12\n"
    ∷ "cre_mbf mbfatr=13 bufsz=14 maxmsz=15\n"
    ∷ "del_mbf mbfid=16\n"
    ∷ "snd_mbf mbfid=17 msgsz=18 tmout=19\n"
    ∷ "rcv_mbf mbfid=20 tmout=21\n"
    ∷ "cre_mpf mpfatr=22 mpfcnt=23 blfsz=24\n"
    ∷ "del_mpf mpfid=25\n"
    ∷ "get_mpf mpfid=26 tmout=27\n"
    ∷ "rel_mpf mpfid=28 blf=29\n"
    ∷ "tick\n"
    ∷ []

abbrev every_call : List (List ℕ)
every_call =
    record_bytes (CreTsk (pos 1)) []
    ∷ record_bytes (DelTsk (pos 2)) []
    ∷ record_bytes (StaTsk (pos 3)) []
    ∷ record_bytes ExtTsk []
    ∷ record_bytes (TerTsk (pos 4)) []
    ∷ record_bytes (ChgPri (pos 5) (pos 6)) []
    ∷ record_bytes (CreMtx (pos 7) (pos 8)) []
    ∷ record_bytes (DelMtx (pos 9)) []
    ∷ record_bytes (LocMtx (pos 10) (pos 11)) []
    ∷ record_bytes (UnlMtx (pos 12)) []
    ∷ record_bytes (CreMbf (pos 13) (pos 14) (pos 15)) []
    ∷ record_bytes (DelMbf (pos 16)) []
    ∷ record_bytes (SndMbf (pos 17) (pos 18) (pos 19)) (zeros message_bytes)
    ∷ record_bytes (RcvMbf (pos 20) (pos 21)) []
    ∷ record_bytes (CreMpf (pos 22) (pos 23) (pos 24)) []
    ∷ record_bytes (DelMpf (pos 25)) []
    ∷ record_bytes (GetMpf (pos 26) (pos 27)) []
    ∷ record_bytes (RelMpf (pos 28) (pos 29)) []
    ∷ record_bytes Tick []
    ∷ []

pub every_record : assembled (joined (map ascii every_name)) ≡ Made (joined every_call)
unfolding compute
every_record = refl

-- no text is a script of no bytes
pub empty_text : assembled [] ≡ Made []
unfolding compute
empty_text = refl

-- a message between quotes and one in hexadecimal, a comment, numbers below zero
pub messages : assembled (ascii "snd_mbf 1 msgsz=2 -1 \"a\\x00\" # a\r\n\tsnd_mbf 1 2 -1 x6100")
    ≡ Made (
    0x22 ∷ 0x01 ∷ 0 ∷ 0 ∷ 0 ∷ 0x02 ∷ 0 ∷ 0 ∷ 0 ∷ 0xFF ∷ 0xFF ∷ 0xFF ∷ 0xFF ∷ 0x61 ∷ zeros 31
    ++ 0x22 ∷ 0x01 ∷ 0 ∷ 0 ∷ 0 ∷ 0x02 ∷ 0 ∷ 0 ∷ 0 ∷ 0xFF ∷ 0xFF ∷ 0xFF ∷ 0xFF ∷ 0x61 ∷ zeros 31
    )
unfolding compute
messages = refl

-- each reason but the script's length, with the number of its line
pub unknown_call : assembled (ascii "# first\n\ntick\ntock\n") ≡ WrongLine 4 UnknownCall
unfolding compute
unknown_call = refl

pub field_missing : assembled (ascii "cre_tsk # 5") ≡ WrongLine 1 FieldMissing
unfolding compute
field_missing = refl

pub not_a_number : assembled (ascii "tick\ncre_tsk 2147483648") ≡ WrongLine 2 NotANumber
unfolding compute
not_a_number = refl

pub other_field : assembled (ascii "loc_mtx tmout=1 5") ≡ WrongLine 1 OtherField
unfolding compute
other_field = refl

-- with a name or without one, a number of a field is refused for itself
pub named_number : assembled (ascii "cre_tsk itskpri=five") ≡ WrongLine 1 NotANumber
unfolding compute
named_number = refl

pub bad_message : assembled (ascii "snd_mbf 1 1 0 \"a") ≡ WrongLine 1 BadMessage
unfolding compute
bad_message = refl

pub long_message : assembled (ascii "snd_mbf 1 1 0 \"123456789012345678901234567890123\"") ≡ WrongLine 1 LongMessage
unfolding compute
long_message = refl

pub left_over : assembled (ascii "tick 1") ≡ WrongLine 1 LeftOver
unfolding compute
left_over = refl
