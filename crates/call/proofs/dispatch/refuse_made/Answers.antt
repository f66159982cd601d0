-- `refuse_made` meets its contract: each arm asks the conditions of its call. Assumes nothing.
use mathlib.Core.Path.{refl}
use Rattle.model.specs.declared.call.Call.TheVariants.{CreTsk, DelTsk, StaTsk, TerTsk, ChgPri, CreMtx, DelMtx, LocMtx, UnlMtx, CreMbf, DelMbf, SndMbf, RcvMbf, CreMpf, DelMpf, GetMpf, RelMpf}
use Rattle.model.specs.Refusal.{refusals}
use Rattle.call.proofs.Dispatching.{one, two, three, made-refused}
use Rattle.call.proofs.dispatch.refuse_made.Goals as goal

pub returns-in-CreTsk : goal.returns-in-CreTsk
unfolding refusals
returns-in-CreTsk c =
    made-refused (one CreTsk _ c.in-CreTsk.is c.in-CreTsk.known_told-1-own.given.0.1) _ _
    (c.requires.caller_value, c.requires.le_caller) c.refuse_cre_tsk.ensures

pub returns-in-DelTsk : goal.returns-in-DelTsk
unfolding refusals
returns-in-DelTsk c =
    made-refused (one DelTsk _ c.in-DelTsk.is c.in-DelTsk.known_told-in-DelTsk-1-own.given.0.1) _ _
    (c.requires.caller_value, c.requires.le_caller) c.refuse_not_dormant.ensures

pub returns-in-StaTsk : goal.returns-in-StaTsk
unfolding refusals
returns-in-StaTsk c =
    made-refused (one StaTsk _ c.in-StaTsk.is c.in-StaTsk.known_told-in-StaTsk-1-own.given.0.1) _ _
    (c.requires.caller_value, c.requires.le_caller) c.refuse_not_dormant-in-StaTsk.ensures

pub returns-in-ExtTsk : goal.returns-in-ExtTsk
unfolding refusals
returns-in-ExtTsk c = made-refused c.in-ExtTsk.is _ _ (c.requires.caller_value, c.requires.le_caller) refl

pub returns-in-TerTsk : goal.returns-in-TerTsk
unfolding refusals
returns-in-TerTsk c =
    made-refused (one TerTsk _ c.in-TerTsk.is c.in-TerTsk.known_told-in-TerTsk-1-own.given.0.1) _ _
    (c.requires.caller_value, c.requires.le_caller) c.refuse_ter_tsk.ensures

pub returns-in-ChgPri : goal.returns-in-ChgPri
unfolding refusals
returns-in-ChgPri c =
    made-refused (two ChgPri _ _ c.in-ChgPri.is c.in-ChgPri.known_told-in-ChgPri-1-own.given.0.1 c.in-ChgPri.known_told-in-ChgPri-1-own.given.1.0.1) _ _
    (c.requires.caller_value, c.requires.le_caller) c.refuse_chg_pri.ensures

pub returns-in-CreMtx : goal.returns-in-CreMtx
unfolding refusals
returns-in-CreMtx c =
    made-refused (two CreMtx _ _ c.in-CreMtx.is c.in-CreMtx.known_told-in-CreMtx-1-own.given.0.1 c.in-CreMtx.known_told-in-CreMtx-1-own.given.1.0.1) _ _
    (c.requires.caller_value, c.requires.le_caller) c.refuse_cre_mtx.ensures

pub returns-in-DelMtx : goal.returns-in-DelMtx
unfolding refusals
returns-in-DelMtx c =
    made-refused (one DelMtx _ c.in-DelMtx.is c.in-DelMtx.known_told-in-DelMtx-1-own.given.0.1) _ _
    (c.requires.caller_value, c.requires.le_caller) c.refuse_del_mtx.ensures

pub returns-in-LocMtx : goal.returns-in-LocMtx
unfolding refusals
returns-in-LocMtx c =
    made-refused (two LocMtx _ _ c.in-LocMtx.is c.in-LocMtx.known_told-in-LocMtx-1-own.given.0.1 c.in-LocMtx.known_told-in-LocMtx-1-own.given.1.0.1) _ _
    (c.requires.caller_value, c.requires.le_caller) c.refuse_loc_mtx.ensures

pub returns-in-UnlMtx : goal.returns-in-UnlMtx
unfolding refusals
returns-in-UnlMtx c =
    made-refused (one UnlMtx _ c.in-UnlMtx.is c.in-UnlMtx.known_told-in-UnlMtx-1-own.given.0.1) _ _
    (c.requires.caller_value, c.requires.le_caller) c.refuse_unl_mtx.ensures

pub returns-in-CreMbf : goal.returns-in-CreMbf
unfolding refusals
returns-in-CreMbf c =
    made-refused (three CreMbf _ _ _ c.in-CreMbf.is c.in-CreMbf.known_told-in-CreMbf-1-own.given.0.1 c.in-CreMbf.known_told-in-CreMbf-1-own.given.1.0.1
    c.in-CreMbf.known_told-in-CreMbf-1-own.given.1.1.0.1) _ _ (c.requires.caller_value, c.requires.le_caller) c.refuse_cre_mbf.ensures

pub returns-in-DelMbf : goal.returns-in-DelMbf
unfolding refusals
returns-in-DelMbf c =
    made-refused (one DelMbf _ c.in-DelMbf.is c.in-DelMbf.known_told-in-DelMbf-1-own.given.0.1) _ _
    (c.requires.caller_value, c.requires.le_caller) c.refuse_del_mbf.ensures

pub returns-in-SndMbf : goal.returns-in-SndMbf
unfolding refusals
returns-in-SndMbf c =
    made-refused (three SndMbf _ _ _ c.in-SndMbf.is c.in-SndMbf.known_told-in-SndMbf-1-own.given.0.1 c.in-SndMbf.known_told-in-SndMbf-1-own.given.1.0.1
    c.in-SndMbf.known_told-in-SndMbf-1-own.given.1.1.0.1) _ _ (c.requires.caller_value, c.requires.le_caller) c.refuse_snd_mbf.ensures

pub returns-in-RcvMbf : goal.returns-in-RcvMbf
unfolding refusals
returns-in-RcvMbf c =
    made-refused (two RcvMbf _ _ c.in-RcvMbf.is c.in-RcvMbf.known_told-in-RcvMbf-1-own.given.0.1 c.in-RcvMbf.known_told-in-RcvMbf-1-own.given.1.0.1) _ _
    (c.requires.caller_value, c.requires.le_caller) c.refuse_rcv_mbf.ensures

pub returns-in-CreMpf : goal.returns-in-CreMpf
unfolding refusals
returns-in-CreMpf c =
    made-refused (three CreMpf _ _ _ c.in-CreMpf.is c.in-CreMpf.known_told-in-CreMpf-1-own.given.0.1 c.in-CreMpf.known_told-in-CreMpf-1-own.given.1.0.1
    c.in-CreMpf.known_told-in-CreMpf-1-own.given.1.1.0.1) _ _ (c.requires.caller_value, c.requires.le_caller) c.refuse_cre_mpf.ensures

pub returns-in-DelMpf : goal.returns-in-DelMpf
unfolding refusals
returns-in-DelMpf c =
    made-refused (one DelMpf _ c.in-DelMpf.is c.in-DelMpf.known_told-in-DelMpf-1-own.given.0.1) _ _
    (c.requires.caller_value, c.requires.le_caller) c.refuse_del_mpf.ensures

pub returns-in-GetMpf : goal.returns-in-GetMpf
unfolding refusals
returns-in-GetMpf c =
    made-refused (two GetMpf _ _ c.in-GetMpf.is c.in-GetMpf.known_told-in-GetMpf-1-own.given.0.1 c.in-GetMpf.known_told-in-GetMpf-1-own.given.1.0.1) _ _
    (c.requires.caller_value, c.requires.le_caller) c.refuse_get_mpf.ensures

pub returns-in-RelMpf : goal.returns-in-RelMpf
unfolding refusals
returns-in-RelMpf c =
    made-refused (two RelMpf _ _ c.in-RelMpf.is c.in-RelMpf.known_told-in-RelMpf-1-own.given.0.1 c.in-RelMpf.known_told-in-RelMpf-1-own.given.1.0.1) _ _
    (c.requires.caller_value, c.requires.le_caller) c.refuse_rel_mpf.ensures

pub returns-in-Tick : goal.returns-in-Tick
unfolding refusals
returns-in-Tick c = made-refused c.in-Tick.is _ _ (c.requires.caller_value, c.requires.le_caller) refl
