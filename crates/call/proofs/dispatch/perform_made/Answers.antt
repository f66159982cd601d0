-- `perform_made` meets its contract: each arm is one case of the definition. Assumes nothing.
use Rattle.model.specs.declared.call.Call.TheVariants.{CreTsk, DelTsk, StaTsk, TerTsk, ChgPri, CreMtx, DelMtx, LocMtx, UnlMtx, CreMbf, DelMbf, SndMbf, RcvMbf, CreMpf, DelMpf, GetMpf, RelMpf}
use Rattle.model.specs.Refusal.{refusals}
use Rattle.model.specs.Effect.{perform}
use Rattle.call.proofs.Dispatching.{one, two, three, made-allowed, made-carries, made-valid, made-answerable}
use Rattle.call.proofs.dispatch.perform_made.Goals as goal

pub cre_tsk-requires : goal.cre_tsk-requires
unfolding refusals
cre_tsk-requires c =
    (made-allowed (one CreTsk _ c.in-CreTsk.is c.in-CreTsk.known_told-1-own.given.0.1) c.requires.allowed)

pub del_tsk-requires : goal.del_tsk-requires
unfolding refusals
del_tsk-requires c =
    (made-allowed (one DelTsk _ c.in-DelTsk.is c.in-DelTsk.known_told-in-DelTsk-1-own.given.0.1) c.requires.allowed)

pub sta_tsk-requires : goal.sta_tsk-requires
unfolding refusals
sta_tsk-requires c =
    (made-allowed (one StaTsk _ c.in-StaTsk.is c.in-StaTsk.known_told-in-StaTsk-1-own.given.0.1) c.requires.allowed)

pub ext_tsk-requires : goal.ext_tsk-requires
ext_tsk-requires c =
    c.requires.caller_value

pub ter_tsk-requires : goal.ter_tsk-requires
unfolding refusals
ter_tsk-requires c =
    (made-allowed (one TerTsk _ c.in-TerTsk.is c.in-TerTsk.known_told-in-TerTsk-1-own.given.0.1) c.requires.allowed)

pub chg_pri-requires : goal.chg_pri-requires
unfolding refusals
chg_pri-requires c =
    record {
      caller_value = c.requires.caller_value;
      le_caller = c.requires.le_caller;
      priority_value = made-allowed (two ChgPri _ _ c.in-ChgPri.is c.in-ChgPri.known_told-in-ChgPri-1-own.given.0.1
          c.in-ChgPri.known_told-in-ChgPri-1-own.given.1.0.1) c.requires.allowed;
    }

pub cre_mtx-requires : goal.cre_mtx-requires
unfolding refusals
cre_mtx-requires c =
    (made-allowed (two CreMtx _ _ c.in-CreMtx.is c.in-CreMtx.known_told-in-CreMtx-1-own.given.0.1 c.in-CreMtx.known_told-in-CreMtx-1-own.given.1.0.1) c.requires.allowed)

pub del_mtx-requires : goal.del_mtx-requires
unfolding refusals
del_mtx-requires c =
    (made-allowed (one DelMtx _ c.in-DelMtx.is c.in-DelMtx.known_told-in-DelMtx-1-own.given.0.1) c.requires.allowed)

pub loc_mtx-requires : goal.loc_mtx-requires
unfolding refusals
loc_mtx-requires c =
    let v = made-valid c.requires.allowed in
    let free = made-allowed (two LocMtx _ _ c.in-LocMtx.is c.in-LocMtx.known_told-in-LocMtx-1-own.given.0.1 c.in-LocMtx.known_told-in-LocMtx-1-own.given.1.0.1) c.requires.allowed in
    record { caller_value = c.requires.caller_value; timeout_value = free; priorities = v.is_priorities; bitmap = v.is_bitmap; each = v.is_locking }

pub unl_mtx-requires : goal.unl_mtx-requires
unfolding refusals
unl_mtx-requires c =
    let v = made-valid c.requires.allowed in
    record { mutex_value = made-allowed (one UnlMtx _ c.in-UnlMtx.is c.in-UnlMtx.known_told-in-UnlMtx-1-own.given.0.1) c.requires.allowed; priorities = v.is_priorities; bitmap = v.is_bitmap; arrivals = v.is_arrivals }

pub cre_mbf-requires : goal.cre_mbf-requires
unfolding refusals
cre_mbf-requires c =
    (made-allowed (three CreMbf _ _ _ c.in-CreMbf.is c.in-CreMbf.known_told-in-CreMbf-1-own.given.0.1 c.in-CreMbf.known_told-in-CreMbf-1-own.given.1.0.1
    c.in-CreMbf.known_told-in-CreMbf-1-own.given.1.1.0.1) c.requires.allowed)

pub del_mbf-requires : goal.del_mbf-requires
unfolding refusals
del_mbf-requires c =
    (made-allowed (one DelMbf _ c.in-DelMbf.is c.in-DelMbf.known_told-in-DelMbf-1-own.given.0.1) c.requires.allowed)

pub snd_mbf-requires : goal.snd_mbf-requires
unfolding refusals
snd_mbf-requires c =
    record {
      caller_value = c.requires.caller_value;
      message_value = made-allowed (three SndMbf _ _ _ c.in-SndMbf.is c.in-SndMbf.known_told-in-SndMbf-1-own.given.0.1 c.in-SndMbf.known_told-in-SndMbf-1-own.given.1.0.1
          c.in-SndMbf.known_told-in-SndMbf-1-own.given.1.1.0.1) c.requires.allowed;
    }

pub rcv_mbf-requires : goal.rcv_mbf-requires
unfolding refusals
rcv_mbf-requires c =
    let is = two RcvMbf _ _ c.in-RcvMbf.is c.in-RcvMbf.known_told-in-RcvMbf-1-own.given.0.1 c.in-RcvMbf.known_told-in-RcvMbf-1-own.given.1.0.1 in
    record { caller_value = c.requires.caller_value; timeout_value = made-allowed is c.requires.allowed; answerable = made-answerable is c.requires.allowed }

pub cre_mpf-requires : goal.cre_mpf-requires
unfolding refusals
cre_mpf-requires c =
    (made-allowed (three CreMpf _ _ _ c.in-CreMpf.is c.in-CreMpf.known_told-in-CreMpf-1-own.given.0.1 c.in-CreMpf.known_told-in-CreMpf-1-own.given.1.0.1
    c.in-CreMpf.known_told-in-CreMpf-1-own.given.1.1.0.1) c.requires.allowed)

pub del_mpf-requires : goal.del_mpf-requires
unfolding refusals
del_mpf-requires c =
    (made-allowed (one DelMpf _ c.in-DelMpf.is c.in-DelMpf.known_told-in-DelMpf-1-own.given.0.1) c.requires.allowed)

pub get_mpf-requires : goal.get_mpf-requires
unfolding refusals
get_mpf-requires c =
    record {
      caller_value = c.requires.caller_value;
      timeout_value = made-allowed (two GetMpf _ _ c.in-GetMpf.is c.in-GetMpf.known_told-in-GetMpf-1-own.given.0.1 c.in-GetMpf.known_told-in-GetMpf-1-own.given.1.0.1)
          c.requires.allowed;
    }

pub rel_mpf-requires : goal.rel_mpf-requires
unfolding refusals
rel_mpf-requires c =
    (made-allowed (two RelMpf _ _ c.in-RelMpf.is c.in-RelMpf.known_told-in-RelMpf-1-own.given.0.1 c.in-RelMpf.known_told-in-RelMpf-1-own.given.1.0.1) c.requires.allowed)

pub returns-in-CreTsk : goal.returns-in-CreTsk
unfolding perform
returns-in-CreTsk c = made-carries (one CreTsk _ c.in-CreTsk.is c.in-CreTsk.known_told-1-own.given.0.1) _ (c.cre_tsk.ensures.carries _ _)

pub returns-in-DelTsk : goal.returns-in-DelTsk
unfolding perform
returns-in-DelTsk c = made-carries (one DelTsk _ c.in-DelTsk.is c.in-DelTsk.known_told-in-DelTsk-1-own.given.0.1) _ (c.del_tsk.ensures.carries _ _)

pub returns-in-StaTsk : goal.returns-in-StaTsk
unfolding perform
returns-in-StaTsk c = made-carries (one StaTsk _ c.in-StaTsk.is c.in-StaTsk.known_told-in-StaTsk-1-own.given.0.1) _ (c.sta_tsk.ensures.carries _ _)

pub returns-in-ExtTsk : goal.returns-in-ExtTsk
unfolding perform
returns-in-ExtTsk c = made-carries c.in-ExtTsk.is _ (c.ext_tsk.ensures.carries _)

pub returns-in-TerTsk : goal.returns-in-TerTsk
unfolding perform
returns-in-TerTsk c =
    made-carries (one TerTsk _ c.in-TerTsk.is c.in-TerTsk.known_told-in-TerTsk-1-own.given.0.1) _
    (c.ter_tsk.ensures.carries _)

pub returns-in-ChgPri : goal.returns-in-ChgPri
unfolding perform
returns-in-ChgPri c =
    made-carries (two ChgPri _ _ c.in-ChgPri.is c.in-ChgPri.known_told-in-ChgPri-1-own.given.0.1 c.in-ChgPri.known_told-in-ChgPri-1-own.given.1.0.1) _
    (c.chg_pri.ensures.carries _ _)

pub returns-in-CreMtx : goal.returns-in-CreMtx
unfolding perform
returns-in-CreMtx c =
    made-carries (two CreMtx _ _ c.in-CreMtx.is c.in-CreMtx.known_told-in-CreMtx-1-own.given.0.1 c.in-CreMtx.known_told-in-CreMtx-1-own.given.1.0.1) _
    (c.cre_mtx.ensures.carries _ _)

pub returns-in-DelMtx : goal.returns-in-DelMtx
unfolding perform
returns-in-DelMtx c =
    made-carries (one DelMtx _ c.in-DelMtx.is c.in-DelMtx.known_told-in-DelMtx-1-own.given.0.1) _
    (c.del_mtx.ensures.carries _)

pub returns-in-LocMtx : goal.returns-in-LocMtx
unfolding perform
returns-in-LocMtx c =
    made-carries (two LocMtx _ _ c.in-LocMtx.is c.in-LocMtx.known_told-in-LocMtx-1-own.given.0.1 c.in-LocMtx.known_told-in-LocMtx-1-own.given.1.0.1) _
    (c.loc_mtx.ensures.carries _ _)

pub returns-in-UnlMtx : goal.returns-in-UnlMtx
unfolding perform
returns-in-UnlMtx c =
    made-carries (one UnlMtx _ c.in-UnlMtx.is c.in-UnlMtx.known_told-in-UnlMtx-1-own.given.0.1) _
    (c.unl_mtx.ensures.carries _)

pub returns-in-CreMbf : goal.returns-in-CreMbf
unfolding perform
returns-in-CreMbf c =
    made-carries (three CreMbf _ _ _ c.in-CreMbf.is c.in-CreMbf.known_told-in-CreMbf-1-own.given.0.1 c.in-CreMbf.known_told-in-CreMbf-1-own.given.1.0.1
    c.in-CreMbf.known_told-in-CreMbf-1-own.given.1.1.0.1) _ (c.cre_mbf.ensures.carries _ _)

pub returns-in-DelMbf : goal.returns-in-DelMbf
unfolding perform
returns-in-DelMbf c =
    made-carries (one DelMbf _ c.in-DelMbf.is c.in-DelMbf.known_told-in-DelMbf-1-own.given.0.1) _
    c.del_mbf.ensures

pub returns-in-SndMbf : goal.returns-in-SndMbf
unfolding perform
returns-in-SndMbf c =
    made-carries (three SndMbf _ _ _ c.in-SndMbf.is c.in-SndMbf.known_told-in-SndMbf-1-own.given.0.1 c.in-SndMbf.known_told-in-SndMbf-1-own.given.1.0.1
    c.in-SndMbf.known_told-in-SndMbf-1-own.given.1.1.0.1) _ c.snd_mbf.ensures

pub returns-in-RcvMbf : goal.returns-in-RcvMbf
unfolding perform
returns-in-RcvMbf c =
    made-carries (two RcvMbf _ _ c.in-RcvMbf.is c.in-RcvMbf.known_told-in-RcvMbf-1-own.given.0.1 c.in-RcvMbf.known_told-in-RcvMbf-1-own.given.1.0.1) _
    c.rcv_mbf.ensures

pub returns-in-CreMpf : goal.returns-in-CreMpf
unfolding perform
returns-in-CreMpf c =
    made-carries (three CreMpf _ _ _ c.in-CreMpf.is c.in-CreMpf.known_told-in-CreMpf-1-own.given.0.1 c.in-CreMpf.known_told-in-CreMpf-1-own.given.1.0.1
    c.in-CreMpf.known_told-in-CreMpf-1-own.given.1.1.0.1) _ (c.cre_mpf.ensures.carries _ _)

pub returns-in-DelMpf : goal.returns-in-DelMpf
unfolding perform
returns-in-DelMpf c =
    made-carries (one DelMpf _ c.in-DelMpf.is c.in-DelMpf.known_told-in-DelMpf-1-own.given.0.1) _
    (c.del_mpf.ensures.carries _)

pub returns-in-GetMpf : goal.returns-in-GetMpf
unfolding perform
returns-in-GetMpf c =
    made-carries (two GetMpf _ _ c.in-GetMpf.is c.in-GetMpf.known_told-in-GetMpf-1-own.given.0.1 c.in-GetMpf.known_told-in-GetMpf-1-own.given.1.0.1) _
    (c.get_mpf.ensures.carries _ _)

pub returns-in-RelMpf : goal.returns-in-RelMpf
unfolding perform
returns-in-RelMpf c =
    made-carries (two RelMpf _ _ c.in-RelMpf.is c.in-RelMpf.known_told-in-RelMpf-1-own.given.0.1 c.in-RelMpf.known_told-in-RelMpf-1-own.given.1.0.1) _
    (c.rel_mpf.ensures.carries _)

pub returns-in-Tick : goal.returns-in-Tick
unfolding perform
returns-in-Tick c = made-carries c.in-Tick.is _ ((c.tick.ensures _).carries _)
