-- `send` meets its contract, case by case. Assumes nothing.
use mathlib.Core.Path.{refl}
use mir.Facts.{to_z-of_z}
use Rattle.buffer.proofs.Sending.{nobody-receives, sends-as, sends-over}
use Rattle.state.proofs.WordLaws.{long}
use Rattle.buffer.proofs.send.send.Goals as goal

pub keep_or_wait-requires : goal.keep_or_wait-requires
keep_or_wait-requires c = record { caller_value = c.requires.caller_value; m_len_bound = c.requires.m_len_bound; b_value = nobody-receives _ c.word.ensures c.front-found.ensures c.in_default.is }

pub returns-in_default : goal.returns-in_default
returns-in_default c = sends-as _ _ _ refl (to_z-of_z c.ranges.timeout) c.keep_or_wait.ensures

pub returns : goal.returns
returns c = sends-over _ _ _ _ c.word.ensures c.front-found.ensures c.in-Some.is c.hand_over.ensures
