-- The names that proofs about the definitions use, passed on from where they are declared: numbers, paths, lists and tests, then the definitions
-- topic by topic. A file of proofs has them from here, with one line.
pub use Prim.Native.Nat.{ℕ, zero, suc, pred, ◌+◌, ◌*◌, ◌-◌, ◌^◌, ◌≤◌, ◌<◌, min}
pub use native.Mathlib.Nat.{add-suc, add-zero, suc-add, zero-add}
pub use native.Mathlib.Decide.{ℕ_discrete, dec_le}
pub use native.Mathlib.Omega.{arith}
pub use mathlib.Core.Path.{◌≡◌, ◌∙◌, refl, sym, ap, ap₂, subst, fun_ext}
pub use mathlib.Core.Logic.{◌≢◌, ◌⊎◌, inl, inr, ◌↔◌}
pub use mathlib.Core.Bool.{Bool, true, false, ◌&&◌, ◌||◌, not, cond, false≢true}
pub use mathlib.Core.Option.{Option, none, some, map as Option·map}
pub use mathlib.Core.List.{List, [], ◌∷◌, ◌++◌, map, foldl, append_assoc, append-nil, foldl-append, map-append}
pub use lib.ListN.{length, get_or, take, drop, set, length-append, length-drop, length-map, length-replicate, length-set, length-take, get_or-eq_default as List·getD-eq-default}
pub use lib.Seq.{ext_get_or, get_or-set_same, get_or-set_other, set-get_or, set_out, set-set, length-sets}
pub use lib.IntN.{ℤ, pos, negsuc}
pub use lib.Signed.{lt_z, le_z, mag}
pub use lib.Dec.{eqb, leb, ltb}
pub use borrow.Author.Tests.{eq-eqb, ne_eqb, eqb-true, eqb-false, le-leb, lt-leb, leb-true, leb-false, lt-ltb, le-ltb, ltb-true, ltb-false, not-true, not-false}
pub use Rattle.model.specs.Sizes.{tasks, priorities, mutexes, buffers, pools, message_bytes, region_bytes, blocks, block_bytes, pool_bytes, store_bytes, outbox_bytes, log_bytes, script_bytes, longest, endless}
pub use Rattle.model.specs.Lists.{◌!◌, count_from, up_to, zeros, padded, joined, sum, keep, select, all, any, place_where, first_where, member, without, head_of, occurrences, same, all_zero, implies, within}
pub use Rattle.model.specs.Code.{minus, E_OK, E_SYS, E_RSATR, E_PAR, E_ID, E_CTX, E_ILUSE, E_NOMEM, E_LIMIT, E_OBJ, E_NOEXS, E_TMOUT, E_DLT, low_byte, bytes4, number4, signed, bits, saturated, code_bytes, number}
pub use Rattle.model.specs.Facts.{absent, dormant, ready, locking, sending, receiving, getting, Queue, queue, ready_queue, Facts, inherits, ceilinged}
unfoldable pub use Rattle.model.specs.Priority.{linked, holder_awaited, own_priority, effective, effectives}
pub use Rattle.model.specs.Priority.{Linked, most_urgent}
unfoldable pub use Rattle.model.specs.Queue.{by_priority, ordered, order, front, would_head, next_to_run, ready_at, ready_bitmap, with_priority}
pub use Rattle.model.specs.Queue.{insert, sorted, search_ready}
unfoldable pub use Rattle.model.specs.Kernel.{with_tasks, with_arrivals, with_mutexes, with_buffers, with_pools, with_place, with_object, with_argument, with_initial, with_base, with_current, with_left, with_mutex_exists, with_mutex_attribute, with_ceiling, with_holder, with_buffer_exists, with_buffer_attribute, with_bufsz, with_maxmsz, with_used, with_pool_exists, with_pool_attribute, with_count, with_size, with_taken, with_currents, fresh, others, departed, arrived, stands_in, facts}
pub use Rattle.model.specs.Kernel.{Tasks, Mutexes, Buffers, Pools, Kernel, with_bitmap, slot, fresh_tasks, no_mutexes, no_buffers, no_pools, numbered}
unfoldable pub use Rattle.model.specs.World.{with_kernel, with_store, with_outbox, with_ended, queue_order, queue_front, heads_queue, running, recompute}
pub use Rattle.model.specs.World.{Lent, Delivery, Ended, World, begun, lent_of, with_fresh_bits, with_fresh_bit, Nothing, Message, Block}
unfoldable pub use Rattle.model.specs.Message.{handed, over, overwritten, cost, room, packed, appended, oldest_length, oldest, removed, part, with_part, region, with_region, outbox_message, with_outbox_message}
pub use Rattle.model.specs.Message.{rounded_up}
unfoldable pub use Rattle.model.specs.Act.{arrive, recompute_if, settled, wait, leave_kernel, leave_outbox, leave, end_wait, end_waits, release, release_all, become_dormant, fits, store_message, senders_message, first_fits, store_first, drain, unused}
pub use Rattle.model.specs.Act.{millis, serve}
unfoldable pub use Rattle.model.specs.Refusal.{nobody_runs, bad_attribute, bad_timeout, bad_field, dirty_tail, bad_number, no_such, handed_out, chosen_task, chosen_base, above_ceiling, none_free, pool_sum, no_time, lock_waits, storable, send_waits, receive_waits, free_block, cre_tsk_refusals, dormant_refusals, ter_tsk_refusals, chg_pri_refusals, cre_mtx_refusals, loc_mtx_refusals, unl_mtx_refusals, cre_mbf_refusals, snd_mbf_refusals, rcv_mbf_refusals, cre_mpf_refusals, get_mpf_refusals, rel_mpf_refusals, deletion_refusals, refusals}
pub use Rattle.model.specs.Refusal.{Refusal, refuse, first_refusal, outside, mutex_attributes, buffer_attributes, pool_attributes}
unfoldable pub use Rattle.model.specs.Effect.{cre_tsk, del_tsk, sta_tsk, ext_tsk, ter_tsk, arrives_anew, rejoin, chg_pri, cre_mtx, del_mtx, loc_mtx, unl_mtx, cre_mbf, del_mbf, snd_mbf, take_oldest, rcv_mbf, cre_mpf, del_mpf, get_mpf, rel_mpf, tick_task, tick, perform, effect}
pub use Rattle.model.specs.Effect.{Done, answered, succeeds, waits}
unfoldable pub use Rattle.model.specs.Valid.{TaskRange, task_range, MutexRange, mutex_range, BufferRange, buffer_range, PoolRange, pool_range, BlockFlag, block_flag, awaitable, Argument, argument, Wait, wait_fields, Arrivals, arrivals, Priorities, current_priorities, Bitmap, right_bitmap, Ceiling, ceiling, Locking, locking_task, Getting, getting_task, Receiving, receiving_task, FirstSender, first_sender, Outbox, outbox_part, valid}
pub use Rattle.model.specs.Valid.{Each, task_lists, mutex_lists, buffer_lists, pool_lists, ByNumber, TaskLists, MutexLists, BufferLists, PoolLists, lists, Lengths, lengths, From, Layout, layout, RegionLayout, region_layout, Valid}
unfoldable pub use Rattle.model.specs.Words.{sizes, from_fields, fields, kernel, words}
pub use Rattle.model.specs.Words.{word_count}
unfoldable pub use Rattle.model.specs.Step.{fresh_lent, refused, carried_out, valid_step, step}
pub use Rattle.model.specs.Step.{Outcome}
unfoldable pub use Rattle.model.specs.Record.{kinds, row_of, body_length, field, read_here, read_record, message_here, record_message, kind_of, fields_of, record_bytes}
pub use Rattle.model.specs.Record.{Row, row, kind_count, lookup, body_entry, Fit, FieldsFit}
unfoldable pub use Rattle.model.specs.Log.{answer_bytes, delivery_bytes, ended_bytes, runs_bytes, outcome_log}
pub use Rattle.model.specs.Log.{stop_bytes, too_long_bytes}
unfoldable pub use Rattle.model.specs.Script.{run, run_script, script_log}
pub use Rattle.model.specs.Script.{Ran, ran, log_then, run_from}
unfoldable pub use Rattle.model.specs.Lent.{is_valid, with_log, untouched, not_valid, returned, lent_step, script_over, went, lent_record}
pub use Rattle.model.specs.Lent.{lent, Areas, Returned, Went, progress_answer}
unfoldable pub use Rattle.model.specs.Ledger.{with_task_entry, with_mutex_entry, with_buffer_entry, with_pool_entry, with_lines, fresh_ledger, line, depart, join, line_of, standing, ledger_facts, ledger_priorities, ledger_order, ledger_runs, on_task, holds, on_mutex, falls_dormant, starts, rebased, joins_anew, rejoins, changes, answered_with, waits_in, waiting, ends_wait, entered}
pub use Rattle.model.specs.Ledger.{TaskEntry, MutexEntry, Ledger, entries}
