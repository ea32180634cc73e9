use Rattle.std.proofs.Common.{◌++◌, append-nil, sym}
use Rattle.std.proofs.KnownBytes.{Appends-trans}
use Rattle.std.proofs.lemmas.Result.{IfErr-weaker, err_from_is_err_and, on_ok_weaker}
use Rattle.rbac_judge.proofs.BatchLemmas.{breaks_first, breaks_second}
use Rattle.rbac_judge.proofs.batch.put_answer.Goals as goal

pub returns-in-Ok-clause-written : goal.returns-in-Ok-clause-written
returns-in-Ok-clause-written g c =
    let grown = rw c.in-Ok.is at c.extend_from_slice.ensures.items in
    rw grown at c.make_room.ensures.written

pub returns-in-Ok-clause-fault : goal.returns-in-Ok-clause-fault
returns-in-Ok-clause-fault g c =
    let grown = rw c.in-Ok.is at c.extend_from_slice.ensures.items in
    rw grown at c.make_room.ensures.fault

pub returns-in_err-write_pending-in-Err-clause-fault : goal.returns-in_err-write_pending-in-Err-clause-fault
returns-in_err-write_pending-in-Err-clause-fault g c =
    let p = err_from_is_err_and c.from_residual.result c.from_residual.ensures.1 in
    let same = rw c.in-Err.is at c.extend_from_slice.ensures.items in
    let broken = rw same at c.in_err-write_pending-in-Err.ensures.fault in
    rw (p.1, p.2) (breaks_first _ _ _ c.args.answer.now _ broken)

pub returns-in_ok-write_pending-in-Err-clause-written : goal.returns-in_ok-write_pending-in-Err-clause-written
returns-in_ok-write_pending-in-Err-clause-written g c =
    let same = rw c.in-Err.is at c.extend_from_slice.ensures.items in
    let first = rw same at c.in_ok-write_pending-in-Err.ensures.written in
    on_ok_weaker c.write_all.result (λ second. (
      c.args.pending.now.items ++ c.args.answer.now,
      rw c.in_ok-write_pending-in-Err.ensures.none (sym (append-nil _)),
      Appends-trans _ _ _ c.args.pending.now.items c.args.answer.now first second,
    )) c.write_all.ensures.written

pub returns-in_ok-write_pending-in-Err-clause-fault : goal.returns-in_ok-write_pending-in-Err-clause-fault
returns-in_ok-write_pending-in-Err-clause-fault g c =
    let same = rw c.in-Err.is at c.extend_from_slice.ensures.items in
    let first = rw same at c.in_ok-write_pending-in-Err.ensures.written in
    IfErr-weaker c.write_all.result _ _ (λ e broken. breaks_second _ _ _ c.args.pending.now.items c.args.answer.now e first broken)
    c.write_all.ensures.fault
